-- The candidate for the block to be opened next is the choice of the rules.
use Prim.Native.Nat.{ℕ, suc, ◌+◌, ◌<◌, ◌≤◌}
use mathlib.Core.Bool.{◌&&◌}
use mathlib.Core.List.{List, [], ◌∷◌}
use mathlib.Core.Option.{Option, none, some}
use mathlib.Core.Path.{◌≡◌, refl, sym, ap, ◌∙◌, subst}
use native.Mathlib.Numerals.{add-one}
use native.Mathlib.Omega.{arith}
use lib.Dec.{ltb}
use lib.ListN.{get_or, length}
use borrow.Author.Tests.{lt-ltb}
use Rattle.geometry.proofs.Laws.Shape.{by_test}
use Rattle.model.specs.declared.block.Block.{Block}
use Rattle.model.specs.declared.table.Table.{Table}
use Rattle.rules.proofs.Blocks.{Choice, choice}
use Rattle.rules.specs.Blocks.{better, chosen_to}
use Rattle.rules.specs.Drive.{block_at, clear_block, is_free}
use Rattle.scan.specs.Free.{Chosen, candidate, chosen_next, no_candidate}
use Rattle.scan.specs.Summary.{found_in, found_of}
use Rattle.scan.specs.declared.free.Candidate.{Candidate}

-- The chosen block with its erases beside it.
abbrev candidate_of : Table → Option ℕ → Candidate
candidate_of t none = no_candidate
candidate_of t (some m) = candidate m (block_at t m).erases

-- One block more.
candidate_next : (t : Table) (n : ℕ) (o : Option ℕ) → (block_at t n).erases < 4294967296
    → chosen_next (candidate_of t o) n (block_at t n) ≡ candidate_of t (better t n o)
candidate_next t n none few = by_test (is_free (block_at t n))
    (λ e. rw (e, lt-ltb (block_at t n).erases 4294967296 few))
    (λ e. rw e)
candidate_next t n (some m) few = by_test (is_free (block_at t n) && ltb (block_at t n).erases (block_at t m).erases)
    (λ e. rw e)
    (λ e. rw e)

chosen_next_lem : (t : Table) (n : ℕ) → chosen_to t (n + 1) ≡ better t n (chosen_to t n)
unfolding chosen_to
chosen_next_lem t n = rw add-one

-- A block more for each of a list, from number n on.
chosen_from : (t : Table) (n : ℕ) (bs : List Block) (c r : Candidate) → ((i : ℕ) → i < length bs → block_at t (n + i) ≡ get_or bs i clear_block)
    → c ≡ candidate_of t (chosen_to t n) → Chosen n bs c r → r ≡ candidate_of t (chosen_to t (n + length bs))
unfolding Chosen
chosen_from t n [] c r same is walk = let z : n + 0 ≡ n = omega arith in rw z (walk ∙ is)
chosen_from t n (b ∷ bs) c r same is walk =
    let here : block_at t n ≡ b = ap (block_at t) (sym (add-zero n)) ∙ same 0 (omega arith) in
    let few : (block_at t n).erases < 4294967296 = rw here walk.0 in
    let step : chosen_next c n b ≡ candidate_of t (chosen_to t (n + 1)) =
    ap (chosen_next c n) (sym here) ∙ ap (λ (x : Candidate). chosen_next x n (block_at t n)) is
    ∙ candidate_next t n (chosen_to t n) few ∙ ap (candidate_of t) (sym (chosen_next_lem t n)) in
    let more = chosen_from t (n + 1) bs (chosen_next c n b) r (λ i k. ap (block_at t) (shift n i) ∙ same (suc i) (omega (arith, k))) step walk.1 in
    let z : n + 1 + length bs ≡ n + suc (length bs) = omega arith in
    subst (λ (k : ℕ). r ≡ candidate_of t (chosen_to t k)) z more
  where
    add-zero : (k : ℕ) → k + 0 ≡ k
    add-zero k = omega arith

    shift : (k i : ℕ) → k + 1 + i ≡ k + suc i
    shift k i = omega arith

-- The candidate's number tells the choice.
candidate_found : (t : Table) (n : ℕ) (o : Option ℕ) → n ≤ 256 → Choice t n o → found_in (found_of (candidate_of t o).number) ≡ o
candidate_found t n none few c = refl
candidate_found t n (some m) few c = rw (lt-ltb m 256 (omega (arith, few, c.inside)))

-- So what is chosen among a table's first blocks is what the rules choose among them.
pub chosen_found : (t : Table) (bs : List Block) (r : Candidate) → length bs ≤ 256 → ((i : ℕ) → i < length bs → block_at t i ≡ get_or bs i clear_block)
    → Chosen 0 bs no_candidate r → found_in (found_of r.number) ≡ chosen_to t (length bs)
unfolding chosen_to
chosen_found t bs r few same walk =
    let is = chosen_from t 0 bs no_candidate r (λ i l. ap (block_at t) (zero_first i) ∙ same i l) refl walk in
    ap (λ (c : Candidate). found_in (found_of c.number)) is ∙ ap (λ (k : ℕ). found_in (found_of (candidate_of t (chosen_to t k)).number)) (zero_first (length bs))
    ∙ candidate_found t (length bs) (chosen_to t (length bs)) few (choice t (length bs))
  where
    zero_first : (k : ℕ) → 0 + k ≡ k
    zero_first k = omega arith
