-- That a step for each block comes to the tests of all of them and to the right marks; and which block a place tells.
use Prim.Native.Nat.{ℕ, zero, suc, ◌+◌, ◌-◌, ◌<◌, ◌≤◌}
use mathlib.Core.Bool.{Bool, true, false, true≢false, ◌&&◌, cond}
use mathlib.Core.List.{List, [], ◌∷◌}
use mathlib.Core.Option.{Option, none, some}
use mathlib.Core.Path.{◌≡◌, refl, sym, ap, ◌∙◌, subst}
use native.Mathlib.Omega.{arith}
use lib.Dec.{eqb, ltb}
use lib.ListN.{get_or, length}
use borrow.Author.Tests.{eq-eqb, eqb-true, le-leb, lt-ltb, ltb-true, ne_eqb}
use Rattle.std.specs.Prelude.{Option as Maybe, Some, None}
use Rattle.geometry.proofs.Laws.Shape.{both, by_test}
use Rattle.geometry.specs.Address.{is_domain_id}
use Rattle.model.specs.declared.block.Block.{Block}
use Rattle.model.specs.declared.block.State.{State}
use Rattle.model.specs.declared.block.State.TheVariants.{Closed, Free, Open}
use Rattle.model.specs.declared.block.Way.TheVariants.{Erase, Placement}
use Rattle.model.specs.declared.table.Domain.{Domain}
use Rattle.model.specs.declared.table.Table.{Table}
use Rattle.rules.proofs.Counting.{all_each, all_next, clash, same_test}
use Rattle.rules.proofs.Kept.Tested.{block_facts, domain_facts, each_domain_lem, owned_by}
use Rattle.rules.proofs.Soundness.{apart}
use Rattle.rules.specs.Drive.{block_at, clear_block, domain_at, held_by, held_count, is_free_state, is_open_for, is_placed_state, open_block, open_block_to, open_count, size}
use Rattle.rules.specs.Soundness.{domain_sound, sound, state_below}
use Rattle.scan.proofs.Places.{place_alone, place_below}
use Rattle.scan.proofs.Steps.{Fitting, Marked, Next, at_place, scanned_next}
use Rattle.scan.specs.Clauses.{blocks_sound, holder_record, last_to, place_for, place_in, place_of}
use Rattle.scan.specs.Marks.{mark}
use Rattle.scan.specs.Scan.{Scanned, Walked, chain_passes}
use Rattle.scan.specs.Summary.{found_in, found_there, open_at}
use Rattle.scan.specs.declared.scan.Subject.{Subject}

-- ---- The scan

-- The tests of the first n blocks and of the next, and of all and of one of them.
sound_with : (t : Table) (n : ℕ) (ok : Bool) (after : List ℕ) → blocks_sound t n ≡ true → Next t n ok after → ok ≡ blocks_sound t (n + 1)
unfolding blocks_sound
sound_with t n ok after e next = next.tells ∙ sym (rw (all_next, e))

sound_each : (t : Table) (n m : ℕ) (ok : Bool) (after : List ℕ) → n < m → blocks_sound t m ≡ true → Next t n ok after → ok ≡ true
unfolding blocks_sound
sound_each t n m ok after l e next = next.tells ∙ all_each m _ e n l

-- What the scan answers and leaves, of a table whose first n blocks it found sound.
pub record Told (t : Table) (m : ℕ) (ok : Bool) (after : List ℕ) : Type 0 where
  pub tested : ok ≡ blocks_sound t m
  pub marked : ok ≡ true → Marked t m after

-- The marks stay as many.
pub walked_long : (s : Subject) (rs : List Domain) (all : List Block) (n : ℕ) (bs : List Block) (ok : Bool) (x y : List ℕ) → Walked s rs all n bs ok x y
    → length y ≡ length x
unfolding Walked
walked_long s rs all n [] ok x y walk = ap length walk.1
walked_long s rs all n (b ∷ bs) ok x y walk =
    by_test (chain_passes all walk.1 b walk.0)
    (λ q. walked_long s rs all (n + 1) bs ok walk.1 y (walk.4 q) ∙ walk.2.entries)
    (λ q. ap length (walk.3 q).1 ∙ walk.2.entries)

pub walked_told : (t : Table) (s : Subject) (all : List Block) (n : ℕ) (bs : List Block) (ok : Bool) (x y : List ℕ) → Fitting t s → n + length bs ≤ 256
    → n + length bs ≤ length all → ((i : ℕ) → i < length bs → block_at t (n + i) ≡ get_or bs i clear_block)
    → ((j : ℕ) → j < length all → get_or all j clear_block ≡ block_at t j) → Marked t n x → blocks_sound t n ≡ true
    → Walked s t.domains all n bs ok x y → Told t (n + length bs) ok y
unfolding Walked
walked_told t s all n [] ok x y a few inside same among w e walk =
    let z : n + 0 ≡ n = omega arith in
    rw (z, walk.1) (record { tested = walk.0 ∙ sym e; marked = λ _. w })
walked_told t s all n (b ∷ bs) ok x y a few inside same among w e walk =
    let here : block_at t n ≡ b = ap (block_at t) (sym (add-zero n)) ∙ same 0 (omega arith) in
    let last = walk.0 in
    let z = walk.1 in
    let step : Scanned s n (block_at t n) (holder_record t (block_at t n)) last x z = rw here walk.2 in
    let next = scanned_next t n s all last x z a (omega (arith, few)) (omega (arith, inside)) (λ j l. among j (omega (arith, l, inside))) w step in
    let alike : chain_passes all z (block_at t n) last ≡ chain_passes all z b last = ap (λ (c : Block). chain_passes all z c last) here in
    let long : n + 1 + length bs ≡ n + suc (length bs) = omega arith in
    by_test (chain_passes all z b last)
    (λ q.
    let more = walked_told t s all (n + 1) bs ok z y a (omega (arith, few)) (omega (arith, inside))
    (λ i k. ap (block_at t) (shift n i) ∙ same (suc i) (omega (arith, k))) among (next.marks (alike ∙ q))
    (sym (sound_with t n _ z e next) ∙ alike ∙ q) (walk.4 q) in
    subst (λ (k : ℕ). Told t k ok y) long more)
    (λ q.
    let no = (walk.3 q).0 in
    record {
      tested = no ∙ sym (by_test (blocks_sound t (n + suc (length bs)))
          (λ f. absurd (true≢false (sym (sound_each t n (n + suc (length bs)) _ z (omega arith) f next) ∙ alike ∙ q)))
          (λ f. f));
      marked = λ f. absurd (true≢false (sym f ∙ no));
    })
  where
    add-zero : (k : ℕ) → k + 0 ≡ k
    add-zero k = omega arith

    shift : (k i : ℕ) → k + 1 + i ≡ k + suc i
    shift k i = omega arith

-- ---- The open block of a placement

pub none_some : (m : ℕ) → none ≡ some m → ⊥
none_some m e = true≢false (sym (ap (λ (o : Option ℕ). there o) e))
  where
    there : Option ℕ → Bool
    there none = false
    there (some n) = true

pub some_same : (a b : ℕ) → some a ≡ some b → a ≡ b
some_same a b e = ap (λ (o : Option ℕ). value o) e
  where
    value : Option ℕ → ℕ
    value none = 0
    value (some n) = n

-- A block has a placement's place if the domain holds it and it is open for the placement.
at_place_lem : (b : Block) (d p : ℕ) → is_domain_id d && ltb p 16 ≡ true → eqb (place_of b) (place_for d p) ≡ held_by d b && is_open_for p b
unfolding place_of
at_place_lem b d p id = go b.state
  where
    small : place_for d p < 256
    small = place_below d p id

    off : (c : Bool) → c && false ≡ false
    off true = refl
    off false = refl

    away : (c : Bool) → eqb 256 (place_for d p) ≡ c && false
    away c = ne_eqb 256 (place_for d p) (λ q. omega (arith, q, small)) ∙ sym (off c)

    go : (x : State) → eqb (place_in x b.holder) (place_for d p) ≡ held_by d b && is_placed_state p x
    go Free = away (held_by d b)
    go (Open Erase) = away (held_by d b)
    go (Closed way) = away (held_by d b)
    go (Open (Placement q)) = same_test (eqb (place_for b.holder q) (place_for d p)) (held_by d b && eqb q p)
        (λ e. let f = place_alone d b.holder p q (eqb-true (place_for b.holder q) (place_for d p) e) small in
        rw (eq-eqb b.holder d (sym f.0), eq-eqb q p (sym f.1)))
        (λ e. let f = both (held_by d b) (eqb q p) e in
        eq-eqb (place_for b.holder q) (place_for d p) (rw (eqb-true b.holder d f.0, eqb-true q p f.1)))

-- What stands at the place, counted from 1, as a block.
abbrev numbered : ℕ → Maybe ℕ
numbered last = cond (eqb last 0) None (Some (last - 1))

-- The last block at a placement's place is its open block.
open_last : (t : Table) (d p n : ℕ) → n ≤ 256 → is_domain_id d && ltb p 16 ≡ true
    → found_in (found_there (numbered (last_to (at_place t (place_for d p)) n))) ≡ open_block_to t d p n
unfolding last_to open_block_to
open_last t d p zero l id = refl
open_last t d p (suc n) l id =
    let is = at_place_lem (block_at t n) d p id in
    by_test (held_by d (block_at t n) && is_open_for p (block_at t n))
    (λ q. rw (is ∙ q, q, ne_eqb (suc n) 0 (λ e. omega (arith, e)), back n, lt-ltb n 256 (omega (arith, l))))
    (λ q. rw (is ∙ q, q) (open_last t d p n (omega (arith, l)) id))
  where
    back : (k : ℕ) → suc k - 1 ≡ k
    back k = omega arith

-- On a sound drive a placement past the 16th, or of what is no domain's ID, has no open block.
placed_below : (p most : ℕ) (x : State) → is_placed_state p x ≡ true → state_below most x ≡ true → ltb p most ≡ true
placed_below p most Free e f = absurd (true≢false (sym e))
placed_below p most (Open Erase) e f = absurd (true≢false (sym e))
placed_below p most (Closed way) e f = absurd (true≢false (sym e))
placed_below p most (Open (Placement q)) e f = subst (λ (k : ℕ). ltb k most ≡ true) (eqb-true q p e) f

placed_held : (p : ℕ) (x : State) → is_placed_state p x ≡ true → is_free_state x ≡ false
placed_held p Free e = absurd (true≢false (sym e))
placed_held p (Open way) e = refl
placed_held p (Closed way) e = refl

open_ranges : (t : Table) (d p n : ℕ) → sound t ≡ true → n < size t → held_by d (block_at t n) && is_open_for p (block_at t n) ≡ true
    → is_domain_id d && ltb p 16 ≡ true
open_ranges t d p n y l e =
    let h = apart t y in
    let b = block_at t n in
    let q = both (held_by d b) (is_open_for p b) e in
    let own = block_facts _ _ _ b (all_each (size t) _ h.blocks n l) in
    let o = owned_by t b own (placed_held p b.state q.1) in
    let is = eqb-true b.holder d q.0 in
    let ofDomain = domain_facts (size t) (held_count t b.holder) (open_count t b.holder) (domain_at t b.holder)
    (each_domain_lem (λ i. domain_sound (size t) (held_count t i) (open_count t i) (domain_at t i)) h.domains b.holder o.low o.high) in
    let few = (ofDomain.existing o.exists).few_placements in
    let below = placed_below p (domain_at t b.holder).placements b.state q.1 o.below in
    rw (
      le-leb 1 d (rw is at o.low),
      le-leb d 16 (rw is at o.high),
      lt-ltb p 16 (omega (arith, few, ltb-true p (domain_at t b.holder).placements below)),
    )

open_none : (t : Table) (d p n : ℕ) → sound t ≡ true → n ≤ size t → is_domain_id d && ltb p 16 ≡ false → open_block_to t d p n ≡ none
unfolding open_block_to
open_none t d p zero y l id = refl
open_none t d p (suc n) y l id =
    by_test (held_by d (block_at t n) && is_open_for p (block_at t n))
    (λ q. clash (is_domain_id d && ltb p 16) (open_ranges t d p n y (omega (arith, l)) q) id)
    (λ q. rw q (open_none t d p n y (omega (arith, l)) id))

-- Which of two is taken.
picked : (c : Bool) (a b : Maybe ℕ) → c ≡ true → cond c a b ≡ a
picked true a b e = refl
picked false a b e = absurd (true≢false (sym e))

passed_by : (c : Bool) (a b : Maybe ℕ) → c ≡ false → cond c a b ≡ b
passed_by true a b e = absurd (true≢false e)
passed_by false a b e = refl

-- So the marks tell it.
pub open_told : (t : Table) (d p : ℕ) (m : List ℕ) → sound t ≡ true → size t ≤ 256 → Marked t (size t) m → found_in (found_there (open_at m d p)) ≡ open_block t d p
open_told t d p m y l w = by_test (is_domain_id d && ltb p 16)
    (λ e. ap (λ (f : Maybe ℕ). found_in (found_there f)) (picked (is_domain_id d && ltb p 16) (numbered (mark m (32 + place_for d p))) None e
    ∙ ap numbered (w.taken (place_for d p) (place_below d p e))) ∙ open_last t d p (size t) l e)
    (λ e. ap (λ (f : Maybe ℕ). found_in (found_there f)) (passed_by (is_domain_id d && ltb p 16) (numbered (mark m (32 + place_for d p))) None e)
    ∙ sym (open_none t d p (size t) y (omega arith) e))

-- It is one of the drive's.
pub open_inside : (t : Table) (d p n m : ℕ) → open_block_to t d p n ≡ some m → m < n
unfolding open_block_to
open_inside t d p zero m e = absurd (none_some m e)
open_inside t d p (suc n) m e =
    let c = held_by d (block_at t n) && is_open_for p (block_at t n) in
    let split : (z : Bool) → c ≡ z → cond z (some n) (open_block_to t d p n) ≡ some m =
    λ z q. ap (λ (z : Bool). cond z (some n) (open_block_to t d p n)) (sym q) ∙ e in
    by_test c
    (λ q. omega (arith, some_same n m (split true q)))
    (λ q. omega (arith, open_inside t d p n m (split false q)))
