-- The laws of the marks: one of them set, a block linked, and a chain of blocks followed.
use Prim.Native.Nat.{ℕ, zero, suc, ◌+◌, ◌-◌, ◌<◌, ◌≤◌}
use mathlib.Core.Bool.{Bool, true, not, ◌&&◌}
use mathlib.Core.List.{List}
use mathlib.Core.Path.{◌≡◌, refl, sym, ap, ◌∙◌}
use native.Mathlib.Omega.{arith}
use lib.Dec.{ltb}
use lib.ListN.{get_or, length, length-set, set}
use lib.Seq.{get_or-set_other, get_or-set_same}
use borrow.Author.Tests.{eq-eqb, ltb-true, ne_eqb}
use Rattle.geometry.proofs.Laws.Shape.{by_test}
use Rattle.model.specs.declared.block.Block.{Block}
use Rattle.rules.proofs.Counting.{by_eq}
use Rattle.rules.specs.Drive.{clear_block}
use Rattle.scan.specs.Marks.{Linked, chain_before, chain_differs, chain_differs_in, mark, mark_count, same_serial}

-- The mark that is set, and any other.
pub set_mark : (m : List ℕ) (i v : ℕ) → i < length m → mark (set m i v) i ≡ v
set_mark m i v l = get_or-set_same m i v 0 l

pub other_mark : (m : List ℕ) (i j v : ℕ) → ¬ (j ≡ i) → mark (set m i v) j ≡ mark m j
other_mark m i j v ne = get_or-set_other m i j v 0 ne

-- ---- A block is linked

-- Block n behind the last block of its key.
pub linked : (m : List ℕ) (n key last : ℕ) → n < 256 → key < 256 → length m ≡ mark_count → last ≡ mark m (288 + key)
    → Linked n key last m (set (set m (288 + key) (n + 1)) (544 + n) (mark m (288 + key)))
linked m n key last l k long e =
    let v = mark m (288 + key) in
    let m1 = set m (288 + key) (n + 1) in
    let long1 : length m1 ≡ mark_count = length-set m (288 + key) (n + 1) ∙ long in
    record {
      entries = length-set m1 (544 + n) v ∙ length-set m (288 + key) (n + 1);
      last_is = e;
      end = other_mark m1 (544 + n) (288 + key) v (λ p. omega (arith, p, k)) ∙ set_mark m (288 + key) (n + 1) (omega (arith, long, k));
      link = set_mark m1 (544 + n) v (omega (arith, long1, l)) ∙ sym e;
      others = λ j a b. other_mark m1 (544 + n) j v b ∙ other_mark m (288 + key) j (n + 1) a;
    }

-- ---- A chain

-- A block's chain leads to smaller numbers.
pub chain_falls : (m : List ℕ) (at : ℕ) → 0 < at → chain_before m at < at
chain_falls m at l =
    by_test (ltb (mark m (544 + (at - 1))) at)
    (λ e. rw e (ltb-true (mark m (544 + (at - 1))) at e))
    (λ e. rw e l)

-- So it does not matter how many steps are allowed, if they are enough.
enough : (k l : ℕ) (bs : List Block) (m : List ℕ) (b : Block) (at : ℕ) → at ≤ k → at ≤ l
    → chain_differs_in k bs m b at ≡ chain_differs_in l bs m b at
unfolding chain_differs_in
enough zero zero bs m b at x y = refl
enough zero (suc l) bs m b at x y = let e : at ≡ 0 = omega (arith, x) in rw (eq-eqb at 0 e)
enough (suc k) zero bs m b at x y = let e : at ≡ 0 = omega (arith, y) in rw (eq-eqb at 0 e)
enough (suc k) (suc l) bs m b at x y = by_eq at 0
    (λ e. rw (eq-eqb at 0 e))
    (λ ne. let f = chain_falls m at (omega arith) in
    rw (ne_eqb at 0 ne) (ap (λ (z : Bool). not (ltb (length bs) at) && (not (same_serial b (get_or bs (at - 1) clear_block)) && z))
    (enough k l bs m b (chain_before m at) (omega (arith, f, x)) (omega (arith, f, y)))))

-- A block of the chain, then those before it.
pub chain_next : (bs : List Block) (m : List ℕ) (b : Block) (at : ℕ) → 0 < at
    → chain_differs bs m b at
    ≡ not (ltb (length bs) at) && (not (same_serial b (get_or bs (at - 1) clear_block)) && chain_differs bs m b (chain_before m at))
unfolding chain_differs_in
chain_next bs m b zero l = absurd (omega (arith, l))
chain_next bs m b (suc at) l =
    rw (ne_eqb (suc at) 0 (λ e. omega (arith, e)))
    (ap (λ (z : Bool). not (ltb (length bs) (suc at)) && (not (same_serial b (get_or bs (suc at - 1) clear_block)) && z))
    (enough at (chain_before m (suc at)) bs m b (chain_before m (suc at)) (omega (arith, chain_falls m (suc at) l)) (omega arith)))

pub chain_ends : (bs : List Block) (m : List ℕ) (b : Block) → chain_differs bs m b 0 ≡ true
unfolding chain_differs_in
chain_ends bs m b = refl
