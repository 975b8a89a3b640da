-- That the blocks of a chain are all that have to be compared: a block's serial is new if none of its key's chain has it.
use Prim.Native.Nat.{ℕ, zero, suc, ◌+◌, ◌-◌, ◌<◌, ◌≤◌}
use mathlib.Core.Bool.{Bool, true, false, not, ◌&&◌, and_comm, and-true, cond}
use mathlib.Core.List.{List}
use mathlib.Core.Path.{◌≡◌, refl, sym, ap, ◌∙◌}
use native.Mathlib.Numerals.{add-one}
use native.Mathlib.Omega.{arith}
use lib.Dec.{eqb}
use lib.ListN.{get_or, length}
use borrow.Author.Tests.{eq-eqb, eqb-true, le-ltb, lt-ltb, ne_eqb}
use Rattle.geometry.proofs.Laws.Shape.{both, by_test}
use Rattle.model.specs.declared.block.Block.{Block}
use Rattle.model.specs.declared.table.Table.{Table}
use Rattle.rules.proofs.Counting.{all_next, all_none, all_same, by_eq}
use Rattle.rules.specs.Counting.{all_to, implies}
use Rattle.rules.specs.Drive.{block_at, clear_block, is_free}
use Rattle.rules.specs.Soundness.{same_holder, serials_differ}
use Rattle.scan.proofs.Marking.{chain_ends, chain_next}
use Rattle.scan.specs.Clauses.{key_of, last_to, same_key, serial_key, serial_new}
use Rattle.scan.specs.Marks.{chain_before, chain_differs, mark, same_serial}

-- ---- The last number that passes

pub last_next : (p : ℕ → Bool) (n : ℕ) → last_to p (n + 1) ≡ cond (p n) (n + 1) (last_to p n)
unfolding last_to
last_next p n = rw add-one

pub last_most : (p : ℕ → Bool) (n : ℕ) → last_to p n ≤ n
unfolding last_to
last_most p zero = omega arith
last_most p (suc n) = let h = last_most p n in by_test (p n) (λ q. rw q (omega arith)) (λ q. rw q (omega arith))

-- What is found passes.
pub last_passes : (p : ℕ → Bool) (n m : ℕ) → last_to p n ≡ suc m → p m ≡ true
unfolding last_to
last_passes p zero m e = absurd (omega (arith, e))
last_passes p (suc n) m e = by_test (p n)
    (λ q. let h : suc n ≡ suc m = sym (rw q) ∙ e in let k : n ≡ m = omega (arith, h) in rw (← k) q)
    (λ q. last_passes p n m (sym (rw q) ∙ e))

-- None is found where none passes.
pub last_none : (p : ℕ → Bool) (n : ℕ) → eqb (last_to p n) 0 ≡ all_to (λ i. not (p i)) n
unfolding last_to all_to
last_none p zero = refl
last_none p (suc n) = by_test (p n)
    (λ q. rw (q, ne_eqb (suc n) 0 (λ e. omega (arith, e))) (sym (off (all_to (λ i. not (p i)) n))))
    (λ q. rw (q, and-true) (last_none p n))
  where
    off : (b : Bool) → b && false ≡ false
    off true = refl
    off false = refl

-- Of numbers that pass q, only the last and those before it count.
skipped : (q p : ℕ → Bool) (n : ℕ) → all_to (λ i. implies (q i) (p i)) (last_to q n) ≡ all_to (λ i. implies (q i) (p i)) n
unfolding last_to all_to
skipped q p zero = refl
skipped q p (suc n) = let h = skipped q p n in by_test (q n) (λ e. rw (e, all_to, e)) (λ e. rw (e, and-true) h)

-- ---- Keys

pub key_held : (b : Block) → is_free b ≡ false → serial_key b ≡ key_of b.holder b.serial
unfolding serial_key
key_held b e = rw e

-- A block whose key is one of the 256 is not Free.
pub key_not_free : (b : Block) (k : ℕ) → k < 256 → eqb (serial_key b) k ≡ true → is_free b ≡ false
unfolding serial_key
key_not_free b k l e = by_test (is_free b)
    (λ f. let g : 256 ≡ k = sym (rw f) ∙ eqb-true (serial_key b) k e in absurd (omega (arith, g, l)))
    (λ f. f)

-- Blocks with the same serial have the same key.
key_shared : (b other : Block) → serials_differ b other ≡ false → eqb (serial_key other) (serial_key b) ≡ true
unfolding serial_key
key_shared b other e =
    let q = both (same_holder b other) (eqb b.serial other.serial) (off (same_holder b other && eqb b.serial other.serial) e) in
    let h = both (not (is_free b) && not (is_free other)) (eqb b.holder other.holder) q.0 in
    let f = both (not (is_free b)) (not (is_free other)) h.0 in
    let x = eqb-true b.holder other.holder h.1 in
    let y = eqb-true b.serial other.serial q.1 in
    let k = key_of other.holder other.serial in
    rw (shut (is_free b) f.0, shut (is_free other) f.1, x, y) (eq-eqb k k refl)
  where
    off : (c : Bool) → not c ≡ false → c ≡ true
    off true g = refl
    off false g = sym g

    shut : (c : Bool) → not c ≡ true → c ≡ false
    shut true g = sym g
    shut false g = refl

-- ---- A chain

-- What is left to compare of the chain of a key below m.
abbrev unseen : Table → ℕ → ℕ → Bool
unseen t n m = all_to (λ i. implies (same_key t (serial_key (block_at t n)) i) (serials_differ (block_at t n) (block_at t i))) m

-- At its start all is left: a block of another key has another serial.
chain_begins : (t : Table) (n : ℕ) → unseen t n (last_to (same_key t (serial_key (block_at t n))) n) ≡ serial_new t n
unfolding serial_new
chain_begins t n =
    skipped (same_key t (serial_key (block_at t n))) (λ i. serials_differ (block_at t n) (block_at t i)) n
    ∙ all_same n _ _ (λ i l. by_test (serials_differ (block_at t n) (block_at t i))
    (λ d. rw d (alike (same_key t (serial_key (block_at t n)) i)))
    (λ d. rw (key_shared (block_at t n) (block_at t i) d)))
  where
    alike : (b : Bool) → implies b true ≡ true
    alike true = refl
    alike false = refl

-- A block of the chain is compared, and the one before it comes next.
chain_goes_on : (t : Table) (n j : ℕ) → same_key t (serial_key (block_at t n)) j ≡ true
    → serials_differ (block_at t n) (block_at t j) && unseen t n (last_to (same_key t (serial_key (block_at t n))) j) ≡ unseen t n (j + 1)
chain_goes_on t n j same =
    rw (skipped (same_key t (serial_key (block_at t n))) (λ i. serials_differ (block_at t n) (block_at t i)) j, all_next, same)
    (and_comm (serials_differ (block_at t n) (block_at t j)) (unseen t n j))

-- What the marks have of the blocks below n that are held: the one before in its chain. The records are those of the table.
pub record Chain (t : Table) (n : ℕ) (bs : List Block) (marks : List ℕ) : Type 0 where
  pub inside : n < length bs
  pub records : (j : ℕ) → j < n → get_or bs j clear_block ≡ block_at t j
  pub before_is : (j : ℕ) → j < n → is_free (block_at t j) ≡ false
      → mark marks (544 + j) ≡ last_to (same_key t (serial_key (block_at t j))) j

-- Two blocks that are held have the same serial where holder and serial are equal.
held_differ : (b other : Block) → is_free b ≡ false → is_free other ≡ false → serials_differ b other ≡ not (same_serial b other)
held_differ b other e f = rw (e, f)

-- Following the chain in the marks is comparing what is left of it.
followed : (t : Table) (n : ℕ) (bs : List Block) (marks : List ℕ) (most at : ℕ) → Chain t n bs marks → is_free (block_at t n) ≡ false → at ≤ most → at ≤ n
    → ((j : ℕ) → at ≡ j + 1 → same_key t (serial_key (block_at t n)) j ≡ true)
    → chain_differs bs marks (block_at t n) at ≡ unseen t n at
followed t n bs marks zero at c held l w same =
    let e : at ≡ 0 = omega (arith, l) in rw (e, chain_ends, all_none)
followed t n bs marks (suc most) at c held l w same = by_eq at 0
    (λ e. rw (e, chain_ends, all_none))
    (λ ne.
    let b = block_at t n in
    let j = at - 1 in
    let e : at ≡ j + 1 = omega arith in
    let k : key_of b.holder b.serial < 256 = omega arith in
    let key = same j e in
    let open_key : eqb (serial_key (block_at t j)) (key_of b.holder b.serial) ≡ true = rw (key_held b held) at key in
    let free = key_not_free (block_at t j) (key_of b.holder b.serial) k open_key in
    let inside : j < n = omega arith in
    let equal : serial_key (block_at t j) ≡ serial_key b = eqb-true (serial_key (block_at t j)) (serial_key b) key in
    let link : mark marks (544 + j) ≡ last_to (same_key t (serial_key b)) j =
    c.before_is j inside free ∙ ap (λ (x : ℕ). last_to (same_key t x) j) equal in
    let most-j = last_most (same_key t (serial_key b)) j in
    let back : chain_before marks at ≡ last_to (same_key t (serial_key b)) j =
    rw (lt-ltb (mark marks (544 + j)) at (omega (arith, link, most-j))) link in
    let differs : not (same_serial b (get_or bs j clear_block)) ≡ serials_differ b (block_at t j) =
    rw (c.records j inside) (sym (held_differ b (block_at t j) held free)) in
    chain_next bs marks b at (omega arith)
    ∙ rw (le-ltb (length bs) at (omega (arith, c.inside)), differs, back) (ap (λ (x : Bool). serials_differ b (block_at t j) && x)
    (followed t n bs marks most (last_to (same_key t (serial_key b)) j) c held (omega (arith, most-j, l)) (omega (arith, most-j))
    (λ i f. last_passes (same_key t (serial_key b)) j i (f ∙ add-one i))))
    ∙ chain_goes_on t n j key ∙ ap (unseen t n) (sym e))

-- So, from the last block of the key on, it tells whether the serial is new.
pub chain_tells : (t : Table) (n : ℕ) (bs : List Block) (marks : List ℕ) → Chain t n bs marks → is_free (block_at t n) ≡ false
    → chain_differs bs marks (block_at t n) (last_to (same_key t (serial_key (block_at t n))) n) ≡ serial_new t n
chain_tells t n bs marks c held =
    let p = same_key t (serial_key (block_at t n)) in
    followed t n bs marks (last_to p n) (last_to p n) c held (omega arith) (last_most p n) (λ i f. last_passes p n i (f ∙ add-one i))
    ∙ chain_begins t n
