-- Two open blocks of one placement have the same place, and no other two have.
use Prim.Native.Nat.{ℕ, ◌<◌, ◌≤◌}
use mathlib.Core.Bool.{Bool, true, false, true≢false, not, ◌&&◌, and_comm}
use mathlib.Core.Path.{◌≡◌, refl, sym}
use native.Mathlib.Omega.{arith}
use lib.Dec.{eqb, leb, ltb}
use borrow.Author.Tests.{eq-eqb, eqb-true, leb-true, lt-ltb, ltb-true, ne_eqb, not-true}
use Rattle.geometry.proofs.Laws.Shape.{both, by_test}
use Rattle.geometry.specs.Address.{is_domain_id}
use Rattle.model.specs.declared.block.State.{State}
use Rattle.model.specs.declared.block.State.TheVariants.{Closed, Free, Open}
use Rattle.model.specs.declared.block.Way.TheVariants.{Erase, Placement}
use Rattle.model.specs.declared.table.Table.{Table}
use Rattle.rules.proofs.Counting.{all_each, clash, each_all}
use Rattle.rules.specs.Counting.{all_to}
use Rattle.rules.specs.Drive.{block_at, is_free_state}
use Rattle.rules.specs.Soundness.{same_placement, state_below}
use Rattle.scan.specs.Clauses.{place_of, place_for, place_in, place_new}

-- The place of a holder and a placement is below 256 where both are in range, ..
pub place_below : (h p : ℕ) → is_domain_id h && ltb p 16 ≡ true → place_for h p < 256
place_below h p e =
    let q = both (is_domain_id h) (ltb p 16) e in
    let l = leb-true h 16 (both (leb 1 h) (leb h 16) q.0).1 in
    rw e (omega (arith, l, ltb-true p 16 q.1))

-- .. and only there, ..
place_in_range : (h p : ℕ) → place_for h p < 256 → is_domain_id h && ltb p 16 ≡ true
place_in_range h p l = by_test (is_domain_id h && ltb p 16) (λ e. e) (λ e. let k : 256 < 256 = rw e at l in absurd (omega (arith, k)))

-- .. and it tells both.
pub place_alone : (h k p q : ℕ) → place_for k q ≡ place_for h p → place_for h p < 256 → (h ≡ k) × (p ≡ q)
place_alone h k p q e l =
    let x = place_in_range h p l in
    let y = place_in_range k q (rw e l) in
    let m = both (is_domain_id h) (ltb p 16) x in
    let n = both (is_domain_id k) (ltb q 16) y in
    let f = rw (x, y) at e in
    let h1 = leb-true 1 h (both (leb 1 h) (leb h 16) m.0).0 in
    let k1 = leb-true 1 k (both (leb 1 k) (leb k 16) n.0).0 in
    let p1 = ltb-true p 16 m.1 in
    let q1 = ltb-true q 16 n.1 in
    (omega (arith, f, h1, k1, p1, q1), omega (arith, f, h1, k1, p1, q1))

-- Two open blocks of one placement have the same place, below 256, if their holder has no more than 16 placements.
pub place_shared : (s u : State) (h k most : ℕ) → most ≤ 16 → (is_free_state s ≡ false → is_domain_id h ≡ true) → state_below most s ≡ true
    → eqb h k ≡ true → same_placement s u ≡ true → (place_in u k ≡ place_in s h) × (place_in s h < 256)
place_shared Free u h k most l id below e same = absurd (true≢false (sym same))
place_shared (Open Erase) u h k most l id below e same = absurd (true≢false (sym same))
place_shared (Closed way) u h k most l id below e same = absurd (true≢false (sym same))
place_shared (Open (Placement p)) Free h k most l id below e same = absurd (true≢false (sym same))
place_shared (Open (Placement p)) (Open Erase) h k most l id below e same = absurd (true≢false (sym same))
place_shared (Open (Placement p)) (Closed way) h k most l id below e same = absurd (true≢false (sym same))
place_shared (Open (Placement p)) (Open (Placement q)) h k most l id below e same =
    let x = eqb-true h k e in
    let y = eqb-true q p same in
    let r : is_domain_id h && ltb p 16 ≡ true = rw (id refl, lt-ltb p 16 (omega (arith, ltb-true p most below))) in
    (rw (x, y), place_below h p r)

-- Two blocks with the same place below 256 are open blocks of one placement.
pub place_tells : (s u : State) (h k : ℕ) → place_in u k ≡ place_in s h → place_in s h < 256
    → (is_free_state s ≡ false) × (is_free_state u ≡ false) × (eqb h k ≡ true) × (same_placement s u ≡ true)
place_tells Free u h k e l = absurd (omega (arith, l))
place_tells (Open Erase) u h k e l = absurd (omega (arith, l))
place_tells (Closed way) u h k e l = absurd (omega (arith, l))
place_tells (Open (Placement p)) Free h k e l = absurd (omega (arith, e, l))
place_tells (Open (Placement p)) (Open Erase) h k e l = absurd (omega (arith, e, l))
place_tells (Open (Placement p)) (Closed way) h k e l = absurd (omega (arith, e, l))
place_tells (Open (Placement p)) (Open (Placement q)) h k e l =
    let a = place_alone h k p q e l in (refl, refl, eq-eqb h k a.0, eq-eqb q p (sym a.1))

-- A block's place is new where none before it has it, or it is no place.
pub place_apart : (t : Table) (n : ℕ) → place_new t n ≡ true → (m : ℕ) → m < n → place_of (block_at t n) < 256
    → ¬ (place_of (block_at t m) ≡ place_of (block_at t n))
unfolding place_new
place_apart t n new m l small e =
    let s = place_of (block_at t n) in
    let all : all_to (λ i. not (eqb (place_of (block_at t i)) s)) n ≡ true = inner (all_to (λ i. not (eqb (place_of (block_at t i)) s)) n) (rw (lt-ltb s 256 small) at new) in
    clash (eqb (place_of (block_at t m)) s) (eq-eqb _ _ e) (not-true _ (all_each n (λ i. not (eqb (place_of (block_at t i)) s)) all m l))
  where
    inner : (a : Bool) → not (not a && true) ≡ true → a ≡ true
    inner true e = refl
    inner false e = e

pub apart_new : (t : Table) (n : ℕ) → ((m : ℕ) → m < n → place_of (block_at t n) < 256 → ¬ (place_of (block_at t m) ≡ place_of (block_at t n)))
    → place_new t n ≡ true
unfolding place_new
apart_new t n apart =
    let s = place_of (block_at t n) in
    by_test (ltb s 256)
    (λ e. rw (e, each_all n (λ i. not (eqb (place_of (block_at t i)) s)) (λ i l. rw (ne_eqb (place_of (block_at t i)) s (apart i l (ltb-true s 256 e))))))
    (λ e. rw (e, and_comm))
