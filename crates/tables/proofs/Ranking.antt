-- Keys in order are keys by rising serial.
use Prim.Native.Nat.{ℕ, zero, suc, ◌≤◌, ◌<◌}
use mathlib.Core.Bool.{Bool, true, cond}
use mathlib.Core.List.{List, [], ◌∷◌, ◌++◌, append-nil}
use mathlib.Core.Option.{Option, none, some}
use mathlib.Core.Path.{◌≡◌, refl, sym, ◌∙◌, subst}
use native.Mathlib.Omega.{arith}
use lib.Dec.{eqb}
use lib.ListN.{length, length-append}
use borrow.Author.Tests.{eq-eqb, eqb-true, le-leb}
use Rattle.geometry.proofs.Laws.Shape.{by_test}
use Rattle.rules.proofs.Counting.{sum_same}
use Rattle.rules.proofs.Kept.Facts.{Facts}
use Rattle.rules.proofs.Serials.{WithSerial, by_serial_counted, serial_found}
use Rattle.rules.specs.Counting.{count_to, sum_to}
use Rattle.rules.specs.Drive.{Drive, block_at, block_with, by_serial, by_serial_to, domain_at, held_by, size, told_of}
use Rattle.rules.specs.Observation.{serial_at}
use Rattle.sorting.specs.Order.{in_order, rises, times_in}
use Rattle.sorting.proofs.Laws.{in_order_counts, in_order_sorted, rises_cons, rises_first, rises_rest, sorted_same, times_append}
use Rattle.tables.specs.Keys.{key_if, keys_to}

-- ---- Rows that rise

-- Every number of a row is below this one.
abbrev Under : ℕ → List ℕ → Type 0
Under most xs = (y : ℕ) → 1 ≤ times_in y xs → y < most

-- A row that rises, with one more at its end.
rises_more : (low x : ℕ) (xs : List ℕ) → low ≤ x → rises low xs ≡ true → Under x xs → rises low (xs ++ (x ∷ [])) ≡ true
unfolding rises times_in
rises_more low x [] l r u = rw (le-leb low x l)
rises_more low x (y ∷ xs) l r u =
    rises_cons low y (xs ++ (x ∷ [])) (rises_first low y xs r)
    (rises_more y x xs
    (let here = u y (rw (eq-eqb y y refl) (omega arith)) in omega (arith, here))
    (rises_rest low y xs r)
    (λ z some_there. u z (omega (arith, some_there))))

-- How often a number stands in a row of one, and of none.

once : (x key : ℕ) → times_in x (key ∷ []) ≡ cond (eqb key x) 1 0
unfolding times_in
once x key = omega arith

never : (x : ℕ) → times_in x [] ≡ 0
unfolding times_in
never x = refl

under_more : (most x : ℕ) (xs : List ℕ) → x < most → Under x xs → Under most (xs ++ (x ∷ []))
under_more most x xs l u y some_there =
    by_test (eqb x y)
    (λ e. omega (arith, l, eqb-true x y e))
    (λ e.
    let other : times_in y (x ∷ []) ≡ 0 = once y x ∙ rw e in
    let before : 1 ≤ times_in y xs = omega (arith, some_there, times_append y xs (x ∷ []), other) in
    omega (arith, l, u y before))

-- ---- How often a number stands among the keys

module _ (passes : ℕ → Bool) (key : ℕ → ℕ) where
  keys_counted : (x n : ℕ) → times_in x (keys_to passes key n) ≡ sum_to (λ i. cond (passes i) (cond (eqb (key i) x) 1 0) 0) n
  unfolding keys_to sum_to
  keys_counted x zero = never x
  keys_counted x (suc n) =
      times_append x (keys_to passes key n) (key_if passes key n)
      ∙ by_test (passes n)
      (λ e. rw (e, once x (key n)) (omega (arith, keys_counted x n)))
      (λ e. rw (e, never x) (omega (arith, keys_counted x n)))

  -- They are as many as pass.
  pub keys_many : (n : ℕ) → length (keys_to passes key n) ≡ count_to passes n
  unfolding keys_to sum_to
  keys_many zero = refl
  keys_many (suc n) =
      length-append (keys_to passes key n) (key_if passes key n)
      ∙ by_test (passes n) (λ e. rw e (omega (arith, keys_many n))) (λ e. rw e (omega (arith, keys_many n)))

-- The blocks that pass are the domain's; and the keys of one serial lie above those of all lower ones, from `least` of it on.
module _ (v : Drive) (d : ℕ) (low : 1 ≤ d) (facts : Facts v) (passes : ℕ → Bool) (key least : ℕ → ℕ)
    (own : (n : ℕ) → n < size v.table → passes n ≡ true → held_by d (block_at v.table n) ≡ true)
    (above : (n : ℕ) → n < size v.table → passes n ≡ true → (least (serial_at v n) ≤ key n) × (key n < least (suc (serial_at v n))))
    (grows : (s : ℕ) → least s ≤ least (suc s)) where
  abbrev ranks : ℕ → List ℕ
  ranks s = by_serial_to (key_if passes key) v.table d s

  -- The keys of the blocks with serials up to one.
  record Risen (s : ℕ) (row : List ℕ) : Type 0 where
    rise : rises 0 row ≡ true
    under : Under (least (suc s)) row

  further : (s : ℕ) (row : List ℕ) → Risen s row → Risen (suc s) row
  further s row r = record { rise = r.rise; under = λ y there. omega (arith, r.under y there, grows (suc s)) }

  with_key : (s : ℕ) (row : List ℕ) (n : ℕ) → (least (suc s) ≤ key n) × (key n < least (suc (suc s))) → Risen s row
      → Risen (suc s) (row ++ (key n ∷ []))
  with_key s row n here r =
      let below : Under (key n) row = λ y there. omega (arith, r.under y there, here.0) in
      record { rise = rises_more 0 (key n) row (omega arith) r.rise below; under = under_more (least (suc (suc s))) (key n) row here.1 below }

  risen_found : (s : ℕ) (row : List ℕ) (found : Option ℕ) → WithSerial v.table d (suc s) (size v.table) found → Risen s row
      → Risen (suc s) (row ++ told_of (key_if passes key) found)
  risen_found s row none o r = rw (append-nil row) (further s row r)
  risen_found s row (some n) o r =
      by_test (passes n)
      (λ e. rw e (with_key s row n (subst (λ (k : ℕ). (least k ≤ key n) × (key n < least (suc k))) o.2 (above n o.0 e)) r))
      (λ e. rw (e, append-nil row) (further s row r))

  risen : (s : ℕ) → Risen s (ranks s)
  unfolding by_serial_to rises
  risen zero = record { rise = refl; under = λ y there. absurd (omega (arith, there, never y)) }
  risen (suc s) = risen_found s (ranks s) (block_with v.table d (suc s)) (serial_found v.table d (suc s)) (risen s)

  pub ranked : in_order (keys_to passes key (size v.table)) ≡ by_serial (key_if passes key) v.table d
  ranked =
      let keys = keys_to passes key (size v.table) in
      sorted_same 0 0 (in_order keys) (ranks (domain_at v.table d).last) (in_order_sorted keys) (risen (domain_at v.table d).last).rise
      (λ x.
      in_order_counts x keys ∙ keys_counted passes key x (size v.table)
      ∙ sum_same (size v.table) _ _ (λ n l.
      by_test (passes n)
      (λ e. rw (e, own n l e, once x (key n)))
      (λ e. rw (e, never x) (by_test (held_by d (block_at v.table n)) (λ h. rw h) (λ h. rw h))))
      ∙ sym (by_serial_counted v d low facts (times_in x) (never x) (times_append x) (key_if passes key)))
