-- User addresses that can be told: where the start is not all ones, they are the numbers from the start on.
use Prim.Native.Nat.{ℕ, zero, suc, ◌+◌, ◌-◌, ◌^◌, ◌≤◌, ◌<◌}
use mathlib.Core.Bool.{Bool, true, false, not, ◌&&◌, ◌||◌}
use mathlib.Core.Path.{◌≡◌, sym, ◌∙◌}
use native.Mathlib.Nat.{div-add-mod'}
use native.Mathlib.Omega.{arith}
use lib.Dec.{eqb, leb}
use borrow.Author.Tests.{eqb-false, eqb-true, le-leb, leb-true, ne_eqb, not-true}
use Rattle.geometry.proofs.Laws.Shape.{both, by_test}
use Rattle.rules.proofs.Counting.{all_each, each_all, same_test}
use Rattle.rules.specs.Blocks.{all_ones, lba, user_address}
use Rattle.rules.specs.Counting.{all_to}
use Rattle.rules.specs.Questions.{user_addresses_fit}

-- Where the start is not all ones, ADU i carries start + i, ..
pub plain_address : (start i : ℕ) → eqb start all_ones ≡ false → user_address start i ≡ start + i
unfolding user_address
plain_address start i e = rw e (omega (arith, div-add-mod' start 1099511627776))

-- .. and where it is, the start.
pub ones_address : (start i : ℕ) → eqb start all_ones ≡ true → user_address start i ≡ start
unfolding user_address
ones_address start i e = rw e (sym (eqb-true start all_ones e))

-- What question 8 asks of each address.
abbrev pub fits_at : ℕ → ℕ → Bool
fits_at start i = leb (lba start + i) (2 ^ 40 - 1) && not (eqb (user_address start i) all_ones)

-- Where they fit and the start is not all ones, each fits.
pub each_fits : (start count i : ℕ) → eqb start all_ones ≡ false → user_addresses_fit start count ≡ true → i < count → fits_at start i ≡ true
unfolding user_addresses_fit
each_fits start count i e f l = all_each count (fits_at start) (rw e at f) i l

-- So the last LBA is below 2 ^ 40, and the last address below all ones.
pub fit_end : (start count : ℕ) → start ≤ all_ones → 1 ≤ count → eqb start all_ones ≡ false → user_addresses_fit start count ≡ true
    → (lba start + count ≤ 2 ^ 40) × (start + count ≤ all_ones)
fit_end start count most l e f =
    let h = both (leb (lba start + (count - 1)) (2 ^ 40 - 1)) (not (eqb (user_address start (count - 1)) all_ones)) (each_fits start count (count - 1) e f (omega arith)) in
    let low = leb-true (lba start + (count - 1)) (2 ^ 40 - 1) h.0 in
    let other = eqb-false (user_address start (count - 1)) all_ones (not-true _ h.1) in
    let ne : ¬ (start + (count - 1) ≡ all_ones) = λ s. other (plain_address start (count - 1) e ∙ s) in
    (omega arith, omega (arith, div-add-mod' start 1099511627776))

-- So what would come next is a user address too.
pub next_most : (start count : ℕ) → start ≤ all_ones → eqb start all_ones ≡ false → user_addresses_fit start count ≡ true → start + count ≤ all_ones
next_most start zero most e f = omega (arith, most)
next_most start (suc count) most e f = (fit_end start (suc count) most (omega arith) e f).1

-- A fit of so many is a fit of fewer.
pub fit_fewer : (start few count : ℕ) → few ≤ count → user_addresses_fit start count ≡ true → user_addresses_fit start few ≡ true
unfolding user_addresses_fit
fit_fewer start few count l f =
    by_test (eqb start all_ones)
    (λ e. rw e)
    (λ e. rw e (each_all few (fits_at start) (λ i k. each_fits start count i e f (omega arith))))

-- Where the last LBA and the last address fit, all do, ..
sums_fit : (start count : ℕ) → eqb start all_ones ≡ false → count ≤ all_ones
    → leb (lba start + count) (2 ^ 40) && leb start (all_ones - count) ≡ true
    → user_addresses_fit start count ≡ true
unfolding user_addresses_fit
sums_fit start count e small s =
    let h = both (leb (lba start + count) (2 ^ 40)) (leb start (all_ones - count)) s in
    let low = leb-true (lba start + count) (2 ^ 40) h.0 in
    let most = leb-true start (all_ones - count) h.1 in
    let each : (i : ℕ) → i < count → fits_at start i ≡ true = λ i l.
    rw (plain_address start i e, le-leb (lba start + i) (2 ^ 40 - 1) (omega arith), ne_eqb (start + i) all_ones (λ q. omega arith))
    in
    rw e (each_all count (fits_at start) each)

-- .. so that question 8 is asked of these alone.
pub fit_sums : (start count : ℕ) → start ≤ all_ones → 1 ≤ count → count ≤ 256
    → eqb start all_ones || (leb (lba start + count) (2 ^ 40) && leb start (all_ones - count)) ≡ user_addresses_fit start count
unfolding user_addresses_fit
fit_sums start count most l small =
    by_test (eqb start all_ones)
    (λ e. rw e)
    (λ e. rw e
    (same_test (leb (lba start + count) (2 ^ 40) && leb start (all_ones - count)) (all_to (fits_at start) count)
    (λ s. rw e at (sums_fit start count e (omega arith) s))
    (λ f. let h = fit_end start count most l e (rw e f) in
    rw (le-leb (lba start + count) (2 ^ 40) h.0, le-leb start (all_ones - count) (omega (arith, h.1))))))
