-- Digits of numbers: how many there are, and the decimal ones.
use Prim.Native.Nat.{ℕ, min, max, zero, suc, ◌*◌, ◌-◌, ◌/◌, ◌^◌, ◌≤◌, ◌<◌}
use mathlib.Core.Path.{◌≡◌, refl, sym, ap, ◌∙◌}
use native.Mathlib.Nat.{div-lt_iff_lt-mul, le-div_iff_mul-le, lt_of_not-le, mod-eq_of_lt, one-le-pow, pow-le-pow_right, pow-suc}
use native.Mathlib.Numerals.{add-one}
use native.Mathlib.Omega.{arith}
use borrow.Author.Tests.{le-ltb, lt-ltb}
use lib.ListN.{length, length-append}
use Rattle.io.specs.Digits.{IsDigitCount, last_digits}
use Rattle.answer_lines.specs.Texts.{decimal, decimal_in}

-- So many digits.
length_digits : (base count n : ℕ) → length (last_digits base count n) ≡ count
length_digits base zero n = refl
length_digits base (suc count) n = simp (length-append, length_digits base count (n / base)) (add-one count)

-- Where so many places, no fewer than are asked for, hold the number, its fewest digits are no more.
no_more : (base least places n count : ℕ) → 0 < base → least ≤ places → n < base ^ places → IsDigitCount base least n count → count ≤ places
no_more base least places n count positive room fits f =
    let larger : suc places ≤ count → base ^ places ≤ base ^ (count - 1) = λ l. pow-le-pow_right positive (omega arith) in
    omega (arith, lt_of_not-le (λ (l : suc places ≤ count). omega (arith, larger l, f.2 (omega arith))))

-- Where the places that are asked for hold the number, they are the fewest.
fewest : (base least n count : ℕ) → 0 < base → n < base ^ least → IsDigitCount base least n count → count ≡ least
fewest base least n count positive fits f = omega (arith, no_more base least least n count positive (omega arith) fits f)

-- So many are the digits that `hex` makes where so many are asked for and hold the number.
pub asked : (width n count : ℕ) → (1 ≤ width) × (width ≤ 16) → n < 16 ^ width → IsDigitCount 16 (min (max width 1) 16) n count
    → count ≡ width
asked width n count allowed fits f =
    let width_asked : min (max width 1) 16 ≡ width = omega arith in
    fewest 16 width n count (omega arith) fits (rw width_asked at f)

-- A number with two digits more than so many is at least this.
lowest : (count n : ℕ) → IsDigitCount 10 1 n (suc (suc count)) → 10 ^ count * 10 ≤ n
lowest count n f =
    let last : suc (suc count) - 1 ≡ suc count = omega arith in
    rw (last, pow-suc) at (f.2 (omega arith))

-- Without its last digit a number takes one place less.
shorter : (count n : ℕ) → IsDigitCount 10 1 n (suc (suc count)) → IsDigitCount 10 1 (n / 10) (suc count)
shorter count n f =
    let front : suc count - 1 ≡ count = omega arith in (
      omega arith,
      (div-lt_iff_lt-mul {k = 10} (omega arith)).1 (rw pow-suc at f.1),
      λ more. rw front ((le-div_iff_mul-le {k = 10} (omega arith)).1 (lowest count n f)),
    )

-- The fewest digits of a number are its decimal text, in as many places or more.
fewest_decimal : (places count n : ℕ) → count ≤ places → IsDigitCount 10 1 n count → last_digits 10 count n ≡ decimal_in places n
unfolding decimal_in
fewest_decimal zero count n l f = absurd (omega arith)
fewest_decimal (suc places) zero n l f = absurd (omega arith)
fewest_decimal (suc places) (suc zero) n l f = let small : n < 10 = f.1 in rw (mod-eq_of_lt small, lt-ltb n 10 small)
fewest_decimal (suc places) (suc (suc count)) n l f =
    let large : 10 ≤ n = omega (arith, lowest count n f, one-le-pow count 10 (omega arith)) in
    rw (le-ltb n 10 large, ← fewest_decimal places (suc count) (n / 10) (omega arith) (shorter count n f))

-- The fewest digits of a number of 64 bits are its text ..
pub decimal_text : (count n : ℕ) → n < 18446744073709551616 → IsDigitCount 10 1 n count → last_digits 10 count n ≡ decimal n
decimal_text count n small f =
    fewest_decimal 20 count n (no_more 10 1 20 n count (omega arith) (omega arith) (omega arith) f) f

-- .. which has as many places.
pub length_decimal : (count n : ℕ) → n < 18446744073709551616 → IsDigitCount 10 1 n count → length (decimal n) ≡ count
length_decimal count n small f = ap length (sym (decimal_text count n small f)) ∙ length_digits 10 count n
