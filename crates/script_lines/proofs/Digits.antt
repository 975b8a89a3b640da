-- A number is read digit by digit, as long as it stays below 2^64.
use Rattle.std.proofs.Common.{◌≡◌, ℕ, ◌+◌, ◌*◌, ◌<◌, ◌≤◌, List, [], ◌∷◌, Some, None, drop, length, get_or, refl}
use Rattle.std.proofs.Common.{drop-cons, add-one, arith}
use Rattle.std.specs.Char.{digit_value as char_value}
use Rattle.std.proofs.lemmas.Bool.Decides.{nat_tests}
use Rattle.std.proofs.Math.ListN.{drop_of_length-le}
use Rattle.script_lines.specs.Numbers.{continued, digit_value, number_in}

-- A digit of a base is what a character's value says that it is.
hex_value : (base b : ℕ) → base ≤ 16 → char_value b < base → digit_value b ≡ Some (char_value b)
hex_value base b few small = grind (arith, nat_tests)

-- What is none is no digit, or one that the base does not have.
no_hex_value : (base b : ℕ) → base ≤ 16 → ¬ (char_value b < base) → (d : ℕ) → digit_value b ≡ Some d → base ≤ d
no_hex_value base b few none d e = grind (arith, nat_tests)

-- The next byte of a number in a base.
module _ {base i b : ℕ} (n : ℕ) (text : List ℕ) (few : base ≤ 16) (read : b ≡ get_or text i 0)
    (within : i < length text) where
  -- One that is no digit of the base ends it without a value.
  pub no_digit : ¬ (char_value b < base) → continued base n (drop i text) ≡ None
  unfolding continued
  no_digit none = rw (drop-cons text i 0, ← read) (grind (arith, nat_tests, no_hex_value base b few none))

  module _ (d : ℕ) (digit : (char_value b < base) × (d ≡ char_value b)) where
    -- So does a digit that makes it too large.
    pub no_room : 18446744073709551615 < n * base + d → continued base n (drop i text) ≡ None
    unfolding continued
    no_room large = rw (drop-cons text i 0, ← read, hex_value base b few digit.0) (grind (arith, nat_tests))

    -- Another digit goes behind it.
    pub digit_more : n * base + d ≤ 18446744073709551615
        → continued base n (drop i text) ≡ continued base (n * base + d) (drop (i + 1) text)
    unfolding continued
    digit_more small =
        rw (drop-cons text i 0, ← read, hex_value base b few digit.0, add-one) (grind (arith, nat_tests))

-- Behind the last digit it is the value.
pub digits_end : (base n : ℕ) (text : List ℕ) (i : ℕ) → length text ≤ i → continued base n (drop i text) ≡ Some n
unfolding continued
digits_end base n text i l = rw (drop_of_length-le text l)

-- No text, no number.
pub number_none : (base : ℕ) (text : List ℕ) → length text ≡ 0 → number_in base text ≡ None
unfolding number_in
number_none base [] e = refl
number_none base (b ∷ bs) e = absurd (omega arith)

-- Another text is read from 0 on.
pub number_some : (base : ℕ) (text : List ℕ) → (length text ≡ 0 → ⊥) → number_in base text ≡ continued base 0 text
unfolding number_in
number_some base [] n = absurd (n refl)
number_some base (b ∷ bs) n = refl
