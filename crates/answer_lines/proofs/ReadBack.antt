-- Printed digits are read as the number that they are of.
use Prim.Native.Nat.{ℕ, zero, suc, ◌+◌, ◌*◌, ◌/◌, ◌%◌, ◌^◌, ◌≤◌, ◌<◌}
use mathlib.Core.Bool.{false, true, and-false, ◌&&◌, ◌||◌, cond}
use mathlib.Core.List.{List, [], ◌∷◌, ◌++◌}
use mathlib.Core.Path.{◌≡◌, refl, ◌∙◌}
use native.Mathlib.Nat.{div-add-mod', div-le_self, div-lt_iff_lt-mul, mod-eq_of_lt, mod-lt, one-mul, pow-suc, pow-zero}
use native.Mathlib.Omega.{arith}
use borrow.Author.Tests.{eqb-true, le-leb, lt-ltb, ltb-true}
use lib.Dec.{eqb, leb, ltb}
use Rattle.geometry.proofs.Laws.Shape.{both, by_test}
use Rattle.io.specs.Digits.{last_digits, hex_digit_ascii}
use Rattle.script_lines.specs.Numbers.{continued, digit_value, is_hex, number_in, number_of}
use Rattle.std.proofs.Common.{Option, None, Some}
use Rattle.std.specs.Option.{option_and_then}
use Rattle.std.proofs.lemmas.Bool.Decides.{nat_tests}
use Rattle.answer_lines.specs.Texts.{decimal_in}

-- What a printed digit stands for.
digit_value_lem : (d : ℕ) → d < 16 → digit_value (hex_digit_ascii d) ≡ Some d
digit_value_lem d l = grind (arith, nat_tests)

-- One digit more.
digit_read : (base m n d : ℕ) → base ≤ 16 → d < base → m * base + d ≡ n → n ≤ 18446744073709551615
    → continued base m (hex_digit_ascii d ∷ []) ≡ Some n
unfolding continued
digit_read base m n d b l e h =
    rw (digit_value_lem d (omega arith), e, lt-ltb d base l, le-leb n 18446744073709551615 h)

-- What a digit and further bytes behind a number make of it.
abbrev after : ℕ → ℕ → List ℕ → ℕ → Option ℕ
after base n bs d =
    cond (ltb d base && leb (n * base + d) 18446744073709551615) (continued base (n * base + d) bs) None

-- What stands behind a number goes on from it ..
read_on_lem : (base n m : ℕ) (text more : List ℕ) → continued base n text ≡ Some m → continued base n (text ++ more) ≡ continued base m more
unfolding continued
read_on_lem base n m [] more e = let same : n ≡ m = cc in rw same
read_on_lem base n m (b ∷ bs) more e =
    elim (digit_value b) as (λ o. option_and_then (after base n bs) o ≡ Some m
    → option_and_then (after base n (bs ++ more)) o ≡ continued base m more) [
      | None ↦ λ none. cc
      | Some d ↦ λ some.
          by_test (ltb d base && leb (n * base + d) 18446744073709551615)
          (λ t. rw t (read_on_lem base (n * base + d) m bs more (rw t at some)))
          (λ t. let none : None ≡ Some m = rw t at some in cc)
    ] e

-- .. and so it does from the first digit.
number_on : (base m : ℕ) (text more : List ℕ) → number_in base text ≡ Some m → number_in base (text ++ more) ≡ continued base m more
unfolding number_in
number_on base m [] more e = cc
number_on base m (b ∷ bs) more e = read_on_lem base 0 m (b ∷ bs) more e

module _ (base : ℕ) (positive : 0 < base) (few : base ≤ 16) where
  -- The last digit is read behind the others.
  last_read : (n : ℕ) (text : List ℕ) → n ≤ 18446744073709551615 → number_in base text ≡ Some (n / base)
      → number_in base (text ++ (hex_digit_ascii (n % base) ∷ [])) ≡ Some n
  last_read n text h e =
      number_on base (n / base) text (hex_digit_ascii (n % base) ∷ []) e
      ∙ digit_read base (n / base) n (n % base) few (mod-lt n positive) (div-add-mod' n base) h

  -- As many digits as hold a number are read as it.
  pub digits_read : (places n : ℕ) → n < base ^ suc places → n ≤ 18446744073709551615 → number_in base (last_digits base (suc places) n) ≡ Some n
  unfolding number_in
  digits_read zero n fits h =
      let small : n < base = rw (pow-suc base 0, pow-zero, one-mul) at fits in
      rw (mod-eq_of_lt small) (digit_read base 0 n n few small (omega arith) h)
  digits_read (suc places) n fits h =
      last_read n (last_digits base (suc places) (n / base)) h
      (digits_read places (n / base) ((div-lt_iff_lt-mul positive).1 (rw pow-suc at fits)) (omega (arith, div-le_self n base)))

-- So is a decimal text of one digit ..
short_read : (places n : ℕ) → n < 10 → number_in 10 (decimal_in (suc places) n) ≡ Some n
unfolding decimal_in number_in
short_read places n small =
    let t = lt-ltb n 10 small in rw t (rw t at (digit_read 10 0 n n (omega arith) small (omega arith) (omega arith)))

-- .. and one of more.
pub decimal_read : (places n : ℕ) → n < 10 ^ suc places → n ≤ 18446744073709551615 → number_in 10 (decimal_in (suc places) n) ≡ Some n
unfolding decimal_in
decimal_read zero n fits h = short_read zero n fits
decimal_read (suc places) n fits h =
    by_test (ltb n 10)
    (λ low. short_read (suc places) n (ltb-true n 10 low))
    (λ high. rw high (last_read 10 (omega arith) (omega arith) n (decimal_in (suc places) (n / 10)) h
    (decimal_read places (n / 10) (omega arith) (omega arith))))

-- The letter behind 0 is no decimal digit.
no_digit : (b : ℕ) → eqb b 120 || eqb b 88 ≡ true → digit_value b ≡ None
no_digit b e =
    by_test (eqb b 120)
    (λ t. rw (eqb-true b 120 t))
    (λ t. rw (eqb-true b 88 (rw t at e)))

-- So a text behind 0x is no decimal number ..
no_decimal : (text : List ℕ) → is_hex text ≡ true → number_in 10 text ≡ None
unfolding number_in continued
no_decimal [] e = refl
no_decimal (a ∷ []) e = let never : false ≡ true = rw and-false at e in cc
no_decimal (a ∷ b ∷ bs) e =
    let t = both (eqb a 48) (eqb b 120 || eqb b 88) e in
    rw (eqb-true a 48 t.0, no_digit b t.1)

-- .. and a decimal number is read as such.
pub number_decimal : (n : ℕ) (text : List ℕ) → number_in 10 text ≡ Some n → number_of text ≡ Some n
number_decimal n text e =
    by_test (is_hex text)
    (λ t. let none = no_decimal text t in cc)
    (λ t. rw t e)
