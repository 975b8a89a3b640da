-- Numbers: decimal, or hexadecimal behind 0x. A word that is no number, or one of more than 64 bits, has no value.
use Rattle.std.specs.Prelude.{ℕ, ◌+◌, ◌-◌, ◌*◌, Bool, ◌&&◌, ◌||◌, cond, List, [], ◌∷◌, Option, Some, None}
use Rattle.std.specs.Prelude.{eqb, leb, ltb, drop, get_or}
use Rattle.std.specs.Option.{option_and_then}

-- `0` to `9`, `a` to `f` and `A` to `F`.
abbrev pub digit_value : ℕ → Option ℕ
digit_value b =
    cond (leb 48 b && leb b 57)
    (Some (b - 48))
    (cond (leb 97 b && leb b 102) (Some (b - 97 + 10)) (cond (leb 65 b && leb b 70) (Some (b - 65 + 10)) None))

-- A number, with further digits behind it.
unfoldable pub continued : ℕ → ℕ → List ℕ → Option ℕ
continued base n [] = Some n
continued base n (b ∷ bs) =
    option_and_then
    (λ d. cond (ltb d base && leb (n * base + d) 18446744073709551615) (continued base (n * base + d) bs) None)
    (digit_value b)

-- At least one digit.
unfoldable pub number_in : ℕ → List ℕ → Option ℕ
number_in base [] = None
number_in base (b ∷ bs) = continued base 0 (b ∷ bs)

-- Begins with `0x` or `0X`.
abbrev pub is_hex : List ℕ → Bool
is_hex text = eqb (get_or text 0 0) 48 && (eqb (get_or text 1 0) 120 || eqb (get_or text 1 0) 88)

abbrev pub number_of : List ℕ → Option ℕ
number_of text = cond (is_hex text) (number_in 16 (drop 2 text)) (number_in 10 text)
