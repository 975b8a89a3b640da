-- The number of a part of a line, modulo 2^64.
use Rattle.std.specs.Prelude.{ℕ, ◌+◌, ◌-◌, ◌*◌, ◌%◌, ◌^◌, ◌==◌, ◌&&◌, Bool, cond, nat_le, List, [], ◌∷◌, Option, Some, None, drop, fold, false}
use Rattle.std.specs.List.{position}

-- whether a byte stands from one to another
abbrev pub between : ℕ → ℕ → ℕ → Bool
between low high b = nat_le low b && nat_le b high

abbrev pub is_decimal : ℕ → Bool
is_decimal b = between 48 57 b

-- the value of a digit, 0 to 9 and a to f; 16 for what is none
abbrev pub digit : ℕ → ℕ
digit b = cond (is_decimal b) (b - 48) (cond (between 97 102 b) (b - 87) 16)

-- a number with one digit more
abbrev pub with_digit : ℕ → ℕ → ℕ → ℕ
with_digit base n value = (n * base + value) % 2 ^ 64

-- digits in a base
abbrev pub in_base : ℕ → List ℕ → ℕ
in_base base digits = fold (λ n b. with_digit base n (digit b)) 0 digits

-- what begins with a digit: a decimal number, or a hexadecimal one behind the first x, which stands at an index
abbrev pub numeral_of : List ℕ → Option ℕ → ℕ
numeral_of text None = in_base 10 text
numeral_of text (Some x) = in_base 16 (drop (x + 1) text)

-- the bytes of a word, as one number
abbrev pub word_of : List ℕ → ℕ
word_of text = fold (with_digit 256) 0 text

abbrev pub is_numeral : List ℕ → Bool
is_numeral [] = false
is_numeral (b ∷ _) = is_decimal b

abbrev pub number_of : List ℕ → ℕ
number_of text = cond (is_numeral text) (numeral_of text (position (λ b. b == 120) text)) (word_of text)
