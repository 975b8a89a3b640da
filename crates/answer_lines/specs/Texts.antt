-- Pieces of a line: numbers, words and bytes as text, and a piece put into a buffer.
use Rattle.std.specs.Prelude.{ℕ, zero, suc, ◌+◌, ◌/◌, ◌%◌, Bool, ◌&&◌, cond, List, [], ◌∷◌, ◌++◌, eqb, ltb, drop, flat_map, get_or, length, take}
use Rattle.io.specs.Digits.{last_digits, hex_digit_ascii}

-- A piece in a buffer, at an index.
abbrev pub put : ℕ → List ℕ → List ℕ → List ℕ
put at piece buffer = take at buffer ++ (piece ++ drop (at + length piece) buffer)

-- Sixteen hexadecimal digits, and two.
abbrev pub hex_word : ℕ → List ℕ
hex_word word = last_digits 16 16 word

abbrev pub hex_byte : ℕ → List ℕ
hex_byte byte = last_digits 16 2 byte

-- The decimal digits of a number, the first of them not 0 but for the number 0: as many as it takes, if a number of places allows.
unfoldable pub decimal_in : ℕ → ℕ → List ℕ
decimal_in zero n = []
decimal_in (suc places) n = cond (ltb n 10) (hex_digit_ascii n ∷ []) (decimal_in places (n / 10) ++ (hex_digit_ascii (n % 10) ∷ []))

-- 64 bits take no more than 20 places.
abbrev pub decimal : ℕ → List ℕ
decimal n = decimal_in 20 n

-- Behind a space.
abbrev pub spaced : List ℕ → List ℕ
spaced text = 32 ∷ text

-- Each word behind a space.
abbrev pub spaced_word : ℕ → List ℕ
spaced_word word = spaced (hex_word word)

abbrev pub words_text : List ℕ → List ℕ
words_text words = flat_map spaced_word words

-- The bytes, one after the other.
abbrev pub bytes_text : List ℕ → List ℕ
bytes_text bytes = flat_map hex_byte bytes

abbrev pub spaced_bytes : List ℕ → List ℕ
spaced_bytes bytes = spaced (bytes_text bytes)

-- So many groups of eight bytes, each behind a space.
unfoldable pub descriptors_text : ℕ → List ℕ → List ℕ
descriptors_text zero bytes = []
descriptors_text (suc count) bytes = spaced_bytes (take 8 bytes) ++ descriptors_text count (drop 8 bytes)

-- A list's end mark has FFFFFFFFh for a block number.
abbrev pub is_end_mark : List ℕ → Bool
is_end_mark bytes = eqb (get_or bytes 0 0) 255 && eqb (get_or bytes 1 0) 255 && eqb (get_or bytes 2 0) 255 && eqb (get_or bytes 3 0) 255

-- The groups of eight bytes up to the end mark and with it, or as many as allowed where there is none.
unfoldable pub descriptor_count : ℕ → List ℕ → ℕ
descriptor_count zero bytes = zero
descriptor_count (suc most) bytes = cond (is_end_mark bytes) 1 (suc (descriptor_count most (drop 8 bytes)))
