-- The lines of a text, and the words of a line.
use Rattle.std.specs.Prelude.{◌≡◌, ℕ, ◌+◌, ◌-◌, min, Bool, ◌||◌, not, List, [], ◌∷◌, Option, Some, None, eqb, drop, length, option_map, take}
use Rattle.std.specs.Borrow.{Bor}
use Rattle.std.specs.List.{position_or_len}
use Prim.Native.Char.{code}
use Prim.Native.String.{String, [] as none, ◌∷◌ as ◌then◌}
use Rattle.script_lines.specs.declared.words.Mark.{Mark}
use Rattle.script_lines.specs.declared.words.Mark.TheVariants.{Blank, Comment, Newline, Word}

-- The bytes of a text in ASCII.
abbrev pub ascii : String → List ℕ
ascii none = []
ascii (c then s) = code c ∷ ascii s

-- A space, a tab or a carriage return stands between words.
abbrev pub is_blank : ℕ → Bool
is_blank b = (eqb b 32 || eqb b 9) || eqb b 13

-- A byte of a word, a blank, the number sign, which starts a comment, or the end of a line.
abbrev pub is_mark : Mark → ℕ → Bool
is_mark Word b = not (is_blank b)
is_mark Blank b = is_blank b
is_mark Comment b = eqb b 35
is_mark Newline b = eqb b 10

-- The index of the first such byte from an index on; the length where there is none.
abbrev pub first : Mark → List ℕ → ℕ → ℕ
first mark line at = at + position_or_len (is_mark mark) (drop at line)

-- Where the line of a text that begins at an index ends; behind the text there is none.
abbrev pub line_end : List ℕ → ℕ → ℕ
line_end text from = min (first Newline text from) (length text)

-- The first line of a text, with its newline; none of a text without a byte.
abbrev pub first_line : List ℕ → Option (List ℕ)
first_line [] = None
first_line (b ∷ bs) = Some (take (line_end (b ∷ bs) 0 + 1) (b ∷ bs))

-- A line is the first of a text, and what is left stands behind it; of a text without a byte there is none.
abbrev pub CutsLine : List ℕ → Option (Bor (List ℕ)) → List ℕ → Type 0
CutsLine text line left = (option_map (λ l. l.now) line ≡ first_line text) × (left ≡ drop (line_end text 0 + 1) text)

-- The bytes from one index to another.
abbrev pub part : List ℕ → ℕ → ℕ → List ℕ
part line begin end = take (end - begin) (drop begin line)
