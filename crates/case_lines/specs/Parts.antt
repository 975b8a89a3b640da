-- The parts of a line, and their numbers.
use Rattle.std.specs.Prelude.{ℕ, ◌+◌, Bool, ◌&&◌, List, Option, None, ◌==◌, not, drop, filter, map, take, length, option_map, slice_get, slice_index, unwrap_or}
use Rattle.std.specs.List.{enumerate_from, last_or, prefix_len, slice_split}
use Rattle.geometry.specs.declared.shape.Config.{Config}
use Rattle.case_lines.specs.Numbers.{is_numeral, number_of}

-- what stands between blanks
abbrev pub pieces_of : List ℕ → List (List ℕ)
pieces_of text = filter (λ part. not (length part == 0)) (slice_split (λ b. b == 32) text)

-- the first 40 of them, which are read
abbrev pub parts_of : List ℕ → List (List ℕ)
parts_of text = take 40 (pieces_of text)

-- the number of the part at an index
abbrev pub number_at : List ℕ → ℕ → Option ℕ
number_at text i = option_map number_of (slice_get (parts_of text) i)

-- the same; 0 past the last
abbrev pub number : List ℕ → ℕ → ℕ
number text i = unwrap_or (number_at text i) 0

-- whether a part is the sign `=`
abbrev pub is_equals : List ℕ → Bool
is_equals part = not (is_numeral part) && number_of part == 61

-- the index of the last `=`, if there is one, and the index behind it
abbrev pub last_equals : List ℕ → Option ℕ
last_equals text = last_or None (map (λ p. p.0) (filter (λ p. is_equals p.1) (enumerate_from 0 (pieces_of text))))

abbrev pub behind_equals : List ℕ → Option ℕ
behind_equals text = option_map (λ at. at + 1) (last_equals text)

-- the bytes of a word without the zeros before them
abbrev pub letters : List ℕ → List ℕ
letters bytes = drop (prefix_len (λ b. b == 0) bytes) bytes

-- the configuration of seven numbers in their order
abbrev pub config_of : List ℕ → Config
config_of numbers = record {
  pages = slice_index numbers 0;
  dies = slice_index numbers 1;
  planes = slice_index numbers 2;
  adus = slice_index numbers 3;
  blocks = slice_index numbers 4;
  rated = slice_index numbers 5;
  period = slice_index numbers 6;
}
