-- A word is looked up in the table of names.
use Rattle.std.proofs.Common.{◌≡◌, ℕ, Bool, true, false, cond, List, [], ◌∷◌, Option, Some, None, refl, ap, ◌∙◌, Bor}
use Rattle.std.specs.List.{find}
use Rattle.std.specs.Option.{option_map}
use Rattle.std.specs.Str.{bytes_eq}
use Rattle.script_lines.specs.Keywords.{Entry, entries, entry, keyword_of, looked_up}
use Rattle.script_lines.specs.declared.keywords.Keyword.{Keyword}

-- A row of the table: a name, and the keyword behind it.
abbrev pub Row : Type 0
Row = Bor (List ℕ) × Keyword

abbrev pub is_named : List ℕ → Row → Bool
is_named text row = bytes_eq text row.0.now

abbrev pub entries_of : List Row → List Entry
entries_of [] = []
entries_of (row ∷ rows) = entry row.0.now row.1 ∷ entries_of rows

module _ (text : List ℕ) where
  -- The first row with the word's name has its keyword.
  found_in : (rows : List Row)
      → option_map (λ row. row.1) (find (is_named text) rows) ≡ looked_up (entries_of rows) text
  unfolding looked_up
  found_in [] = refl
  found_in (row ∷ rows) =
      elim (is_named text row) as (λ same. option_map (λ row. row.1) (cond same (Some row) (find (is_named text) rows))
      ≡ cond same (Some row.1) (looked_up (entries_of rows) text)) [
        | true ↦ refl
        | false ↦ found_in rows
      ]

  -- In the table of all names it is the keyword.
  found_in_all : (rows : List Row) → entries_of rows ≡ entries
      → option_map (λ row. row.1) (find (is_named text) rows) ≡ keyword_of text
  unfolding keyword_of
  found_in_all rows all = found_in rows ∙ ap (λ es. looked_up es text) all

  module _ (rows : List Row) (all : entries_of rows ≡ entries) (found : Option (Bor Row))
      (looked : option_map (λ x. x.now) found ≡ find (is_named text) rows) where
    -- So the row that is found has it ..
    pub named : (row : Bor Row) → found ≡ Some row → Some row.now.1 ≡ keyword_of text
    named row e = ap (option_map (λ (row : Row). row.1)) (rw e at looked) ∙ found_in_all rows all

    -- .. and a word that is not found is none.
    pub not_named : found ≡ None → None ≡ keyword_of text
    not_named e = ap (option_map (λ (row : Row). row.1)) (rw e at looked) ∙ found_in_all rows all
