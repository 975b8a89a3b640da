-- The last item of a chain, and that the index of the last `=` is small enough for one more.
use Rattle.std.proofs.Common.{◌≡◌, ◌+◌, ◌<◌, ◌≤◌, ◌==◌, ℕ, Bool, true, false, not, List, [], ◌∷◌, cond, Option, Some, None, length, map, filter, arith, subst, sym, ap, ◌∙◌}
use mathlib.Core.List.{map-id}
use Rattle.std.proofs.iter.Yields.{gives_Drains}
use Rattle.std.proofs.lemmas.Iterator.{YieldsList}
use Rattle.std.proofs.lemmas.List.Splits.{length-slice_split}
use Rattle.std.proofs.lemmas.List.Sums.{count_by-le-length, length-filter}
use Rattle.std.specs.Iterator.{Drains}
use Rattle.std.specs.List.{enumerate_from, last_or, slice_split}
use Rattle.case_lines.specs.Parts.{is_equals, last_equals, pieces_of}

pub last_from_yields_List : {S A : Type 0} {steps : S → Option A → S → Type 0} {all : List A} (s : S) (r : Option A)
    → ((xs : List A) × Drains steps s xs × (r ≡ last_or None xs)) → YieldsList steps (λ x. x) s all → r ≡ last_or None all
last_from_yields_List {steps = steps} {all} s r h e =
    h.2 ∙ ap (last_or None) (sym (map-id h.0) ∙ gives_Drains steps (λ x. x) h.0 all s e.runs h.1)

-- whether an index is below a number
abbrev pub IsBelow : ℕ → Option ℕ → Type 0
IsBelow m None = Unit {0}
IsBelow m (Some at) = at < m

last_below : (test : ℕ × List ℕ → Bool) (m n : ℕ) (xs : List (List ℕ)) (o : Option ℕ)
    → n + length xs ≤ m → IsBelow m o → IsBelow m (last_or o (map (λ p. p.0) (filter test (enumerate_from n xs))))
last_below test m n [] o l h = h
last_below test m n (x ∷ xs) o l h =
    let rest = filter test (enumerate_from (n + 1) xs) in
    elim (test (n, x)) as (λ b. IsBelow m (last_or o (map (λ p. p.0) (cond b ((n, x) ∷ rest) rest)))) [
      | true ↦ last_below test m (n + 1) xs (Some n) (omega arith) (omega arith)
      | false ↦ last_below test m (n + 1) xs o (omega arith) h
    ]

pub last_equals_below : (text : List ℕ) (at : ℕ) → Some at ≡ last_equals text → at ≤ length text
last_equals_below text at e =
    let pieces = slice_split (λ b. b == 32) text in
    let few : length (pieces_of text) ≤ length text + 1 =
    omega (
      arith,
      length-filter (λ part. not (length part == 0)) pieces,
      count_by-le-length (λ part. not (length part == 0)) pieces,
      length-slice_split (λ b. b == 32) text,
      count_by-le-length (λ b. b == 32) text,
    ) in
    let below : at < length text + 1 =
    subst (IsBelow (length text + 1)) (sym e) (last_below (λ p. is_equals p.1) (length text + 1) 0 (pieces_of text) None (omega arith) tt) in
    omega arith
