-- No part stands at 40 or behind.
use Rattle.std.proofs.Common.{◌≡◌, ◌≤◌, ℕ, List, None, length, arith, option_map, unwrap_or, ap, min, sym, ◌∙◌, inl, inr}
use Rattle.std.proofs.lemmas.Bool.{cases_lt}
use Rattle.std.proofs.lemmas.List.{length-take}
use Rattle.std.proofs.lemmas.Option.{slice_get_past}
use Rattle.case_lines.specs.Numbers.{number_of}
use Rattle.case_lines.specs.Parts.{number, number_at, parts_of, pieces_of}

pub number_at_past : (text : List ℕ) (i : ℕ) → 40 ≤ i → number_at text i ≡ None
number_at_past text i h =
    let few : length (parts_of text) ≤ 40 = omega (arith, length-take 40 (pieces_of text)) in
    ap (option_map number_of) (slice_get_past (parts_of text) i (omega (arith, few, h)))

-- An index that stops at some number from 40 on names the same number.
pub number_stopped : (text : List ℕ) (i j m : ℕ) → 40 ≤ m → j ≡ min i m → number text j ≡ number text i
number_stopped text i j m h e =
    elim (cases_lt i m) [
      | inl l ↦ ap (number text) (omega arith)
      | inr l ↦ ap (λ o. unwrap_or o 0) (number_at_past text j (omega arith) ∙ sym (number_at_past text i (omega arith)))
    ]
