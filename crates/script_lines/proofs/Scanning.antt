-- Where a search ends.
use Rattle.std.proofs.Common.{◌≡◌, ℕ, ◌+◌, ◌-◌, ◌≤◌, not, List, Some, None, drop, length, take, arith, length-drop}
use Rattle.std.specs.List.{position}
use Rattle.std.proofs.Math.ListN.{length-take}
use Rattle.std.proofs.Math.Seq.{take_all}
use Rattle.std.proofs.lemmas.List.Folds.{length-prefix_len}
use Rattle.script_lines.specs.Words.{first, is_mark}
use Rattle.script_lines.specs.declared.words.Mark.{Mark}

-- What stands behind the first bytes, to the end.
pub to_end : (line : List ℕ) (at : ℕ) → take (length line - at) (drop at line) ≡ drop at line
to_end line at = take_all (length line - at) (drop at line) (simp length-drop (omega arith))

module _ (mark : Mark) (line : List ℕ) (at : ℕ) where
  -- A search that finds a place ends there ..
  pub found_at : (n : ℕ) → position (is_mark mark) (drop at line) ≡ Some n → at + n ≡ first mark line at
  found_at n e = grind arith

  -- .. and one that finds none at the end.
  pub found_none : at ≤ length line → position (is_mark mark) (drop at line) ≡ None → length line ≡ first mark line at
  found_none l e =
      let all = length-prefix_len (λ b. not (is_mark mark b)) (drop at line) in
      grind (arith, length-take {A = ℕ}, length-drop {A = ℕ})
