-- What the questions put so far come to.
use Rattle.std.specs.Prelude.{ℕ, List, [], ◌∷◌, Result, Ok, Err}
use Rattle.geometry.specs.Questions.{Question, ask}
use Rattle.model.specs.declared.answer.Refusal.{Refusal}
use Rattle.model.specs.Answers.{number_of}
use Rattle.model.specs.declared.table.Table.{Table}
use Rattle.rules.specs.Questions.{covered_after, serials_left, within_quota}

-- The number of the first no, or 0.
abbrev pub verdict_number : Result (Unit {0}) Refusal → ℕ
verdict_number (Ok _) = 0
verdict_number (Err reason) = number_of reason

-- 12 to 14, of so many new serials and new blocks.
abbrev pub new_blocks_questions : Table → ℕ → ℕ → ℕ → List Question
new_blocks_questions t d serials blocks =
    ask 12 (serials_left t d serials)
    ∷ ask 13 (within_quota t d blocks)
    ∷ ask 14 (covered_after t d blocks)
    ∷ []
