-- What Erase is asked, of what is seen of the table, and the block that it opens.
use Rattle.std.specs.Prelude.{ℕ, Bool, not, ◌&&◌, ◌||◌, cond, List, [], ◌∷◌, ◌++◌, eqb, ltb, Option, Some}
use Rattle.geometry.specs.Address.{is_block}
use Rattle.geometry.specs.Questions.{Question, ask}
use Rattle.model.specs.declared.table.Table.{Table}
use Rattle.rules.specs.Blocks.{any_block}
use Rattle.rules.specs.Counting.{implies}
use Rattle.rules.specs.Drive.{held_by, is_closed, is_free}
use Rattle.scan.specs.declared.summary.Summary.{Summary}
use Rattle.tables.specs.Verdicts.{new_blocks_questions}

-- ---- The questions

-- Does Erase name a block that the domain holds?
abbrev pub opens_again : Summary → ℕ → ℕ → Bool
opens_again x d n = not (eqb n any_block) && held_by d x.block

-- 6, 9 and 10, ..
unfoldable pub block_questions : Summary → ℕ → ℕ → List Question
block_questions x d n =
    ask 6 (is_block x.config n || eqb n any_block)
    ∷ ask 9 (eqb n any_block || is_free x.block || held_by d x.block)
    ∷ ask 10 (implies (opens_again x d n) (is_closed x.block))
    ∷ []

-- .. and 6 to 14. A held block that is opened again isn't new.
abbrev pub new_erased : Summary → ℕ → ℕ → ℕ
new_erased x d n = cond (opens_again x d n) 0 1

unfoldable pub erase_questions : Table → Summary → ℕ → ℕ → List Question
erase_questions t x d n =
    block_questions x d n ++ (ask 11 (ltb x.opened x.domain.limit) ∷ new_blocks_questions t d 1 (new_erased x d n))

-- ---- The block that is opened

-- For FFFFFFFFh the chosen one, if there is one, and else that of the number.
unfoldable pub erased_of : Summary → ℕ → Option ℕ
erased_of x n = cond (eqb n any_block) x.found (Some n)
