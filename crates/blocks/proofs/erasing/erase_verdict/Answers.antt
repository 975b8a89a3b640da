-- A no to one of the block's questions stays.
use mathlib.Core.List.{◌∷◌}
use lib.Dec.{ltb}
use Rattle.blocks.specs.Erasing.{block_questions, erase_questions, new_erased}
use Rattle.geometry.specs.Questions.{ask}
use Rattle.tables.proofs.Answering.{no_stays}
use Rattle.tables.specs.Verdicts.{new_blocks_questions}
use Rattle.blocks.proofs.erasing.erase_verdict.Goals as goal

pub returns-in_err-erase_block_verdict : goal.returns-in_err-erase_block_verdict
unfolding erase_questions
returns-in_err-erase_block_verdict c = let a = c.args in let x = a.summary in λ t s.
    no_stays c.from_residual.result (block_questions x a.domain a.block)
    (ask 11 (ltb x.opened x.domain.limit) ∷ new_blocks_questions t a.domain 1 (new_erased x a.domain a.block))
    c.in_err-erase_block_verdict.field-0.0 c.from_residual.ensures.1 c.in_err-erase_block_verdict.ensures
