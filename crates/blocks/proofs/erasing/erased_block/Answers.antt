-- The number says which of the two it is.
use borrow.Author.Tests.{eq-eqb, ne_eqb}
use Rattle.blocks.specs.Erasing.{erased_of}
use Rattle.rules.specs.Blocks.{any_block}
use Rattle.blocks.proofs.erasing.erased_block.Goals as goal

pub returns-then-block-eq-ANY_BLOCK : goal.returns-then-block-eq-ANY_BLOCK
unfolding erased_of
returns-then-block-eq-ANY_BLOCK c = rw (eq-eqb c.args.block any_block c.if-block-eq-ANY_BLOCK.true)

pub returns : goal.returns
unfolding erased_of
returns c = rw (ne_eqb c.args.block any_block c.if-block-eq-ANY_BLOCK.false)
