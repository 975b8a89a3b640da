-- The ranges keep the product below 2 ^ 64.
use native.Mathlib.Omega.{arith}
use Rattle.geometry.specs.Shape.{adus_per_block}
use Rattle.geometry.proofs.Laws.Shape.{products, ranges}
use Rattle.geometry.proofs.shape.block_adus.Goals as goal

pub overflow_mul-result : goal.overflow_mul-result
unfolding adus_per_block
overflow_mul-result c = let d = c.args.config in rw c.block_planes-w.ensures (omega (arith, (products d (ranges d c.requires)).adus.most))

pub returns : goal.returns
unfolding adus_per_block
returns c = rw c.block_planes-w.ensures
