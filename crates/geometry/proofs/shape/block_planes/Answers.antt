-- The ranges keep the products below 2 ^ 64.
use mathlib.Core.Path.{refl}
use native.Mathlib.Omega.{arith}
use Rattle.geometry.specs.Shape.{planes_per_block}
use Rattle.geometry.proofs.Laws.Shape.{products, ranges}
use Rattle.geometry.proofs.shape.block_planes.Goals as goal

pub overflow_mul-result : goal.overflow_mul-result
overflow_mul-result c = let d = c.args.config in omega (arith, (products d (ranges d c.requires)).dies)

pub overflow_mul-result-2 : goal.overflow_mul-result-2
unfolding planes_per_block
overflow_mul-result-2 c = let d = c.args.config in omega (arith, (products d (ranges d c.requires)).planes.most)

pub returns : goal.returns
unfolding planes_per_block
returns c = refl
