-- W is not 0, by the limits.
use mathlib.Core.Path.{sym}
use native.Mathlib.Omega.{arith}
use Rattle.geometry.specs.Shape.{whole_blocks}
use Rattle.geometry.proofs.Laws.Shape.{limits, rounded_up}
use Rattle.geometry.proofs.shape.Bounded.whole_blocks.Goals as goal

pub div_ceil-requires : goal.div_ceil-requires
div_ceil-requires c = rw c.block_planes.ensures (omega (arith, (limits c.args.self.config c.args.self.within).planes.least))

pub returns : goal.returns
unfolding whole_blocks
returns c =
    rw (c.div_ceil.ensures, c.block_planes.ensures)
    (sym (rounded_up c.args.n.0 _ (omega (arith, (limits c.args.self.config c.args.self.within).planes.least))))
