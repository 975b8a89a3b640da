-- S × W is at most 256 times 2^25.
use native.Mathlib.Nat.{mul-le-mul}
use native.Mathlib.Omega.{arith}
use Rattle.geometry.specs.Shape.{drive_planes}
use Rattle.geometry.proofs.Laws.Shape.{Limits, limits}
use Rattle.geometry.proofs.shape.Bounded.drive_planes.Goals as goal

pub overflow_mul-result : goal.overflow_mul-result
overflow_mul-result c =
    let l : Limits c.args.self.config = limits c.args.self.config c.args.self.within in
    rw c.block_planes.ensures (omega (arith, mul-le-mul l.ranges.blocks.most l.planes.most))

pub returns : goal.returns
unfolding drive_planes
returns c = rw c.block_planes.ensures
