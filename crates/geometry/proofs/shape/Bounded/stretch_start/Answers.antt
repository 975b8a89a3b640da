-- A start is at most 256 times C, so the product fits.
use Prim.Native.Nat.{min, ◌≤◌}
use native.Mathlib.Omega.{arith}
use Rattle.geometry.specs.Shape.{stretch_start}
use Rattle.geometry.proofs.Laws.Shape.{limits, starts}
use Rattle.geometry.proofs.shape.Bounded.stretch_start.Goals as goal

pub overflow_mul-result : goal.overflow_mul-result
overflow_mul-result c =
    let d = c.args.self.config in
    let most : min c.args.block d.blocks ≤ d.blocks = omega arith in
    rw (c.min.ensures, c.block_adus.ensures) (omega (arith, starts d (limits d c.args.self.within) (min c.args.block d.blocks) most))

pub returns : goal.returns
unfolding stretch_start
returns c = rw (c.min.ensures, c.block_adus.ensures)
