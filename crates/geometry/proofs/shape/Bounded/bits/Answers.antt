-- 64 less the leading zeros of C - 1 are its digits, and b is as many.
use native.Mathlib.Omega.{arith}
use Rattle.geometry.proofs.Laws.Address.{bits_counted}
use Rattle.geometry.proofs.Laws.Shape.{Limits, limits}
use Rattle.geometry.proofs.shape.Bounded.bits.Goals as goal

pub overflow_sub-result : goal.overflow_sub-result
overflow_sub-result c =
    let l : Limits c.args.self.config = limits c.args.self.config c.args.self.within in
    rw c.block_adus-c.ensures (omega (arith, l.adus.least))

pub returns : goal.returns
returns c = rw c.block_adus-c.ensures (bits_counted c.args.self.config (limits c.args.self.config c.args.self.within))
