-- After i turns the first i entries stand at the start, and the rest is as it was.
use Rattle.std.proofs.Common.{◌+◌, arith}
use Rattle.buffers.proofs.Rows.{row_more, row_none}
use Rattle.buffers.proofs.fills.put_rising.Goals as goal

pub loop-i-init : goal.loop-i-init
loop-i-init c = row_none _ _

pub loop-i-preserved : goal.loop-i-preserved
loop-i-preserved c =
    let z = c.args in
    let l = c.loop-i in
    rw l.invariant (row_more (λ i. z.first + i) z.part.now l.i (omega arith))
