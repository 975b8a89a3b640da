-- After i turns the first i entries are copied; what stands behind the part is as it was.
use Rattle.std.proofs.Common.{◌+◌, ◌∙◌, arith}
use Rattle.buffers.proofs.Rows.{copied_all, copy_more}
use Rattle.buffers.proofs.fills.put_stretch.Goals as goal

pub loop-i-preserved : goal.loop-i-preserved
loop-i-preserved c =
    let z = c.args in
    let l = c.loop-i in
    rw l.invariant (copy_more z.part.now z.row.now l.i (omega arith) (omega arith))

pub returns : goal.returns
returns c =
    let z = c.args in
    let l = c.loop-i in
    l.invariant ∙ copied_all z.part.now z.row.now l.i (omega arith)
