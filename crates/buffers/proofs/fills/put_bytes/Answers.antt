-- After so many turns as many bytes stand, and the bytes of the rest are left.
use Rattle.std.proofs.Common.{length, arith}
use Rattle.buffers.proofs.Rows.{byte_more, bytes_all}
use Rattle.buffers.proofs.fills.put_bytes.Goals as goal

pub loop-byte-preserved : goal.loop-byte-preserved
loop-byte-preserved c =
    let z = c.args in
    let l = c.loop-byte in
    byte_more (length z.part.now) z.n l.byte-index l.rest l.part (omega arith) (omega arith) l.invariant

pub returns : goal.returns
returns c =
    let z = c.args in
    let l = c.loop-byte in
    bytes_all (length z.part.now) z.n l.byte-index l.rest l.part (omega arith) (omega arith) l.invariant
