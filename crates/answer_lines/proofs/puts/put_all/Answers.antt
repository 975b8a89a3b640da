use Rattle.std.proofs.Common.{length, arith}
use Rattle.answer_lines.proofs.Pieces.{length_next, put_next, wide_enough}
use Rattle.answer_lines.proofs.puts.put_all.Goals as goal

pub loop-piece-preserved : goal.loop-piece-preserved
loop-piece-preserved g c =
    let z = c.args in
    let l = c.loop-piece in
    let p = c.put-end.ensures in
    let read = c.piece-item.is in
    let more = wide_enough g.P.Piece.WIDTH l.piece-index (length z.pieces.now) (omega arith) in
    let longer = length_next g.P.Piece.text z.pieces.now l.piece-index c.piece-item.result (omega arith) read in
    record {
      filled = put_next g.P.Piece.text z.pieces.now l.piece-index c.piece-item.result (omega arith) read z.at l.end z.out.now
          l.out c.put-end.new.out l.invariant.filled l.invariant.long (omega (arith, more)) p.out_after;
      long = omega (arith, longer, p.width);
      wide = grind arith;
    }
