use Rattle.std.proofs.Common.{◌≡◌, ◌+◌, ◌*◌, length, take, flat_map}
use Rattle.answer_lines.specs.Texts.{put}
use Rattle.answer_lines.proofs.puts.put_all.Given as goal

-- The pieces before the index are put.
abbrev pub invariant-loop-piece : goal.invariant-loop-piece
invariant-loop-piece g l = record {
  filled : l.out ≡ put l.at (flat_map g.P.Piece.text (take l.piece-index l.pieces)) l.initial.out;
  long : l.end ≡ l.at + length (flat_map g.P.Piece.text (take l.piece-index l.pieces));
  wide : l.end ≡ l.at + g.P.Piece.WIDTH * l.piece-index;
}
