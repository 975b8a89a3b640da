use Rattle.std.proofs.Common.{flat_map, arith}
use Rattle.script_lines.specs.Words.{ascii}
use Rattle.answer_lines.proofs.Pieces.{length_pieces}
use Rattle.answer_lines.proofs.Printing.{in_three, not_in_three}
use Rattle.answer_lines.proofs.lines.list_line.Goals as goal

pub returns-then-has_room : goal.returns-then-has_room
returns-then-has_room g c =
    let z = c.args in
    let places = length_pieces g.P.Piece.text g.P.Piece.WIDTH z.pieces.now c.requires.width in
    let test = rw c.WIDTH.ensures at c.has_room.ensures in
    in_three z.name.now (flat_map g.P.Piece.text z.pieces.now) (ascii "\n") z.out.now test (omega (arith, places))
    c.if-has_room.true c.put_text-begin.ensures.out_after c.put_text-begin.ensures.value c.put_all-end.ensures.out_after
    (omega (arith, places, c.put_all-end.ensures.value)) c.put_text.ensures.out_after c.put_text.ensures.value

pub returns : goal.returns
returns g c =
    let z = c.args in
    let places = length_pieces g.P.Piece.text g.P.Piece.WIDTH z.pieces.now c.requires.width in
    let test = rw c.WIDTH.ensures at c.has_room.ensures in
    not_in_three z.name.now (flat_map g.P.Piece.text z.pieces.now) (ascii "\n") z.out.now test (omega (arith, places))
    c.if-has_room.false
