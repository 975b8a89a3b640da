use Rattle.std.proofs.Common.{[], ◌∷◌, ap, ◌∙◌, arith}
use Rattle.answer_lines.specs.Texts.{hex_word, put}
use Rattle.answer_lines.proofs.Pieces.{put_put}
use Rattle.answer_lines.proofs.puts.U64Piece.put.Goals as goal

pub returns-clause-out_after : goal.returns-clause-out_after
returns-clause-out_after c =
    let z = c.args in
    let space = c.put_text-begin in
    c.put_hex.ensures.out_after
    ∙ ap (put space.result (hex_word z.self.now)) space.ensures.out_after
    ∙ put_put z.at space.result (32 ∷ []) (hex_word z.self.now) z.out.now space.ensures.value (omega arith)
