use Rattle.std.proofs.Common.{refl, arith}
use Rattle.answer_lines.specs.Texts.{hex_byte}
use Rattle.answer_lines.proofs.Pieces.{length_pieces}
use Rattle.answer_lines.proofs.puts.ArrayU88Piece.put.Goals as goal

pub returns-clause-width : goal.returns-clause-width
returns-clause-width c = omega (arith, length_pieces hex_byte 2 c.args.self.now (λ k d l. refl), c.told-self)
