use Rattle.std.proofs.Common.{arith, rules}
use Rattle.std.proofs.lemmas.Slice.Eq.{text_from_reads}
use Rattle.script_lines.specs.Words.{ascii}
use Rattle.script_lines.proofs.arguments.listed_of.Goals as goal

pub returns-in-closed : goal.returns-in-closed
returns-in-closed c = rw (text_from_reads c.args.text.now (ascii "closed") (omega arith) (search rules))
