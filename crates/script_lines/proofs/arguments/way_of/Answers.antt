use Rattle.std.proofs.Common.{arith, rules}
use Rattle.std.proofs.lemmas.Slice.Eq.{text_from_reads}
use Rattle.script_lines.specs.Words.{ascii}
use Rattle.script_lines.proofs.arguments.way_of.Goals as goal

pub returns-in-placement : goal.returns-in-placement
returns-in-placement c = rw (text_from_reads c.args.text.now (ascii "placement") (omega arith) (search rules))
