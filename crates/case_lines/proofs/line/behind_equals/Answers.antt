use Rattle.std.proofs.Common.{arith}
use Rattle.case_lines.proofs.Last.{last_equals_below}
use Rattle.case_lines.proofs.line.behind_equals.Goals as goal

pub overflow_add-result : goal.overflow_add-result
overflow_add-result c = let few = last_equals_below c.args.text.now c.in_ok-at.at c.in_ok-at.ensures in omega arith
