-- A sum that is too large names no part, and neither does the number where it stops.
use Rattle.std.proofs.Common.{◌≡◌, ◌+◌, min, arith, ◌∙◌}
use Rattle.case_lines.proofs.Past.{number_stopped}
use Rattle.case_lines.proofs.line.Line.argument.Goals as goal

pub returns : goal.returns
returns c =
    let at = c.args.i + 1 + c.args.k in
    let stop = c.saturating_add-2.result in
    let far : stop ≡ min at 18446744073709551615 = omega (arith, c.saturating_add.ensures, c.saturating_add-2.ensures) in
    c.number.ensures ∙ number_stopped c.args.self.now.text.now at stop 18446744073709551615 (omega arith) far
