-- A sum that is too large names no part.
use Rattle.std.proofs.Common.{◌+◌, ◌≤◌, arith, sym, ◌∙◌}
use Rattle.case_lines.proofs.Past.{number_at_past}
use Rattle.case_lines.proofs.line.Line.wanted.Goals as goal

pub returns-in_err-checked_add : goal.returns-in_err-checked_add
returns-in_err-checked_add c =
    let far : 40 ≤ c.in_ok-self.field-0 + c.args.k = omega (arith, c.in_err-checked_add.ensures) in
    let past = number_at_past c.args.self.now.text.now (c.in_ok-self.field-0 + c.args.k) far in
    rw c.in_ok-self.was (c.from_residual-in_err-checked_add.ensures ∙ sym past)
