-- Each number is that of one call of the closure.
use Rattle.std.proofs.Common.{rules, ◌+◌, arith}
use Rattle.case_lines.specs.Parts.{number}
use Rattle.case_lines.proofs.Made.{made_each}
use Rattle.case_lines.proofs.line.Line.arguments.Goals as goal

pub returns : goal.returns
returns g c = λ k h.
    made_each _ (λ x. number c.args.self.now.text.now (c.args.i + 1 + x)) _ c.from_fn.result (λ x y q e. search rules)
    g.row.N 0 k k c.from_fn.ensures.items.each (omega arith) h
