use mathlib.Core.Path.{refl, sym, ◌∙◌}
use Rattle.scan.proofs.Testing.{closed_held, open_held, unowned}
use Rattle.scan.proofs.scan.test_held.Goals as goal

pub returns-in-Open : goal.returns-in-Open
returns-in-Open c = let z = c in let a = z.args in open_held a.subject.now a.n _ a.block a.holder _ _ a.marks.now.row _ c.in-Open.is (sym c.is_owned.ensures ∙ c.if-is_owned.true) c.domain_index-at.ensures.0 (rw c.count_held.ensures at c.test_open.ensures)

pub returns-in-Closed : goal.returns-in-Closed
returns-in-Closed c = let z = c in let a = z.args in rw c.count_held.ensures (closed_held a.subject.now a.n _ a.block a.holder _ _ a.marks.now.row c.in-Closed.is (sym c.is_owned.ensures ∙ c.if-is_owned.true) c.domain_index-at.ensures.0 c.test_closed.ensures)

pub returns-else-is_owned : goal.returns-else-is_owned
returns-else-is_owned c = let z = c in let a = z.args in unowned a.subject.now a.n a.block a.holder a.marks.now.row _ refl (sym c.is_owned.ensures ∙ c.if-is_owned.false)
