-- All ones where the start is all ones, else the start and so many more.
use mathlib.Core.Path.{sym}
use native.Mathlib.Omega.{arith}
use borrow.Author.Tests.{eq-eqb, ne_eqb}
use Rattle.buffers.proofs.UserAddresses.{next_most, ones_address, plain_address}
use Rattle.rules.specs.Blocks.{all_ones}
use Rattle.buffers.proofs.user_addresses.user_address.Goals as goal

pub overflow_add-result : goal.overflow_add-result
overflow_add-result c =
    let z = c.args in
    omega (arith, next_most z.start z.i (omega arith) (ne_eqb z.start all_ones c.if-start-eq-ALL_ONES.false) c.requires)

pub returns-then-start-eq-ALL_ONES : goal.returns-then-start-eq-ALL_ONES
returns-then-start-eq-ALL_ONES c = let z = c.args in sym (ones_address z.start z.i (eq-eqb z.start all_ones c.if-start-eq-ALL_ONES.true))

pub returns-else-start-eq-ALL_ONES : goal.returns-else-start-eq-ALL_ONES
returns-else-start-eq-ALL_ONES c = let z = c.args in sym (plain_address z.start z.i (ne_eqb z.start all_ones c.if-start-eq-ALL_ONES.false))
