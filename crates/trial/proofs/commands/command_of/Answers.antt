-- Kinds below 6 are those on domains and blocks, the others those on ADUs, log pages and time.
use borrow.Author.Tests.{le-ltb, lt-ltb}
use Rattle.trial.specs.Commands.{command_of}
use Rattle.trial.proofs.commands.command_of.Goals as goal

pub returns-then-kind-lt6 : goal.returns-then-kind-lt6
unfolding command_of
returns-then-kind-lt6 c = rw (lt-ltb c.args.kind 6 c.if-kind-lt6.true) c.change_of.ensures

pub returns-else-kind-lt6 : goal.returns-else-kind-lt6
unfolding command_of
returns-else-kind-lt6 c = rw (le-ltb c.args.kind 6 c.if-kind-lt6.false) c.transfer_of.ensures
