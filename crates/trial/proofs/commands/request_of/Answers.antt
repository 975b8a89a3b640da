-- 12 and 13 are the recorder's calls, and any other number is the kind of a command.
use borrow.Author.Tests.{ne_eqb}
use Rattle.trial.specs.Commands.{asked_of}
use native.Mathlib.Omega.{arith}
use Rattle.trial.proofs.commands.request_of.Goals as goal

pub returns-in-12 : goal.returns-in-12
unfolding asked_of
returns-in-12 c = rw c.in-12.is

pub returns-in-13 : goal.returns-in-13
unfolding asked_of
returns-in-13 c = rw c.in-13.is

pub returns-in_default : goal.returns-in_default
unfolding asked_of
returns-in_default c = rw (ne_eqb c.args.kind 12 (omega arith), ne_eqb c.args.kind 13 (omega arith), c.command_of.ensures)
