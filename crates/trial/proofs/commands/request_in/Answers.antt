-- The six numbers that stand in the row from `at` on make the request.
use Rattle.trial.specs.Commands.{asked_in}
use Rattle.trial.proofs.commands.request_in.Goals as goal

pub returns : goal.returns
unfolding asked_in
returns c = c.request_of.ensures
