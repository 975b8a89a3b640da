-- A no to one of the arguments' questions stays.
use Rattle.tables.proofs.Answering.{no_stays}
use Rattle.transfers.specs.Transfers.{read_arguments, read_state}
use Rattle.transfers.proofs.reads.read_verdict.Goals as goal

pub returns-in_err-read_arguments : goal.returns-in_err-read_arguments
returns-in_err-read_arguments c = let a = c.args in
    no_stays c.from_residual.result (read_arguments a.summary a.words a.address a.count)
    (read_state a.summary a.domain a.address a.count a.expected)
    c.in_err-read_arguments.field-0.0 c.from_residual.ensures.1 c.in_err-read_arguments.ensures
