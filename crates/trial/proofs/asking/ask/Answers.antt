-- Each arm is the contract of the function that it calls; the recorder is lent no bytes, and those lent here stay.
use Rattle.trial.proofs.Bytes.{append_beside, latest_beside}
use Rattle.trial.proofs.asking.ask.Goals as goal

pub returns-in-Append : goal.returns-in-Append
returns-in-Append c = rw c.in-Append.is (append_beside _ _ _ _ _ _ c.append.result _ _ c.append.ensures)

pub returns-in-Latest : goal.returns-in-Latest
returns-in-Latest c = rw c.in-Latest.is (latest_beside _ _ _ _ _ _ c.latest.result _ _ c.latest.ensures)
