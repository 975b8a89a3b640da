-- Each arm is the contract of the function that it calls; the recorder is lent no bytes, and those lent here stay.
use Rattle.tables.specs.Serving.{answering}
use Rattle.trial.proofs.Bytes.{append_beside, latest_beside}
use Rattle.trial.proofs.asking.ask_in.Goals as goal

pub returns-in-Append : goal.returns-in-Append
returns-in-Append c =
    rw c.in-Append.is (append_beside _ _ _ _ _ _ (answering c.append_in.new.table c.append_in.result) _ _ c.append_in.ensures)

pub returns-in-Latest : goal.returns-in-Latest
returns-in-Latest c =
    rw c.in-Latest.is (latest_beside _ _ _ _ _ _ (answering c.latest_in.new.table c.latest_in.result) _ _ c.latest_in.ensures)
