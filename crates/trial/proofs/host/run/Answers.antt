-- The row gets the table of the run.
use Rattle.std.proofs.Common.{arith}
use Rattle.trial.specs.Trials.{lending}
use Rattle.trial.proofs.host.run.Goals as goal

pub returns : goal.returns
returns c =
    let z = c.args in
    let run = c.serve_rounds-finished in
    record {
      ran = λ m k. record {
        at = run.ensures.at;
        table = run.result.table;
        left = lending z.row.now run.new.store run.new.words run.new.bytes;
        calls = rw c.table_in.ensures at (run.ensures.calls z.row.now);
        held = rw c.put_table.ensures;
      };
      short_row = λ k. absurd (omega (arith, k, c.if-row-lt-ROW.false));
      short_commands = λ k. absurd (omega (arith, k, c.if-commands-lt6.false));
    }
