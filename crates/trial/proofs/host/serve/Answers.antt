-- The table of the row is served, and the row holds the table that `ask` hands back; a row that is too short is left as it is.
use mathlib.Core.Path.{refl}
use native.Mathlib.Omega.{arith}
use Rattle.trial.specs.Trials.{lending}
use Rattle.trial.proofs.host.serve.Goals as goal

pub returns : goal.returns
returns c =
    let p = c in
    let s = p.ask-served in
    let h = p in
    let z = h.args in
    record {
      called = λ l. record {
        answer = s.result.answer;
        table = s.result.table;
        left = lending z.row.now s.new.store s.new.words s.new.bytes;
        call = record { serves = rw (h.table_in.ensures) at s.ensures; same_row_lem = refl };
        told = c.answer_number.ensures;
        held = rw c.put_table.ensures;
      };
      refused = λ l. absurd (omega (arith, h.if-row-lt-ROW.false));
    }
