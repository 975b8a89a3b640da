-- One turn is one call more.
use Rattle.std.proofs.Common.{add-one, refl, arith}
use Rattle.trial.specs.Trials.{more, none}
use Rattle.trial.proofs.running.serve_rounds.Goals as goal

pub loop-init : goal.loop-init
loop-init c = record { within = c.requires; small = omega arith; calls = λ row. none }

pub loop-preserved : goal.loop-preserved
loop-preserved c =
    let asked = rw c.request_in-request.ensures at c.ask_in-answer.ensures in
    record {
      within = c.next_place-at.ensures.1;
      small = c.sum_with-sum.ensures.1;
      calls = λ row.
          rw (add-one, c.next_place-at.ensures.0, c.sum_with-sum.ensures.0)
          (more (c.loop.invariant.calls row) (record { serves = asked; same_row_lem = refl }));
    }
