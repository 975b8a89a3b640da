-- Too many seconds, or every open block counted down.
use mathlib.Core.List.{[]}
use mathlib.Core.Path.{refl}
use native.Mathlib.Omega.{arith}
use lib.Dec.{leb}
use lib.ListN.{length}
use borrow.Author.Tests.{le-leb}
use Rattle.geometry.specs.Questions.{first_no}
use Rattle.model.specs.declared.answer.Answer.TheVariants.{Done}
use Rattle.model.specs.declared.answer.Refusal.TheVariants.{Range}
use Rattle.model.specs.declared.command.Command.TheVariants.{Pulse}
use Rattle.rules.specs.Effects.{effect}
use Rattle.scan.proofs.Outcomes.{begun_yes, change_outcome, then_outcome}
use Rattle.scan.proofs.Seeing.{changed_pulse, sound_limits}
use Rattle.tables.proofs.Answering.{asked_yes}
use Rattle.tables.specs.Changing.{pulse_change}
use Rattle.domains.proofs.pulsing.pulse.Goals as goal

pub returns-in_err-ask : goal.returns-in_err-ask
unfolding first_no
returns-in_err-ask c = let n = c.args.seconds in λ t store words bytes first.
    then_outcome t (Pulse n) c.from_residual.result c.in_err-ask.field-0.0 store words bytes first
    (rw (le-leb 0 n (omega arith)) c.in_err-ask.ensures) c.from_residual.ensures.1

pub returns : goal.returns
unfolding effect first_no
returns c = let n = c.args.seconds in λ t store words bytes first.
    rw c.pulse_change.ensures
    (change_outcome t (Pulse n) Done (pulse_change n) _ [] store words bytes first
    (rw (le-leb 0 n (omega arith), asked_yes (leb n 65535) Range c.in_ok-ask.ensures))
    (changed_pulse t n (sound_limits t (begun_yes 2 t (Pulse n) (length store) first))) refl refl refl)
