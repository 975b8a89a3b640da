-- One sample or none, by the test of the domain.
use Rattle.std.proofs.Common.{◌≡◌, Bool, true, false, cond, refl}
use mir.Val.{bool_byte}
use Rattle.recorder.specs.Samples.{sample_command}
use Rattle.rules.specs.Recorder.{has_recorder_shape}
use Rattle.recorder.proofs.samples.sample_command.Goals as goal

one_or_none : (b : Bool) → bool_byte b ≡ cond b 1 0
one_or_none true = refl
one_or_none false = refl

pub returns : goal.returns
unfolding sample_command
returns c = rw (c.from.ensures, c.has_recorder_shape.ensures, one_or_none (has_recorder_shape c.args.owner))
