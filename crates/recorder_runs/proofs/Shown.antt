-- The two lists are as specs/Shown.antt says.
use mathlib.Core.Bool.{true}
use mathlib.Core.List.{[], ◌∷◌}
use mathlib.Core.Path.{◌≡◌, refl}
use Rattle.recorder_runs.specs.Lists.{busy, busy_first, busy_rest, numbers_from, quiet, same_inputs}
use Rattle.recorder_runs.specs.Shown.{Shown, busy_numbers}
use Rattle.rules.proofs.Machine.{machine}
use Rattle.rules.specs.Example.{blocks_of, numbers_told, sevens, zeros}
use Rattle.rules.specs.Noninterference.{fully_reserved, inputs}
use Rattle.rules.specs.Observation.{request_of}
use Rattle.rules.specs.Drive.{domain_at}
use Rattle.rules.specs.Recorder.{has_recorder_shape, kept}
use Rattle.rules.specs.Retention.{recorder_alone, accepted_samples}
use Rattle.rules.specs.Runs.{run}

quiet_reserved : fully_reserved 1 quiet zeros ≡ true
unfolding machine fully_reserved
quiet_reserved = refl

busy_reserved : fully_reserved 1 busy sevens ≡ true
unfolding machine fully_reserved
busy_reserved = refl

quiet_inputs : inputs 1 quiet zeros ≡ same_inputs
unfolding machine inputs request_of
quiet_inputs = refl

busy_inputs : inputs 1 busy sevens ≡ same_inputs
unfolding machine inputs request_of
busy_inputs = refl

busy_numbers_lem : numbers_told busy sevens ≡ busy_numbers
unfolding machine
busy_numbers_lem = refl

busy_shaped : has_recorder_shape (domain_at (run busy_first sevens).table 1) ≡ true
unfolding machine
busy_shaped = refl

busy_alone : recorder_alone 1 busy_rest (run busy_first sevens) ≡ true
unfolding machine recorder_alone
busy_alone = refl

busy_samples : accepted_samples 1 busy_rest (run busy_first sevens) ≡ numbers_from 1 260
unfolding machine accepted_samples
busy_samples = refl

busy_kept : kept (run busy sevens) 1 ≡ numbers_from 129 132
unfolding machine
busy_kept = refl

quiet_blocks : blocks_of (run quiet zeros) ≡ (1, 2) ∷ (2, 3) ∷ []
unfolding machine
quiet_blocks = refl

busy_blocks : blocks_of (run busy sevens) ≡ (0, 2) ∷ (3, 3) ∷ []
unfolding machine
busy_blocks = refl

pub shown : Shown
shown = record {
  quiet_reserved = quiet_reserved;
  busy_reserved = busy_reserved;
  quiet_inputs = quiet_inputs;
  busy_inputs = busy_inputs;
  busy_numbers_lem = busy_numbers_lem;
  busy_shaped = busy_shaped;
  busy_alone = busy_alone;
  busy_samples = busy_samples;
  busy_kept = busy_kept;
  quiet_blocks = quiet_blocks;
  busy_blocks = busy_blocks;
}
