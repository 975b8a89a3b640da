-- What the rules make of the two lists, computed.
use Rattle.std.specs.Prelude.{ℕ, true, List, [], ◌∷◌, ◌++◌, ◌≡◌, replicate}
use Rattle.recorder_runs.specs.Lists.{busy, busy_first, busy_rest, numbers_from, quiet, same_inputs}
use Rattle.rules.specs.Drive.{domain_at}
use Rattle.rules.specs.Example.{blocks_of, numbers_told, sevens, zeros}
use Rattle.rules.specs.Noninterference.{fully_reserved, inputs}
use Rattle.rules.specs.Recorder.{has_recorder_shape, kept}
use Rattle.rules.specs.Retention.{accepted_samples, recorder_alone}
use Rattle.rules.specs.Runs.{run}

-- The number that each call of the busy list gets, part by part as the list is put together.
abbrev pub busy_numbers : List ℕ
busy_numbers =
    (0 ∷ 0 ∷ 0 ∷ 0 ∷ 0 ∷ 0 ∷ [])
    ++ replicate 100 0
    -- no third block for the guest, which is no recorder
    ++ (0 ∷ 0 ∷ 0 ∷ 14 ∷ 6 ∷ [])
    ++ replicate 151 0
    ++ (0 ∷ 0 ∷ [])
    ++ replicate 10 0
    -- more than is kept
    ++ (0 ∷ 15 ∷ [])

pub record Shown : Type 0 where
  pub quiet_reserved : fully_reserved 1 quiet zeros ≡ true
  pub busy_reserved : fully_reserved 1 busy sevens ≡ true
  pub quiet_inputs : inputs 1 quiet zeros ≡ same_inputs
  pub busy_inputs : inputs 1 busy sevens ≡ same_inputs
  pub busy_numbers_lem : numbers_told busy sevens ≡ busy_numbers
  -- A has the recorder's shape. After its Create only the recorder uses its domain, and no block of it expires.
  pub busy_shaped : has_recorder_shape (domain_at (run busy_first sevens).table 1) ≡ true
  pub busy_alone : recorder_alone 1 busy_rest (run busy_first sevens) ≡ true
  -- 260 samples were accepted, more than the 256 that the quota holds, and the last 132 are kept.
  pub busy_samples : accepted_samples 1 busy_rest (run busy_first sevens) ≡ numbers_from 1 260
  pub busy_kept : kept (run busy sevens) 1 ≡ numbers_from 129 132
  -- Under the same serials A's blocks have other numbers.
  pub quiet_blocks : blocks_of (run quiet zeros) ≡ (1, 2) ∷ (2, 3) ∷ []
  pub busy_blocks : blocks_of (run busy sevens) ≡ (0, 2) ∷ (3, 3) ∷ []
