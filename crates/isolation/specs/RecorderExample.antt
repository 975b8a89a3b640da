-- Two more runs, with a recorder as domain 1, named A: they meet the hypotheses of noninterference, and the second those of retention. Their
-- calls are the two lists of recorder_runs/specs/Lists.antt.
use Rattle.std.specs.Prelude.{◌%◌, true, false, ◌≡◌, eqb, drop, take}
use Rattle.isolation.specs.Retention.{CreatesRecorder}
use Rattle.isolation.specs.Runs.{RunOf, calls_of, configuration, first, reference_after}
use Rattle.recorder_runs.specs.Lists.{busy, quiet}
use Rattle.rules.specs.Example.{sevens, zeros}
use Rattle.rules.specs.Noninterference.{fully_reserved, inputs}
use Rattle.rules.specs.ProvedTable.{small}
use Rattle.rules.specs.Retention.{recorder_alone}

-- The first run calls the functions that take the table by value, the second by turns those and
-- the ones that are lent it.
pub record RecorderNotEmpty : Type 0 where
  pub one : RunOf small zeros.store quiet (λ i. false)
  pub two : RunOf small sevens.store busy (λ i. eqb (i % 2) 1)
  -- What noninterference asks of them, ..
  pub same_configuration : configuration one.its ≡ configuration two.its
  pub one_reserved : fully_reserved 1 (calls_of one.its) (first one.its) ≡ true
  pub two_reserved : fully_reserved 1 (calls_of two.its) (first two.its) ≡ true
  pub same_inputs : inputs 1 (calls_of one.its) (first one.its) ≡ inputs 1 (calls_of two.its) (first two.its)
  -- .. and retention of the second: call 5, counted from 0, creates A, and the recorder alone uses it in all 270 calls behind that.
  pub created : CreatesRecorder two.its 1 5
  pub alone : recorder_alone 1 (take 270 (drop 6 (calls_of two.its))) (reference_after 6 two.its) ≡ true
