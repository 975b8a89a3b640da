-- Two runs that meet the hypotheses of noninterference. Their calls are the two lists of rules/specs/Example.antt; in the second the
-- neighbours fill the drive. The first run calls `serve` alone, the second `serve` and `serve_in` by turns.
use Rattle.std.specs.Prelude.{◌%◌, true, false, ◌≡◌, eqb}
use Rattle.isolation.specs.Runs.{RunOf, calls_of, configuration, first}
use Rattle.rules.specs.Example.{busy, quiet, sevens, zeros}
use Rattle.rules.specs.Noninterference.{fully_reserved, inputs}
use Rattle.rules.specs.ProvedTable.{small}

pub record NotEmpty : Type 0 where
  pub one : RunOf small zeros.store quiet (λ i. false)
  pub two : RunOf small sevens.store busy (λ i. eqb (i % 2) 1)
  pub same_configuration : configuration one.its ≡ configuration two.its
  pub one_reserved : fully_reserved 1 (calls_of one.its) (first one.its) ≡ true
  pub two_reserved : fully_reserved 1 (calls_of two.its) (first two.its) ≡ true
  pub same_inputs : inputs 1 (calls_of one.its) (first one.its) ≡ inputs 1 (calls_of two.its) (first two.its)
