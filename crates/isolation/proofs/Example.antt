-- The two lists of `rules`, made by the program, meet the hypotheses of noninterference.
use Prim.Native.Nat.{ℕ, ◌%◌}
use mathlib.Core.Bool.{Bool, false}
use mathlib.Core.List.{List}
use mathlib.Core.Path.{◌≡◌, refl, sym, ap₂, ◌∙◌}
use lib.Dec.{eqb}
use Rattle.geometry.specs.Shape.{adus_per_block, each_in_range, planes_per_block, store_length, within_limits}
use Rattle.geometry.specs.declared.shape.Config.{Config}
use Rattle.isolation.specs.Example.{NotEmpty}
use Rattle.isolation.specs.Runs.{RunOf, first, lends_all}
use Rattle.isolation.proofs.Existing.{runs_every_list}
use Rattle.rules.proofs.Claims as rules
use Rattle.rules.specs.Calls.{Call}
use Rattle.rules.specs.Example.{busy, quiet, sevens, zeros}
use Rattle.rules.specs.Noninterference.{fully_reserved, inputs}
use Rattle.rules.specs.Runs.{begun}
use Rattle.rules.specs.ProvedTable.{small}

-- Where the run of a list begins.
pub begins : {c : Config} {store : List ℕ} {ks : List Call} {f : ℕ → Bool} (r : RunOf c store ks f) → first r.its ≡ begun c store
begins r = ap₂ begun r.configured r.lent_first

pub not_empty : NotEmpty
unfolding within_limits each_in_range adus_per_block planes_per_block store_length lends_all
not_empty =
    let one = runs_every_list small zeros.store quiet (λ i. false) refl refl refl in
    let two = runs_every_list small sevens.store busy (λ i. eqb (i % 2) 1) refl refl refl in
    record {
      one = one;
      two = two;
      same_configuration = one.configured ∙ sym two.configured;
      one_reserved = ap₂ (fully_reserved 1) one.called (begins one) ∙ (rules.not_empty).quiet_reserved;
      two_reserved = ap₂ (fully_reserved 1) two.called (begins two) ∙ (rules.not_empty).busy_reserved;
      same_inputs =
          ap₂ (inputs 1) one.called (begins one)
          ∙ (rules.not_empty).quiet_inputs
          ∙ sym (ap₂ (inputs 1) two.called (begins two) ∙ (rules.not_empty).busy_inputs);
    }
