-- Demand 3 of the program. Nothing is proved here: each part names its proof.
use Rattle.isolation.specs.Claim.{Isolation}
use Rattle.isolation.proofs.Contracts.{start_contract}
use Rattle.isolation.proofs.Expiry.{expires}
use Rattle.isolation.proofs.Moments.{guaranteed, indistinguishable}
use Rattle.isolation.proofs.Reference.{follows_reference, run_replied, run_untouched}

pub isolation : Isolation
isolation = record {
  starts = start_contract;
  follows_reference = follows_reference;
  replies = run_replied;
  untouched = run_untouched;
  guarantees = guaranteed;
  noninterference = indistinguishable;
  expiry = expires;
}
