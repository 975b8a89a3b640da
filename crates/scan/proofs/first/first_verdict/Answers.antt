-- What is seen of a sound table is within the limits.
use Rattle.rules.specs.Calls.{domain_of, profile}
use Rattle.std.proofs.Common.{arith}
use Rattle.scan.proofs.Seeing.{limits_seen}
use Rattle.scan.proofs.first.first_verdict.Goals as goal

pub store_verdict-requires : goal.store_verdict-requires
store_verdict-requires c = let z = c in
    limits_seen z.requires.0 (domain_of (profile z.args.command).own) z.args.summary z.requires.1 (grind (arith, c.in_ok-ask.ensures))
