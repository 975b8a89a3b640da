use Prim.Native.Nat.{◌≤◌}
use native.Mathlib.Omega.{arith}
use Rattle.scan.proofs.Seeing.{coverage_seen, held_seen}
use Rattle.tables.proofs.Covering.{covered_instead}
use Rattle.scan.proofs.questions.covered_with.Goals as goal

pub overflow_add-result : goal.overflow_add-result
overflow_add-result c = let few : (c.args.summary.config.blocks ≤ 256) × (c.args.summary.coverage ≤ 256) = coverage_seen c.requires.seen.0.0 c.args.domain c.args.summary c.requires.seen.0.1 c.requires.seen.1 in let z = c in let l = few in rw c.max-after.ensures (omega (arith, l.1, z.requires.reserved_bound.0, z.requires.reserved_bound.1))

pub overflow_add-result-2 : goal.overflow_add-result-2
overflow_add-result-2 c = let few : (c.args.summary.config.blocks ≤ 256) × (c.args.summary.coverage ≤ 256) = coverage_seen c.requires.seen.0.0 c.args.domain c.args.summary c.requires.seen.0.1 c.requires.seen.1 in let least : c.args.summary.held ≤ 256 = held_seen c.requires.seen.0.0 c.args.domain c.args.summary c.requires.seen.0.1 c.requires.seen.1 c.requires.domain_value in let z = c in let l = few in rw c.max-before.ensures (omega (arith, l.0, least, c.reserved_by.ensures.1))

pub returns : goal.returns
returns c = let z = c in let a = z.args in λ t s.
    rw (c.max-after.ensures, c.max-before.ensures, s.holds z.requires.seen.1 z.requires.domain_value, c.reserved_by.ensures.0, s.same_domain, s.same_config, s.covers z.requires.seen.1)
    (covered_instead t a.domain a.reserved a.blocks z.requires.domain_value)
