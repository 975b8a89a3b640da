-- The coverage rule decides.
use mathlib.Core.Path.{sym, ap, ◌∙◌}
use native.Mathlib.Omega.{arith}
use Rattle.domains.specs.Reserving.{reserved}
use Rattle.rules.specs.Domains.{covered_with}
use Rattle.scan.proofs.Seeing.{held_seen}
use Rattle.domains.proofs.reserving.reserved.Goals as goal

pub covered_with-requires : goal.covered_with-requires
covered_with-requires c = let z = c in
    record { seen = z.requires.seen; domain_value = z.requires.domain_value; reserved_bound = (omega arith, omega (arith, held_seen z.requires.seen.0.0 z.args.domain z.args.summary z.requires.seen.0.1 z.requires.seen.1 z.requires.domain_value)) }

pub returns-then-covered_with : goal.returns-then-covered_with
unfolding reserved
returns-then-covered_with c = let z = c in let a = z.args in λ t s.
    let same = ap (λ held. covered_with t a.domain a.new.reserved held) (sym (s.holds z.requires.seen.1 z.requires.domain_value)) in
    rw (same ∙ sym (c.covered_with.ensures t s) ∙ c.if-covered_with.true, c.domain_change.ensures)

pub returns : goal.returns
unfolding reserved
returns c = let z = c in let a = z.args in λ t s.
    let same = ap (λ held. covered_with t a.domain a.new.reserved held) (sym (s.holds z.requires.seen.1 z.requires.domain_value)) in
    rw (same ∙ sym (c.covered_with.ensures t s) ∙ c.if-covered_with.false)
