-- The clauses of soundness, apart and together.
use mathlib.Core.Bool.{Bool, true, ◌&&◌}
use mathlib.Core.Path.{◌≡◌}
use Rattle.geometry.proofs.Laws.Shape.{both}
use Rattle.geometry.specs.Shape.{within_limits}
use Rattle.model.specs.declared.table.Table.{Table}
use Rattle.rules.specs.Counting.{all_to}
use Rattle.rules.specs.Domains.{covered}
use Rattle.rules.specs.Drive.{block_at, capacity, domain_at, each_domain, held_count, open_count, size}
use Rattle.rules.specs.Soundness.{block_sound, domain_sound, each_pair, placements_differ, serials_differ, sound}

pub record Clauses (t : Table) : Type 0 where
  pub limits : within_limits t.config ≡ true
  pub domains : each_domain (λ d. domain_sound (size t) (held_count t d) (open_count t d) (domain_at t d)) ≡ true
  pub coverage : covered t ≡ true
  pub blocks : all_to
      (λ n. block_sound (capacity t n).0 t.config.period (domain_at t (block_at t n).holder) (block_at t n))
      (size t)
      ≡ true
  pub serials_differ_lem : each_pair t serials_differ ≡ true
  pub placements_differ_lem : each_pair t placements_differ ≡ true

joined : {a b : Bool} → a ≡ true → b ≡ true → a && b ≡ true
joined e f = rw (e, f)

pub together : (t : Table) → Clauses t → sound t ≡ true
unfolding sound
together t c =
    joined (joined (joined (joined (joined c.limits c.domains) c.coverage) c.blocks) c.serials_differ_lem)
    c.placements_differ_lem

pub apart : (t : Table) → sound t ≡ true → Clauses t
unfolding sound
apart t e =
    let q6 = both _ _ e in
    let q5 = both _ _ q6.0 in
    let q4 = both _ _ q5.0 in
    let q3 = both _ _ q4.0 in
    let q2 = both _ _ q3.0 in
    record {
      limits = q2.0;
      domains = q2.1;
      coverage = q3.1;
      blocks = q4.1;
      serials_differ_lem = q5.1;
      placements_differ_lem = q6.1;
    }
