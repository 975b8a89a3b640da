-- Create and Change Capacity leave a sound table sound, and no other domain can tell.
use Prim.Native.Nat.{ℕ, ◌-◌, ◌*◌, ◌≤◌}
use mathlib.Core.Bool.{Bool, true, false, true≢false, ◌&&◌, cond}
use mathlib.Core.Path.{◌≡◌, refl, sym, ap, ◌∙◌, subst}
use native.Mathlib.Omega.{arith}
use lib.Dec.{eqb, leb, ltb}
use lib.ListN.{length, length-set}
use lib.Seq.{get_or-set_same}
use borrow.Author.Tests.{eq-eqb, leb-true, ltb-false, ne_eqb, not-true}
use Rattle.geometry.proofs.Laws.Shape.{both, by_test, is_between, least_blocks, limits}
use Rattle.geometry.specs.Shape.{between, drive_planes, planes_per_block, whole_blocks, within_limits}
use Rattle.geometry.specs.declared.shape.Config.{Config}
use Rattle.geometry.specs.declared.shape.Planes.{Planes}
use Rattle.model.specs.declared.command.Command.TheVariants.{ChangeCapacity, Create}
use Rattle.model.specs.declared.table.Domain.{Domain}
use Rattle.model.specs.declared.table.Table.{Table}
use Rattle.rules.specs.Calls.{Call, ◌asking◌}
use Rattle.rules.specs.Domains.{are_plane_counts, changed_domain, coverage, covered_with, created_domain, instead, new_block_count, open_limit, reserved_by}
use Rattle.rules.specs.Drive.{Drive, block_at, clear_domain, domain_at, entries_of, held_by, held_count, is_open, open_count, size, with_domain}
use Rattle.rules.specs.Effects.{effect, questions, verdict}
use Rattle.rules.specs.Observation.{Holding}
use Rattle.rules.proofs.Counting.{by_eq, sum_le}
use Rattle.rules.proofs.Domains.{changed_order}
use Rattle.rules.proofs.Drive.{domain_other}
use Rattle.rules.proofs.Kept.Facts.{DomainFacts, Existing, Facts}
use Rattle.rules.proofs.Kept.OneBlock.{Grown, block_facts_on, coverage_same, domain_alike}
use Rattle.rules.proofs.Kept.Sequel.{OwnSequel}
use Rattle.rules.proofs.Kept.Views.{Alike, if_placed, if_serial, view}
use Rattle.rules.proofs.Questions.{answered_yes}

-- ---- One domain's record is replaced

-- A record that stays has grown by nothing.
pub stays : (r : Domain) → r.exists ≡ true → Grown r r
stays r e = record { exists = e; placements = refl; last = omega arith }

-- What the new record must have for the facts to stay.
record Fitting (t : Table) (d : ℕ) (r : Domain) : Type 0 where
  order : r.reserved ≤ r.quota
  fits : r.quota ≤ size t
  within : held_count t d ≤ r.quota
  exists : r.exists ≡ true
  existing : Existing r (open_count t d)
  grown : (domain_at t d).exists ≡ true → Grown (domain_at t d) r
  covers : covered_with t d r.reserved (held_count t d) ≡ true

module _ (v : Drive) (d : ℕ) (r : Domain) (f : Facts v) (whole : length v.table.domains ≡ 16) (p : 1 ≤ d) (few : d ≤ 16)
    (fit : Fitting v.table d r) where
  abbrev replaced : Drive
  replaced = record { table = with_domain d r v.table; store = v.store }

  replaced_domain : domain_at replaced.table d ≡ r
  replaced_domain = get_or-set_same v.table.domains (d - 1) r clear_domain (omega (arith, whole, p, few))

  replaced_view : (q : Holding → ℕ) (e : ℕ) → view q e replaced ≡ view q e v
  unfolding view entries_of
  replaced_view q e = refl

  replaced_held : (e : ℕ) → held_count replaced.table e ≡ held_count v.table e
  unfolding held_count
  replaced_held e = refl

  replaced_open : (e : ℕ) → open_count replaced.table e ≡ open_count v.table e
  unfolding open_count
  replaced_open e = refl

  replaced_others : (e : ℕ) → 1 ≤ e → ¬ (e ≡ d) → Alike e v replaced
  replaced_others e q other = record {
    config = refl;
    domain = sym (domain_other v.table d e r p q (λ same. other (sym same)));
    views = λ w. sym (replaced_view w e);
  }

  replaced_own : DomainFacts replaced.table d
  replaced_own = record {
    order = rw replaced_domain fit.order;
    fits = rw replaced_domain fit.fits;
    within = rw (replaced_domain, replaced_held d) fit.within;
    existing = λ e. rw (replaced_domain, replaced_open d) fit.existing;
    missing = λ e. absurd (true≢false (sym fit.exists ∙ ap (λ (x : Domain). x.exists) (sym replaced_domain) ∙ e));
  }

  -- Question 14 looks at the coverage sum as it is afterwards.
  replaced_covers : coverage (reserved_by replaced.table) (held_count replaced.table) ≤ size v.table
  replaced_covers =
      let t = v.table in
      let t' = replaced.table in
      let now = coverage (instead d r.reserved (reserved_by t)) (instead d (held_count t d) (held_count t)) in
      let same : coverage (reserved_by t') (held_count t') ≡ now =
      coverage_same _ _ _ _ (λ e q l. by_eq e d
      (λ own. rw (eq-eqb e d own, own) (ap (λ (x : Domain). x.reserved) replaced_domain, replaced_held d))
      (λ other. rw (ne_eqb e d other)
      (ap (λ (x : Domain). x.reserved) (domain_other t d e r p q (λ own. other (sym own))), replaced_held e))) in
      omega (arith, same, leb-true now (size t) fit.covers)

  replaced_grows : (e : ℕ) → 1 ≤ e → (domain_at v.table e).exists ≡ true
      → Grown (domain_at v.table e) (domain_at replaced.table e)
  replaced_grows e q x =
      by_eq e d
      (λ own. rw own (subst (Grown (domain_at v.table d)) (sym replaced_domain)
      (fit.grown (subst (λ (k : ℕ). (domain_at v.table k).exists ≡ true) own x))))
      (λ other. rw (domain_other v.table d e r p q (λ own. other (sym own))) (stays (domain_at v.table e) x))

  replaced_facts : Facts replaced
  replaced_facts = record {
    limits = f.limits;
    domains = λ e q l. by_eq e d
        (λ own. rw own replaced_own)
        (λ other. domain_alike e v replaced (replaced_others e q other) (f.domains e q l));
    covers = replaced_covers;
    unique = λ e s q. omega (arith, replaced_view (if_serial s) e, f.unique e s q);
    single = λ e k q. omega (arith, replaced_view (if_placed k) e, f.single e k q);
    blocks = λ m l.
        block_facts_on v.table replaced.table (block_at v.table m) refl
        (replaced_grows (block_at v.table m).holder) (f.blocks m l);
  }

  replaced_sequel : OwnSequel d v replaced
  replaced_sequel = record {
    sequel = record {
      facts = replaced_facts;
      config = refl;
      domains = length-set v.table.domains (d - 1) r;
      blocks = refl;
      store = refl;
    };
    others = replaced_others;
  }

  replaced_all : OwnSequel d v replaced
      × (domain_at replaced.table d ≡ r)
      × ((q : Holding → ℕ) → view q d replaced ≡ view q d v)
  replaced_all = (replaced_sequel, replaced_domain, λ q. replaced_view q d)

-- ---- Create

-- At most S × W planes are at most S whole blocks.
blocks_fit : (c : Config) (n : Planes) → within_limits c ≡ true → leb n.0 (drive_planes c).0 ≡ true
    → whole_blocks c n ≤ c.blocks
unfolding drive_planes
blocks_fit c n l e = (least_blocks c n (limits c l)).1 c.blocks (leb-true n.0 (c.blocks * (planes_per_block c).0) e)

-- No more blocks are open than held.
open_held : (t : Table) (d : ℕ) → open_count t d ≤ held_count t d
unfolding open_count held_count
open_held t d = sum_le (size t) _ _ (λ n l. fewer (held_by d (block_at t n)) (is_open (block_at t n)))
  where
    fewer : (a b : Bool) → cond (a && b) 1 0 ≤ cond a 1 0
    fewer true true = omega arith
    fewer true false = omega arith
    fewer false b = omega arith

-- The limit is no less than the number of placement IDs and no more than 256.
limit_fits : (placements limit : ℕ) → placements ≤ 16 → limit ≤ 256
    → (placements ≤ open_limit placements limit) × (open_limit placements limit ≤ 256)
limit_fits placements limit p l =
    by_test (ltb limit placements)
    (λ e. rw e (omega arith, omega arith))
    (λ e. rw e (ltb-false limit placements e, l))

-- The record of a domain that was missing, and so held nothing.
created_fit : (v : Drive) (call : Call) (f : Facts v) (d : ℕ) (guarantee quota : Planes) (placements limit : ℕ)
    → 1 ≤ d → d ≤ 16
    → verdict v (call asking Create d guarantee quota placements limit) ≡ 0
    → Fitting v.table d (created_domain v.table.config guarantee quota placements limit)
unfolding created_domain questions
created_fit v call f d guarantee quota placements limit p few e =
    let c = Create d guarantee quota placements limit in
    let t = v.table in
    let missing : (domain_at t d).exists ≡ false = not-true (domain_at t d).exists (answered_yes v (call asking c) 5 e) in
    let counts = are_plane_counts t.config guarantee quota in
    let h1 = both (counts && between 1 16 placements) (between 0 256 limit) (answered_yes v (call asking c) 6 e) in
    let h2 = both counts (between 1 16 placements) h1.0 in
    let most = (drive_planes t.config).0 in
    let h3 = both (leb guarantee.0 most) (leb quota.0 most) h2.0 in
    let few-placed = is_between 1 16 placements h2.1 in
    let open_limit = limit_fits placements limit few-placed.most (is_between 0 256 limit h1.1).most in
    let g = f.domains d p few in
    let none : held_count t d ≤ 0 = subst (λ (r : Domain). held_count t d ≤ r.quota) (g.missing missing) g.within in
    record {
      order = omega arith;
      fits =
          omega (
            arith,
            blocks_fit t.config guarantee f.limits h3.0,
            blocks_fit t.config quota f.limits h3.1,
          );
      within = omega arith;
      exists = refl;
      existing = record {
        some_placement = few-placed.least;
        few_placements = few-placed.most;
        enough = open_limit.0;
        most = open_limit.1;
        within = omega (arith, open_held t d);
      };
      grown = λ x. absurd (true≢false (sym x ∙ missing));
      covers = answered_yes v (call asking c) 14 e;
    }

-- ---- Change Capacity

-- A block count that is kept, or is rounded up from at most S × W planes, is at most S.
count_fits : (c : Config) (n : Planes) (present : ℕ) → within_limits c ≡ true → leb n.0 (drive_planes c).0 ≡ true
    → present ≤ c.blocks
    → new_block_count c n present ≤ c.blocks
count_fits c n present l e p = by_test (eqb n.0 0) (λ z. rw z p) (λ z. rw z (blocks_fit c n l e))

-- Placements, limit and last serial stay, and nothing is held beyond the quota.
changed_fit : (v : Drive) (call : Call) (f : Facts v) (d : ℕ) (guarantee quota : Planes) → 1 ≤ d → d ≤ 16
    → verdict v (call asking ChangeCapacity d guarantee quota) ≡ 0
    → Fitting v.table d (changed_domain v.table d guarantee quota)
unfolding changed_domain questions
changed_fit v call f d guarantee quota p few e =
    let c = ChangeCapacity d guarantee quota in
    let t = v.table in
    let r = domain_at t d in
    let most = (drive_planes t.config).0 in
    let h = both (leb guarantee.0 most) (leb quota.0 most) (answered_yes v (call asking c) 6 e) in
    let g = f.domains d p few in
    let x = g.existing (answered_yes v (call asking c) 5 e) in
    let order = changed_order t d guarantee quota in
    record {
      order = order.0;
      fits =
          omega (
            arith,
            count_fits t.config guarantee r.reserved f.limits h.0 (omega (arith, g.order, g.fits)),
            count_fits t.config quota r.quota f.limits h.1 g.fits,
            g.within,
            g.fits,
          );
      within = order.1;
      exists = answered_yes v (call asking c) 5 e;
      existing = record {
        some_placement = x.some_placement;
        few_placements = x.few_placements;
        enough = x.enough;
        most = x.most;
        within = x.within;
      };
      grown = λ y. record { exists = y; placements = refl; last = omega arith };
      covers = answered_yes v (call asking c) 14 e;
    }

-- ---- The commands

module _ (v : Drive) (call : Call) (f : Facts v) (whole : length v.table.domains ≡ 16) where
  pub created : (d : ℕ) (guarantee quota : Planes) (placements limit : ℕ)
      → let c = Create d guarantee quota placements limit in
      verdict v (call asking c) ≡ 0
      → OwnSequel d v (effect v (call asking c)).drive
      × (domain_at (effect v (call asking c)).drive.table d ≡ created_domain v.table.config guarantee quota placements limit)
      × ((q : Holding → ℕ) → view q d (effect v (call asking c)).drive ≡ view q d v)
  unfolding effect questions
  created d guarantee quota placements limit e =
      let r = created_domain v.table.config guarantee quota placements limit in
      let id = is_between 1 16 d (answered_yes v (call asking Create d guarantee quota placements limit) 4 e) in
      replaced_all v d r f whole id.least id.most
      (created_fit v call f d guarantee quota placements limit id.least id.most e)

  pub changed : (d : ℕ) (guarantee quota : Planes)
      → let c = ChangeCapacity d guarantee quota in
      verdict v (call asking c) ≡ 0
      → OwnSequel d v (effect v (call asking c)).drive
      × (domain_at (effect v (call asking c)).drive.table d ≡ changed_domain v.table d guarantee quota)
      × ((q : Holding → ℕ) → view q d (effect v (call asking c)).drive ≡ view q d v)
  unfolding effect questions
  changed d guarantee quota e =
      let r = changed_domain v.table d guarantee quota in
      let id = is_between 1 16 d (answered_yes v (call asking ChangeCapacity d guarantee quota) 4 e) in
      replaced_all v d r f whole id.least id.most (changed_fit v call f d guarantee quota id.least id.most e)
