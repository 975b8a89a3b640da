-- A change of one block keeps the facts of soundness: one that lets no count rise, and the opening of a Free block.
use Prim.Native.Nat.{ℕ, ◌+◌, ◌≤◌, ◌<◌, max}
use mathlib.Core.Bool.{true, false, true≢false}
use mathlib.Core.Path.{◌≡◌, refl, sym, ap, ap₂, ◌∙◌, subst}
use native.Mathlib.Omega.{arith}
use lib.Dec.{eqb}
use borrow.Author.Tests.{eq-eqb, eqb-true, ne_eqb}
use Rattle.geometry.proofs.Laws.Shape.{by_test, limits}
use Rattle.geometry.specs.declared.shape.Config.{Config}
use Rattle.model.specs.Blocks.{opened}
use Rattle.model.specs.declared.block.Block.{Block}
use Rattle.model.specs.declared.block.State.{State}
use Rattle.model.specs.declared.block.State.TheVariants.{Closed, Free, Open}
use Rattle.model.specs.declared.block.Way.{Way}
use Rattle.model.specs.declared.table.Domain.{Domain}
use Rattle.model.specs.declared.table.Table.{Table}
use Rattle.rules.specs.Blocks.{next_serial}
use Rattle.rules.specs.Domains.{coverage, instead, reserved_by}
use Rattle.rules.specs.Drive.{Drive, block_at, domain_at, held_by, held_count, is_free_state, is_placed_state, open_count, size}
use Rattle.rules.specs.Observation.{Holding, holding_at}
use Rattle.rules.specs.Soundness.{way_below}
use Rattle.rules.proofs.Counting.{by_eq, sum_le, sum_same, sum_zero}
use Rattle.rules.proofs.Kept.Facts.{BlockFacts, DomainFacts, Facts, Owned, StateFacts, coverage_with}
use Rattle.rules.proofs.Kept.Views.{Alike, Changed, changed_apart, held_view, if_open, if_placed, if_serial, one, open_view, own_field, view, view_changed, weight}

-- ---- Coverage

pub coverage_same : (f g h k : ℕ → ℕ) → ((e : ℕ) → 1 ≤ e → e ≤ 16 → (f e ≡ h e) × (g e ≡ k e)) → coverage f g ≡ coverage h k
unfolding coverage
coverage_same f g h k same =
    sum_same 16 _ _ (λ i l. let s = same (i + 1) (omega arith) (omega arith) in ap₂ max s.0 s.1)

pub coverage_le : (f g h k : ℕ → ℕ) → ((e : ℕ) → 1 ≤ e → e ≤ 16 → (f e ≤ h e) × (g e ≤ k e)) → coverage f g ≤ coverage h k
unfolding coverage
coverage_le f g h k less =
    sum_le 16 _ _ (λ i l. let s = less (i + 1) (omega arith) (omega arith) in omega (arith, s.0, s.1))

-- ---- What a block must be, in a table in which its holder's record has grown

pub record Grown (r s : Domain) : Type 0 where
  pub exists : s.exists ≡ true
  pub placements : s.placements ≡ r.placements
  pub last : r.last ≤ s.last

module _ (t u : Table) (b : Block) (same : u.config ≡ t.config)
    (grown : 1 ≤ b.holder → (domain_at t b.holder).exists ≡ true → Grown (domain_at t b.holder) (domain_at u b.holder)) where
  owned_on : Owned t b → Owned u b
  owned_on o =
      let g = grown o.low o.exists in
      record {
        low = o.low;
        high = o.high;
        exists = g.exists;
        first = o.first;
        last = omega (arith, o.last, g.last);
        below = rw g.placements o.below;
      }

  state_facts_on : (s : State) → StateFacts t s b → StateFacts u s b
  state_facts_on Free f = f
  state_facts_on (Open way) f = record {
    owned = owned_on f.owned;
    written = rw same f.written;
    some_left = f.some_left;
    left = rw same f.left;
  }
  state_facts_on (Closed way) f = record { owned = owned_on f.owned; written = rw same f.written; left = f.left }

  pub block_facts_on : BlockFacts t b → BlockFacts u b
  block_facts_on f = state_facts_on b.state f

-- ---- A changed block

-- What the changed block's domain must have for the facts to stay.
pub record Allowed (d n : ℕ) (w : Drive) : Type 0 where
  pub exists : (domain_at w.table d).exists ≡ true
  pub block : BlockFacts w.table (block_at w.table n)
  pub held : held_count w.table d ≤ (domain_at w.table d).quota
  pub covers : coverage (reserved_by w.table) (held_count w.table) ≤ size w.table
  pub opens : open_count w.table d ≤ (domain_at w.table d).limit
  pub unique : (s : ℕ) → view (if_serial s) d w ≤ 1
  pub single : (p : ℕ) → view (if_placed p) d w ≤ 1

pub held_alike : {e : ℕ} {v w : Drive} → Alike e v w → held_count v.table e ≡ held_count w.table e
held_alike {e} {v} {w} s = held_view v e ∙ s.views one ∙ sym (held_view w e)

pub open_alike : {e : ℕ} {v w : Drive} → Alike e v w → open_count v.table e ≡ open_count w.table e
open_alike {e} {v} {w} s = open_view v e ∙ s.views if_open ∙ sym (open_view w e)

-- A domain that cannot tell has what it had.
pub domain_alike : (e : ℕ) (v w : Drive) → Alike e v w → DomainFacts v.table e → DomainFacts w.table e
domain_alike e v w s f = record {
  order = rw (← s.domain) f.order;
  fits = rw (← s.domain, ← s.config) f.fits;
  within = rw (← s.domain, ← held_alike s) f.within;
  existing = λ x. rw (← s.domain, ← open_alike s) (f.existing (ap (λ (r : Domain). r.exists) s.domain ∙ x));
  missing = λ x. sym s.domain ∙ f.missing (ap (λ (r : Domain). r.exists) s.domain ∙ x);
}

module _ {d n : ℕ} {v w : Drive} (p : 1 ≤ d) (c : Changed d n v w) (f : Facts v) (a : Allowed d n w) where
  own_facts : d ≤ 16 → DomainFacts w.table d
  own_facts q =
      let g = f.domains d p q in
      let x = g.existing (sym (own_field c (λ (r : Domain). r.exists)) ∙ a.exists) in
      record {
        order = omega (arith, g.order, own_field c (λ (r : Domain). r.reserved), own_field c (λ (r : Domain). r.quota));
        fits = rw c.config (omega (arith, g.fits, own_field c (λ (r : Domain). r.quota)));
        within = a.held;
        existing = λ e. record {
          some_placement = omega (arith, x.some_placement, own_field c (λ (r : Domain). r.placements));
          few_placements = omega (arith, x.few_placements, own_field c (λ (r : Domain). r.placements));
          enough = omega (arith, x.enough, own_field c (λ (r : Domain). r.placements), own_field c (λ (r : Domain). r.limit));
          most = omega (arith, x.most, own_field c (λ (r : Domain). r.limit));
          within = a.opens;
        };
        missing = λ e. absurd (true≢false (sym a.exists ∙ e));
      }

  grows : (e : ℕ) → 1 ≤ e → (domain_at v.table e).exists ≡ true → Grown (domain_at v.table e) (domain_at w.table e)
  grows e q x =
      by_eq e d
      (λ same. rw same (record {
        exists = a.exists;
        placements = own_field c (λ (r : Domain). r.placements);
        last = c.last;
      }))
      (λ other. rw (c.domains e q other) (record { exists = x; placements = refl; last = omega arith }))

  facts_changed : Facts w
  facts_changed = record {
    limits = rw c.config f.limits;
    domains = λ e q l. by_eq e d
        (λ same. rw same (own_facts (omega (arith, l, same))))
        (λ other. domain_alike e v w (changed_apart c e q other) (f.domains e q l));
    covers = a.covers;
    unique = λ e s q. by_eq e d
        (λ same. rw same (a.unique s))
        (λ other. omega (arith, (changed_apart c e q other).views (if_serial s), f.unique e s q));
    single = λ e k q. by_eq e d
        (λ same. rw same (a.single k))
        (λ other. omega (arith, (changed_apart c e q other).views (if_placed k), f.single e k q));
    blocks = λ m l. by_eq m n
        (λ same. rw same a.block)
        (λ other. rw (c.blocks m other)
        (block_facts_on v.table w.table (block_at v.table m) c.config (grows (block_at v.table m).holder)
        (f.blocks m (subst (λ (x : Config). m < x.blocks) c.config l))));
  }

-- No count rises: so it is when a block is closed, written on or freed.
module _ {d n : ℕ} {v w : Drive} (p : 1 ≤ d) (c : Changed d n v w) (f : Facts v)
    (exists : (domain_at v.table d).exists ≡ true) (few : d ≤ 16)
    (block : BlockFacts w.table (block_at w.table n))
    (fewer : weight one d w n ≤ weight one d v n)
    (fewer-open : weight if_open d w n ≤ weight if_open d v n)
    (fewer-serials : (s : ℕ) → weight (if_serial s) d w n ≤ weight (if_serial s) d v n)
    (fewer-placed : (k : ℕ) → weight (if_placed k) d w n ≤ weight (if_placed k) d v n) where
  held_fewer : held_count w.table d ≤ held_count v.table d
  held_fewer = omega (arith, held_view v d, held_view w d, view_changed c one d, fewer)

  less_allowed : Allowed d n w
  less_allowed =
      let g = f.domains d p few in
      record {
        exists = own_field c (λ (r : Domain). r.exists) ∙ exists;
        block = block;
        held = omega (arith, held_fewer, g.within, own_field c (λ (r : Domain). r.quota));
        covers =
            omega (
              arith,
              f.covers,
              ap (λ (x : Config). x.blocks) c.config,
              coverage_le (reserved_by w.table) (held_count w.table) (reserved_by v.table) (held_count v.table)
                  (λ e q l. by_eq e d
                  (λ same. rw same (omega (arith, own_field c (λ (r : Domain). r.reserved)), held_fewer))
                  (λ other. (
                    omega (arith, ap (λ (r : Domain). r.reserved) (c.domains e q other)),
                    omega (arith, held_alike (changed_apart c e q other)),
                  ))),
            );
        opens =
            omega (
              arith,
              open_view v d,
              open_view w d,
              view_changed c if_open d,
              fewer-open,
              (g.existing exists).within,
              own_field c (λ (r : Domain). r.limit),
            );
        unique = λ s. omega (arith, view_changed c (if_serial s) d, fewer-serials s, f.unique d s p);
        single = λ k. omega (arith, view_changed c (if_placed k) d, fewer-placed k, f.single d k p);
      }

  pub facts_fewer : Facts w
  facts_fewer = facts_changed p c f less_allowed

-- ---- Opening a Free block

-- The coverage sum with other numbers for one domain: its own numbers change nothing, and only the others' count.
instead_self : (d : ℕ) (f g : ℕ → ℕ) → coverage (instead d (f d) f) (instead d (g d) g) ≡ coverage f g
instead_self d f g =
    coverage_same _ _ f g (λ e p l. by_eq e d
    (λ same. rw (eq-eqb e d same, same) (refl, refl))
    (λ other. rw (ne_eqb e d other) (refl, refl)))

instead_others : (d r h : ℕ) (f g f' g' : ℕ → ℕ) → ((e : ℕ) → 1 ≤ e → ¬ (e ≡ d) → (f e ≡ f' e) × (g e ≡ g' e))
    → coverage (instead d r f) (instead d h g) ≡ coverage (instead d r f') (instead d h g')
instead_others d r h f g f' g' same =
    coverage_same _ _ _ _ (λ e p l. by_eq e d
    (λ own. rw (eq-eqb e d own) (refl, refl))
    (λ other. rw (ne_eqb e d other) (same e p other)))

pub coverage_now : (t : Table) (d : ℕ) → coverage_with t d (held_count t d) ≡ coverage (reserved_by t) (held_count t)
coverage_now t d = instead_self d (reserved_by t) (held_count t)

pub coverage_changed : {d n : ℕ} {v w : Drive} → Changed d n v w → (h : ℕ) → coverage_with w.table d h ≡ coverage_with v.table d h
coverage_changed {d} {n} {v} {w} c h =
    ap (λ (r : ℕ). coverage (instead d r (reserved_by w.table)) (instead d h (held_count w.table))) (own_field c (λ (r : Domain). r.reserved))
    ∙ instead_others d (domain_at v.table d).reserved h (reserved_by w.table) (held_count w.table) (reserved_by v.table) (held_count v.table)
    (λ e p other. (ap (λ (r : Domain). r.reserved) (c.domains e p other), sym (held_alike (changed_apart c e p other))))

-- A block that a domain holds is not Free, so it has what such a block must have.
state_owned : (t : Table) (s : State) (b : Block) → StateFacts t s b → 1 ≤ b.holder → Owned t b
state_owned t Free b f p = absurd (omega (arith, f.holder, p))
state_owned t (Open way) b f p = f.owned
state_owned t (Closed way) b f p = f.owned

pub held_owned : (v : Drive) (d n : ℕ) → Facts v → 1 ≤ d → n < size v.table → held_by d (block_at v.table n) ≡ true
    → Owned v.table (block_at v.table n)
held_owned v d n f p l e =
    let b = block_at v.table n in
    state_owned v.table b.state b (f.blocks n l) (omega (arith, p, eqb-true b.holder d e))

-- A sound table has at most 256 blocks.
pub few_blocks : {v : Drive} → Facts v → size v.table ≤ 256
few_blocks {v} f = (limits v.table.config f.limits).ranges.blocks.most

-- A Free block has no holder.
pub free_nobody : (t : Table) (s : State) (b : Block) → is_free_state s ≡ true → StateFacts t s b → b.holder ≡ 0
free_nobody t Free b e f = f.holder
free_nobody t (Open way) b e f = absurd (true≢false (sym e))
free_nobody t (Closed way) b e f = absurd (true≢false (sym e))

-- A view of weights that are all 0.
pub view_none : (q : Holding → ℕ) (d : ℕ) (v : Drive)
    → ((n : ℕ) → n < size v.table → held_by d (block_at v.table n) ≡ true → q (holding_at v n) ≡ 0)
    → view q d v ≡ 0
unfolding view
view_none q d v h =
    sum_zero (size v.table) (weight q d v)
    (λ n l. by_test (held_by d (block_at v.table n)) (λ e. rw e (h n l e)) (λ e. rw e))

-- The next serial is new.
serial_new_lem : (v : Drive) (d s : ℕ) → Facts v → 1 ≤ d → (domain_at v.table d).last < s → view (if_serial s) d v ≡ 0
serial_new_lem v d s f p new =
    view_none (if_serial s) d v (λ n l e.
    let b = block_at v.table n in
    rw (ne_eqb b.serial s (λ same. bad n l e same)))
  where
    bad : (n : ℕ) → n < size v.table → held_by d (block_at v.table n) ≡ true → (block_at v.table n).serial ≡ s → ⊥
    bad n l e same =
        let o = held_owned v d n f p l e in
        let h = eqb-true (block_at v.table n).holder d e in
        omega (arith, subst (λ (x : ℕ). (block_at v.table n).serial ≤ (domain_at v.table x).last) h o.last, new, same)

module _ {d n : ℕ} {v w : Drive} (way : Way) (p : 1 ≤ d) (few : d ≤ 16) (c : Changed d n v w) (f : Facts v)
    (exists : (domain_at v.table d).exists ≡ true)
    (not_held : held_by d (block_at v.table n) ≡ false)
    (fresh : block_at w.table n ≡ opened d way (next_serial v.table d) v.table.config.period (block_at v.table n))
    (next : (domain_at w.table d).last ≡ next_serial v.table d)
    (below : way_below (domain_at v.table d).placements way ≡ true)
    (quota : held_count v.table d + 1 ≤ (domain_at v.table d).quota)
    (covers : coverage_with v.table d (held_count v.table d + 1) ≤ size v.table)
    (limit : open_count v.table d < (domain_at v.table d).limit)
    (none_placed : (k : ℕ) → is_placed_state k (Open way) ≡ true → view (if_placed k) d v ≡ 0) where
  -- What the opened block adds to a view.
  opened_view : (q : Holding → ℕ) → view q d w ≡ view q d v + q (holding_at w n)
  opened_view q =
      let h = view_changed c q d in
      let held : held_by d (block_at w.table n) ≡ true = rw fresh (eq-eqb d d refl) in
      omega (arith, rw (not_held, held) at h)

  opened_held : held_count w.table d ≡ held_count v.table d + 1
  opened_held = omega (arith, held_view v d, held_view w d, opened_view one)

  opened_block : BlockFacts w.table (block_at w.table n)
  opened_block =
      rw fresh (record {
        owned = record {
          low = p;
          high = few;
          exists = own_field c (λ (r : Domain). r.exists) ∙ exists;
          first = omega arith;
          last = omega (arith, next);
          below = rw (own_field c (λ (r : Domain). r.placements)) below;
        };
        written = omega (arith, (limits w.table.config (rw c.config f.limits)).adus.least);
        some_left = (limits v.table.config f.limits).ranges.period.least;
        left = rw c.config (omega arith);
      })

  opened_allowed : Allowed d n w
  opened_allowed = record {
    exists = own_field c (λ (r : Domain). r.exists) ∙ exists;
    block = opened_block;
    held = omega (arith, opened_held, quota, own_field c (λ (r : Domain). r.quota));
    covers =
        omega (
          arith,
          covers,
          ap (λ (x : Config). x.blocks) c.config,
          coverage_now w.table d,
          coverage_changed c (held_count w.table d),
          ap (λ (h : ℕ). coverage_with v.table d h) opened_held,
        );
    opens = omega (arith, open_view v d, open_view w d, opened_view if_open, limit, own_field c (λ (r : Domain). r.limit), weigh_open);
    unique = λ s. by_eq s (next_serial v.table d)
        (λ same. omega (arith, opened_view (if_serial s), serial_new_lem v d s f p (omega (arith, same)), weigh_serial s))
        (λ other. omega (arith, opened_view (if_serial s), f.unique d s p, weigh_other s other));
    single = λ k. by_test (is_placed_state k (Open way))
        (λ e. omega (arith, opened_view (if_placed k), none_placed k e, weigh_placed k))
        (λ e. omega (arith, opened_view (if_placed k), f.single d k p, weigh_unplaced k e));
  }
    where
      weigh_open : if_open (holding_at w n) ≤ 1
      weigh_open = rw fresh (omega arith)

      weigh_serial : (s : ℕ) → if_serial s (holding_at w n) ≤ 1
      weigh_serial s = by_test (eqb (block_at w.table n).serial s) (λ e. rw e (omega arith)) (λ e. rw e (omega arith))

      weigh_other : (s : ℕ) → ¬ (s ≡ next_serial v.table d) → if_serial s (holding_at w n) ≡ 0
      weigh_other s other = rw (fresh, ne_eqb (next_serial v.table d) s (λ e. other (sym e)))

      weigh_placed : (k : ℕ) → if_placed k (holding_at w n) ≤ 1
      weigh_placed k =
          by_test (is_placed_state k (block_at w.table n).state) (λ e. rw e (omega arith)) (λ e. rw e (omega arith))

      weigh_unplaced : (k : ℕ) → is_placed_state k (Open way) ≡ false → if_placed k (holding_at w n) ≡ 0
      weigh_unplaced k e = rw (fresh, e)

  pub facts_opened : Facts w
  facts_opened = facts_changed p c f opened_allowed
