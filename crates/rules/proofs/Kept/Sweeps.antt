-- Delete and Pulse, which go over all blocks, leave a sound table sound; a Delete no other domain can tell.
use Prim.Native.Nat.{ℕ, zero, suc, ◌-◌, ◌≤◌, ◌<◌}
use mathlib.Core.Bool.{true≢false, cond}
use mathlib.Core.List.{List, [], ◌∷◌, ◌++◌, map}
use mathlib.Core.Path.{◌≡◌, refl, sym, ap, ◌∙◌, subst}
use native.Mathlib.Omega.{arith}
use lib.ListN.{drop, length, length-set, take}
use borrow.Author.Tests.{eqb-false, ne_eqb}
use Rattle.geometry.proofs.Laws.Shape.{by_test, is_between}
use Rattle.geometry.specs.declared.shape.Config.{Config}
use Rattle.model.specs.Blocks.{counted_down}
use Rattle.model.specs.declared.command.Command.TheVariants.{Delete, Pulse}
use Rattle.model.specs.declared.table.Domain.{Domain}
use Rattle.rules.specs.Blocks.{pulsed}
use Rattle.rules.specs.Calls.{Call, ◌asking◌}
use Rattle.rules.specs.Domains.{coverage, deleted_domain, freed_if_held, reserved_by}
use Rattle.rules.specs.Drive.{Drive, block_at, clear_domain, domain_at, entries_of, held_by, held_count, open_count, size}
use Rattle.rules.specs.Effects.{effect, questions, verdict}
use Rattle.rules.specs.Observation.{Holding, holding_at}
use Rattle.rules.proofs.Counting.{by_eq, sum_le, sum_same}
use Rattle.rules.proofs.Domains.{deleted_clear, deleted_holds_nothing}
use Rattle.rules.proofs.Drive.{block_changed_below, domain_other}
use Rattle.rules.proofs.Kept.Changes.{held_block_lem}
use Rattle.rules.proofs.Kept.Domains.{stays}
use Rattle.rules.proofs.Kept.Facts.{BlockFacts, DomainFacts, Facts}
use Rattle.rules.proofs.Kept.Holdings.{aged, counted_seen}
use Rattle.rules.proofs.Kept.Mild.{Mild, counted_mild}
use Rattle.rules.proofs.Kept.OneBlock.{block_facts_on, coverage_le, domain_alike, view_none}
use Rattle.rules.proofs.Kept.Sequel.{OwnSequel, Sequel}
use Rattle.rules.proofs.Kept.Views.{Alike, held_view, if_open, if_placed, if_serial, one, open_view, view, weight}
use Rattle.rules.proofs.Questions.{answered_yes}

-- As many blocks as before, each changed or not.
length_changed : {A : Type 0} (change : A → A) (k : ℕ) (l : List A) → length (map change (take k l) ++ drop k l) ≡ length l
length_changed change zero l = refl
length_changed change (suc k) [] = refl
length_changed change (suc k) (x ∷ l) = ap suc (length_changed change k l)

-- ---- Delete

module _ (v : Drive) (d : ℕ) (f : Facts v) (p : 1 ≤ d) where
  abbrev swept : Drive
  swept = record { table = deleted_domain d v.table; store = v.store }

  swept_config : swept.table.config ≡ v.table.config
  unfolding deleted_domain
  swept_config = refl

  -- A block of the domain is freed, and any other stays.
  swept_block : (n : ℕ) → n < size v.table → block_at swept.table n ≡ freed_if_held d (block_at v.table n)
  unfolding deleted_domain
  swept_block n l = block_changed_below (freed_if_held d) v.table n (rw (ne_eqb 0 d (λ q. omega arith))) l

  swept_domain : (e : ℕ) → 1 ≤ e → ¬ (e ≡ d) → domain_at swept.table e ≡ domain_at v.table e
  unfolding deleted_domain
  swept_domain e q other = domain_other v.table d e clear_domain p q (λ same. other (sym same))

  swept_weight : (q : Holding → ℕ) (e : ℕ) → 1 ≤ e → ¬ (e ≡ d) → (n : ℕ) → n < size v.table
      → weight q e v n ≡ weight q e swept n
  unfolding entries_of deleted_domain
  swept_weight q e low other n l =
      by_test (held_by d (block_at v.table n))
      (λ h. rw (swept_block n l, h, held_block_lem d (block_at v.table n) h e low other, ne_eqb 0 e (λ z. omega (arith, low, z))))
      (λ h. rw (swept_block n l, h))

  swept_others : (e : ℕ) → 1 ≤ e → ¬ (e ≡ d) → Alike e v swept
  unfolding view deleted_domain
  swept_others e low other = record {
    config = refl;
    domain = sym (swept_domain e low other);
    views = λ q. sum_same (size v.table) _ _ (swept_weight q e low other);
  }

  swept_none : (q : Holding → ℕ) → view q d swept ≡ 0
  unfolding deleted_domain
  swept_none q =
      view_none q d swept (λ n l h. absurd (true≢false (sym h ∙ deleted_holds_nothing v.table d n p l)))

  swept_held : held_count swept.table d ≡ 0
  swept_held = held_view swept d ∙ swept_none one

  swept_own : DomainFacts swept.table d
  swept_own =
      let clear = deleted_clear v.table d in
      record {
        order = rw clear (omega arith);
        fits = rw clear (omega arith);
        within = rw swept_held (omega arith);
        existing = λ e. absurd (true≢false (sym e ∙ ap (λ (r : Domain). r.exists) clear));
        missing = λ e. clear;
      }

  swept_covers : coverage (reserved_by swept.table) (held_count swept.table)
      ≤ coverage (reserved_by v.table) (held_count v.table)
  swept_covers =
      coverage_le _ _ _ _ (λ e low l. by_eq e d
      (λ own. rw own (omega (arith, ap (λ (r : Domain). r.reserved) (deleted_clear v.table d)), omega (arith, swept_held)))
      (λ other. (
        omega (arith, ap (λ (r : Domain). r.reserved) (swept_domain e low other)),
        omega (arith, held_view v e, held_view swept e, (swept_others e low other).views one),
      )))

  swept_facts_at : (n : ℕ) → n < size v.table → BlockFacts swept.table (block_at swept.table n)
  swept_facts_at n l =
      let b = block_at v.table n in
      by_test (held_by d b)
      (λ h. rw (swept_block n l, h) (record { holder = refl; written = refl; left = refl; serial = refl }))
      (λ h. rw (swept_block n l, h)
      (block_facts_on v.table swept.table b swept_config
      (λ low x. rw (swept_domain b.holder low (eqb-false b.holder d h)) (stays (domain_at v.table b.holder) x))
      (f.blocks n l)))

  swept_facts : Facts swept
  swept_facts = record {
    limits = rw swept_config f.limits;
    domains = λ e low l. by_eq e d
        (λ own. rw own swept_own)
        (λ other. domain_alike e v swept (swept_others e low other) (f.domains e low l));
    covers = omega (arith, swept_covers, f.covers, ap (λ (c : Config). c.blocks) swept_config);
    unique = λ e s low. by_eq e d
        (λ own. rw (own, swept_none (if_serial s)) (omega arith))
        (λ other. omega (arith, (swept_others e low other).views (if_serial s), f.unique e s low));
    single = λ e k low. by_eq e d
        (λ own. rw (own, swept_none (if_placed k)) (omega arith))
        (λ other. omega (arith, (swept_others e low other).views (if_placed k), f.single e k low));
    blocks = λ n l. swept_facts_at n (subst (λ (c : Config). n < c.blocks) swept_config l);
  }

  swept_sequel : OwnSequel d v swept
  unfolding deleted_domain
  swept_sequel = record {
    sequel = record {
      facts = swept_facts;
      config = refl;
      domains = length-set v.table.domains (d - 1) clear_domain;
      blocks = length_changed (freed_if_held d) (size v.table) v.table.blocks;
      store = refl;
    };
    others = swept_others;
  }

-- ---- Pulse

module _ (v : Drive) (seconds : ℕ) where
  abbrev older : Drive
  older = record { table = pulsed seconds v.table; store = v.store }

  counts : (n : ℕ) → Mild v.table (block_at v.table n) (counted_down seconds (block_at v.table n))
  counts n = counted_mild v.table seconds (block_at v.table n)

  older_block : (n : ℕ) → n < size v.table → block_at older.table n ≡ counted_down seconds (block_at v.table n)
  unfolding counted_down
  older_block n l = block_changed_below (counted_down seconds) v.table n refl l

  older_held : (d n : ℕ) → n < size v.table → held_by d (block_at older.table n) ≡ held_by d (block_at v.table n)
  older_held d n l = rw (older_block n l, (counts n).holder)

  -- A weight that does not rise with the block has a view that does not rise.
  older_view : (q : Holding → ℕ) (d : ℕ) → ((n : ℕ) → n < size v.table → q (holding_at older n) ≤ q (holding_at v n))
      → view q d older ≤ view q d v
  unfolding view
  older_view q d less =
      sum_le (size v.table) _ _ (λ n l. rw (older_held d n l)
      (by_test (held_by d (block_at v.table n)) (λ e. rw e (less n l)) (λ e. rw e (omega arith))))

  older_held_count : (d : ℕ) → held_count older.table d ≤ held_count v.table d
  older_held_count d = omega (arith, held_view v d, held_view older d, older_view one d (λ n l. omega arith))

  older_open : (d : ℕ) → open_count older.table d ≤ open_count v.table d
  older_open d =
      omega (arith, open_view v d, open_view older d, older_view if_open d (λ n l. rw (older_block n l) (counts n).opens))

  older_facts : Facts v → Facts older
  older_facts f = record {
    limits = f.limits;
    domains = λ d low l.
        let g = f.domains d low l in
        record {
          order = g.order;
          fits = g.fits;
          within = omega (arith, g.within, older_held_count d);
          existing = λ e.
              let x = g.existing e in
              record {
                some_placement = x.some_placement;
                few_placements = x.few_placements;
                enough = x.enough;
                most = x.most;
                within = omega (arith, x.within, older_open d);
              };
          missing = g.missing;
        };
    covers =
        omega (
          arith,
          f.covers,
          coverage_le (reserved_by older.table) (held_count older.table) (reserved_by v.table) (held_count v.table)
              (λ d low l. (omega arith, older_held_count d)),
        );
    unique = λ d s low.
        omega (
          arith,
          f.unique d s low,
          older_view (if_serial s) d (λ n l. rw (older_block n l, (counts n).serial) (omega arith)),
        );
    single = λ d k low.
        omega (arith, f.single d k low, older_view (if_placed k) d (λ n l. rw (older_block n l) ((counts n).placed k)));
    blocks = λ n l.
        rw (older_block n l)
        (block_facts_on v.table older.table (counted_down seconds (block_at v.table n)) refl
        (λ low x. stays (domain_at v.table (counted_down seconds (block_at v.table n)).holder) x)
        ((counts n).facts (f.blocks n l)));
  }

  older_holding : (n : ℕ) → n < size v.table → holding_at older n ≡ aged seconds (holding_at v n)
  unfolding entries_of
  older_holding n l =
      let b = block_at v.table n in
      rw (older_block n l)
      (counted_seen seconds b.state b.holder b.written b.left b.erases b.serial (entries_of v n))

-- ---- The commands

module _ (v : Drive) (call : Call) (f : Facts v) (whole : length v.table.domains ≡ 16) where
  pub deleted : (d : ℕ) → verdict v (call asking Delete d) ≡ 0 → OwnSequel d v (effect v (call asking Delete d)).drive
  unfolding effect questions
  deleted d e = swept_sequel v d f (is_between 1 16 d (answered_yes v (call asking Delete d) 4 e)).least

  pub pulsed_sequel : (seconds : ℕ) → Sequel v (effect v (call asking Pulse seconds)).drive
  unfolding effect
  pulsed_sequel seconds = record {
    facts = older_facts v seconds f;
    config = refl;
    domains = refl;
    blocks = length_changed (counted_down seconds) (size v.table) v.table.blocks;
    store = refl;
  }

  pub pulsed_view : (seconds a : ℕ) (q : Holding → ℕ) → view q a (effect v (call asking Pulse seconds)).drive ≡ view (λ h. q (aged seconds h)) a v
  unfolding effect view
  pulsed_view seconds a q =
      sum_same (size v.table) _ _ (λ n l. rw (older_held v seconds a n l)
      (ap (λ (h : Holding). cond (held_by a (block_at v.table n)) (q h) 0) (older_holding v seconds n l)))

  pub pulsed_domain : (seconds a : ℕ) → domain_at (effect v (call asking Pulse seconds)).drive.table a ≡ domain_at v.table a
  unfolding effect
  pulsed_domain seconds a = refl
