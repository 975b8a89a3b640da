-- What an accepted Erase was asked, and that it leaves a sound table sound: it opens a Free block, or frees a Closed one that the domain
-- holds and opens it.
use Prim.Native.Nat.{ℕ, ◌+◌, ◌≤◌, ◌<◌}
use mathlib.Core.Bool.{Bool, true, false, true≢false, ◌||◌}
use mathlib.Core.Option.{some}
use mathlib.Core.Path.{◌≡◌, refl, sym, ap, ◌∙◌, subst}
use native.Mathlib.Omega.{arith}
use lib.Dec.{eqb}
use lib.ListN.{length-set}
use borrow.Author.Tests.{eq-eqb, eqb-true, leb-true, ltb-true}
use Rattle.geometry.proofs.Laws.Shape.{by_test, is_between}
use Rattle.geometry.specs.Address.{is_block}
use Rattle.model.specs.declared.block.Way.TheVariants as way
use Rattle.model.specs.declared.command.Command.TheVariants.{Erase}
use Rattle.model.specs.declared.table.Table.{Table}
use Rattle.rules.specs.Blocks.{any_block, chosen_block, freed_at, opened_for}
use Rattle.rules.specs.Calls.{Call, ◌asking◌}
use Rattle.rules.specs.Drive.{Drive, block_at, domain_at, held_count, is_free, open_count, size}
use Rattle.rules.specs.Effects.{effect, questions, verdict}
use Rattle.rules.specs.Observation.{Holding, holding_at}
use Rattle.rules.specs.Questions.{is_held, new_of_erase}
use Rattle.rules.proofs.Blocks.{Choice, choice}
use Rattle.rules.proofs.Counting.{the_first}
use Rattle.rules.proofs.Kept.Changes.{HeldBlock, Openable, freed_changed, freed_facts, freed_found, freed_not_held, freed_sequel, opened_facts, opened_sequel, reopened}
use Rattle.rules.proofs.Kept.Facts.{Facts, coverage_with}
use Rattle.rules.proofs.Kept.Fit.{Fit, fit_blocks, fit_ready}
use Rattle.rules.proofs.Kept.OneBlock.{coverage_changed, coverage_now, free_nobody}
use Rattle.rules.proofs.Kept.Room.{room_chosen}
use Rattle.rules.proofs.Kept.Sequel.{OwnSequel, sequel_then}
use Rattle.rules.proofs.Kept.Views.{held_view, if_open, one, open_view, view, view_changed}
use Rattle.rules.proofs.Questions.{answered_yes}

-- A block that may be opened for a domain.
pub record Opens (d n : ℕ) (v : Drive) : Type 0 where
  pub block : Openable d n v
  pub facts : Facts v
  pub exists : (domain_at v.table d).exists ≡ true
  pub quota : held_count v.table d + 1 ≤ (domain_at v.table d).quota
  pub covers : coverage_with v.table d (held_count v.table d + 1) ≤ size v.table
  pub limit : open_count v.table d < (domain_at v.table d).limit

opens_sequel : {d n : ℕ} {v : Drive} → Opens d n v → OwnSequel d v (opened_for d way.Erase n v)
opens_sequel o =
    opened_sequel o.block way.Erase
    (opened_facts o.block way.Erase o.facts o.exists refl o.quota o.covers o.limit (λ k e. absurd (true≢false (sym e))))

the_middle : (a b c : Bool) → a || b || c ≡ true → a ≡ false → c ≡ false → b ≡ true
the_middle true b c e f g = absurd (true≢false f)
the_middle false true c e f g = refl
the_middle false false c e f g = absurd (true≢false (sym e ∙ g))

module _ (v : Drive) (call : Call) (fit : Fit v call) (d n : ℕ) (e : verdict v (call asking Erase d n) ≡ 0) where
  abbrev t : Table
  t = v.table

  -- Block m is nobody's, and opening it adds one.
  new_opens : (m : ℕ) → m < size t → (block_at t m).holder ≡ 0 → new_of_erase t d n ≡ 1 → Opens d m v
  unfolding questions
  new_opens m l nobody adds =
      let id = is_between 1 16 d (answered_yes v (call asking Erase d n) 4 e) in
      record {
        block = record {
          low = id.least;
          high = id.most;
          ready = fit_ready fit (answered_yes v (call asking Erase d n) 3 e);
          domains = fit.shaped.domains;
          inside = l;
          nobody = nobody;
        };
        facts = fit.facts;
        exists = answered_yes v (call asking Erase d n) 5 e;
        quota =
            subst (λ (k : ℕ). held_count t d + k ≤ (domain_at t d).quota) adds
            (leb-true (held_count t d + new_of_erase t d n) (domain_at t d).quota (answered_yes v (call asking Erase d n) 13 e));
        covers =
            subst (λ (k : ℕ). coverage_with t d (held_count t d + k) ≤ size t) adds
            (leb-true (coverage_with t d (held_count t d + new_of_erase t d n)) (size t) (answered_yes v (call asking Erase d n) 14 e));
        limit = ltb-true (open_count t d) (domain_at t d).limit (answered_yes v (call asking Erase d n) 11 e);
      }

  -- Erase FFFFFFFFh opens the chosen block.
  pub any_opens : n ≡ any_block → (m : ℕ) × (chosen_block t ≡ some m) × Opens d m v
  unfolding questions
  any_opens same =
      let id = is_between 1 16 d (answered_yes v (call asking Erase d n) 4 e) in
      let adds : new_of_erase t d n ≡ 1 = rw (eq-eqb n any_block same) in
      let found =
      room_chosen v d 1 fit.facts id.least id.most
      (subst (λ (k : ℕ). coverage_with t d (held_count t d + k) ≤ size t) adds
      (leb-true (coverage_with t d (held_count t d + new_of_erase t d n)) (size t) (answered_yes v (call asking Erase d n) 14 e)))
      (omega arith) in
      let chosen = subst (Choice t (size t)) found.1 (choice t (size t)) in
      let b = block_at t found.0 in (
        found.0,
        found.1,
        new_opens found.0 chosen.inside
            (free_nobody t b.state b chosen.free (fit.facts.blocks found.0 chosen.inside)) adds,
      )

  named_inside : eqb n any_block ≡ false → n < size t
  unfolding questions
  named_inside other =
      ltb-true n (size t) (the_first (is_block t.config n) (eqb n any_block) (answered_yes v (call asking Erase d n) 6 e) other)

  -- Erase of the number of a Free block opens that.
  free_opens : eqb n any_block ≡ false → is_held t d n ≡ false → Opens d n v
  unfolding questions
  free_opens other not_held =
      let b = block_at t n in
      let l = named_inside other in
      let free : is_free b ≡ true =
      the_middle (eqb n any_block) (is_free b) (is_held t d n) (answered_yes v (call asking Erase d n) 9 e) other not_held in
      new_opens n l (free_nobody t b.state b free (fit.facts.blocks n l)) (rw (other, not_held))

  -- Erase of the number of a Closed block that the domain holds frees and opens it.
  abbrev freeing : Drive
  freeing = record { table = freed_at n t; store = v.store }

  module _ (other : eqb n any_block ≡ false) (held : is_held t d n ≡ true) where
    again_held : HeldBlock d n v
    unfolding questions
    again_held = record {
      low = (is_between 1 16 d (answered_yes v (call asking Erase d n) 4 e)).least;
      inside = named_inside other;
      whole = fit_blocks fit;
      held = held;
    }

    fewer : (q : Holding → ℕ) → view q d freeing + q (holding_at v n) ≡ view q d v
    fewer q =
        let h = view_changed (freed_changed again_held) q d in
        omega (arith, rw (held, freed_not_held again_held) at h)

    one_fewer : held_count freeing.table d + 1 ≡ held_count t d
    one_fewer = omega (arith, held_view v d, held_view freeing d, fewer one)

    pub again_opens : Opens d n freeing
    unfolding questions
    again_opens =
        let id = is_between 1 16 d (answered_yes v (call asking Erase d n) 4 e) in
        let ready = fit_ready fit (answered_yes v (call asking Erase d n) 3 e) in
        record {
          block = record {
            low = id.least;
            high = id.most;
            ready = record { shape = refl; blocks = rw length-set ready.blocks; store = ready.store };
            domains = fit.shaped.domains;
            inside = named_inside other;
            nobody = rw (freed_found again_held);
          };
          facts = freed_facts again_held fit.facts;
          exists = answered_yes v (call asking Erase d n) 5 e;
          quota = omega (arith, one_fewer, (fit.facts.domains d id.least id.most).within);
          covers =
              omega (
                arith,
                fit.facts.covers,
                coverage_now t d,
                coverage_changed (freed_changed again_held) (held_count t d),
                ap (λ (h : ℕ). coverage_with freeing.table d h) one_fewer,
              );
          limit =
              omega (
                arith,
                open_view v d,
                open_view freeing d,
                fewer if_open,
                ltb-true (open_count t d) (domain_at t d).limit (answered_yes v (call asking Erase d n) 11 e),
              );
        }

    pub again_is : opened_for d way.Erase n freeing ≡ opened_for d way.Erase n v
    again_is = reopened again_held way.Erase

    again_sequel : OwnSequel d v (opened_for d way.Erase n v)
    again_sequel =
        subst (OwnSequel d v) again_is
        (sequel_then (freed_sequel again_held fit.facts) (opens_sequel again_opens))

  pub erase_sequel : OwnSequel d v (effect v (call asking Erase d n)).drive
  unfolding effect
  erase_sequel =
      by_test (eqb n any_block)
      (λ same.
      let x = any_opens (eqb-true n any_block same) in
      rw (same, x.1) (opens_sequel x.2))
      (λ other. rw other
      (by_test (is_held t d n)
      (λ held. again_sequel other held)
      (λ not_held. opens_sequel (free_opens other not_held))))
