-- The same Create, Change Capacity, Delete or Pulse in two drives that the domain cannot tell apart.
use Prim.Native.Nat.{ℕ}
use mathlib.Core.Bool.{Bool, true, false, true≢false, not, ◌&&◌, cond}
use mathlib.Core.List.{List, [], ◌∷◌}
use mathlib.Core.Path.{◌≡◌, refl, sym, ap, ap₂, ◌∙◌}
use native.Mathlib.Omega.{arith}
use lib.Dec.{eqb, leb}
use borrow.Author.Tests.{eqb-true, le-leb, leb-false, leb-true}
use Rattle.geometry.proofs.Laws.Shape.{both, by_test}
use Rattle.geometry.specs.Address.{is_domain_id}
use Rattle.geometry.specs.Questions.{Question, ask, first_no}
use Rattle.geometry.specs.Shape.{between}
use Rattle.geometry.specs.declared.shape.Config.{Config}
use Rattle.geometry.specs.declared.shape.Planes.{Planes}
use Rattle.model.specs.declared.command.Command.TheVariants.{ChangeCapacity, Create, Delete, Pulse}
use Rattle.model.specs.declared.table.Domain.{Domain}
use Rattle.rules.specs.Calls.{Call, ◌asking◌}
use Rattle.rules.specs.Domains.{are_plane_counts, changed_domain, covered_with, created_domain, reserved_by}
use Rattle.rules.specs.Drive.{Drive, domain_at, held_count, size}
use Rattle.rules.specs.Effects.{effect, questions, step, verdict}
use Rattle.rules.specs.Noninterference.{stays_reserved}
use Rattle.rules.specs.Observation.{Holding}
use Rattle.rules.specs.Questions.{exists}
use Rattle.rules.specs.Soundness.{sound}
use Rattle.rules.proofs.Effects.{accepted_drive}
use Rattle.rules.proofs.Kept.Calls.{Course}
use Rattle.rules.proofs.Kept.Domains.{changed, created}
use Rattle.rules.proofs.Kept.Holdings.{aged}
use Rattle.rules.proofs.Kept.Sequel.{OwnSequel}
use Rattle.rules.proofs.Kept.Sweeps.{pulsed_domain, pulsed_sequel, pulsed_view}
use Rattle.rules.proofs.Kept.Views.{Alike, view}
use Rattle.rules.proofs.Noninterference.Common.{Pair, coverage_within, exists_same, first_same, held_same, sound_same}
use Rattle.rules.proofs.Noninterference.Twins.{Twin, ask_same}
use Rattle.rules.proofs.Questions.{answered_yes}
use Rattle.rules.proofs.Runs.{deleted_gone}

-- What Create and Change Capacity are asked, by the answers.
abbrev asked : Bool → Bool → Bool → Bool → Bool → List Question
asked b2 b4 b5 b6 b14 = ask 2 b2 ∷ ask 4 b4 ∷ ask 5 b5 ∷ ask 6 b6 ∷ ask 14 b14 ∷ []

-- The first no is the same if question 14, where it is reached, is answered alike and so are the others.
asked_same : (b2 b4 b5 b6 b14 c2 c5 c6 c14 : Bool) → b2 ≡ c2 → b5 ≡ c5 → b6 ≡ c6
    → (b2 ≡ true → b4 ≡ true → b5 ≡ true → b6 ≡ true → b14 ≡ c14)
    → first_no (asked b2 b4 b5 b6 b14) ≡ first_no (asked c2 b4 c5 c6 c14)
asked_same b2 b4 b5 b6 b14 c2 c5 c6 c14 same2 same5 same6 same14 =
    ask_same 2 b2 c2 _ _ same2 (λ e2.
    ask_same 4 b4 b4 _ _ refl (λ e4.
    ask_same 5 b5 c5 _ _ same5 (λ e5.
    ask_same 6 b6 c6 _ _ same6 (λ e6.
    ask_same 14 b14 c14 [] [] (same14 e2 e4 e5 e6) (λ e14. refl)))))

-- Where it is reached, question 14 decides.
last_decides : (b2 b4 b5 b6 b14 : Bool) → b2 ≡ true → b4 ≡ true → b5 ≡ true → b6 ≡ true
    → first_no (asked b2 b4 b5 b6 b14) ≡ cond b14 0 14
unfolding first_no
last_decides b2 b4 b5 b6 b14 e2 e4 e5 e6 = rw (e2, e4, e5, e6)

not_last : (b : Bool) → ¬ (◌≡◌ {A = ℕ} (cond b 0 14) 14) → b ≡ true
not_last true other = refl
not_last false other = absurd (other refl)

-- A Create that is not refused for coverage is covered.
create_covered : (a : ℕ) (v : Drive) (call : Call) (guarantee quota : Planes) (placements limit : ℕ)
    → ¬ (verdict v (call asking Create a guarantee quota placements limit) ≡ 14)
    → let t = v.table in
    sound t ≡ true
    → is_domain_id a ≡ true
    → not (exists t a) ≡ true
    → are_plane_counts t.config guarantee quota && between 1 16 placements && between 0 256 limit ≡ true
    → covered_with t a (created_domain t.config guarantee quota placements limit).reserved (held_count t a) ≡ true
unfolding questions
create_covered a v call guarantee quota placements limit other e2 e4 e5 e6 =
    not_last _ (λ no. other (last_decides _ _ _ _ _ e2 e4 e5 e6 ∙ no))

module _ (a : ℕ) (v : Drive) (call : Call) (course : Course v) (guarantee quota : Planes)
    (stays : stays_reserved a v (step (call asking ChangeCapacity a guarantee quota) v) ≡ true) where
  abbrev new : Domain
  new = changed_domain v.table a guarantee quota

  abbrev old : Domain
  old = domain_at v.table a

  -- An accepted Change Capacity of a domain that stays reserved keeps the guarantee.
  change_keeps : verdict v (call asking ChangeCapacity a guarantee quota) ≡ 0 → new.reserved ≡ old.reserved
  unfolding questions
  change_keeps e =
      let c = ChangeCapacity a guarantee quota in
      let there : old.exists ≡ true = answered_yes v (call asking c) 5 e in
      let after : domain_at (step (call asking c) v).table a ≡ new =
      ap (λ (u : Drive). domain_at u.table a) (accepted_drive v (call asking c) e)
      ∙ (changed v call course.facts course.shaped.domains a guarantee quota e).1 in
      let reserved = eqb new.reserved old.reserved in
      let first = (both (new.exists && reserved) (eqb new.quota old.quota) (rw (after, there) at stays)).0 in
      eqb-true new.reserved old.reserved (both new.exists reserved first).1

  -- So it is covered where the guarantee does not rise, and refused where it does.
  change_covered : let t = v.table in
      sound t ≡ true
      → is_domain_id a ≡ true
      → exists t a ≡ true
      → are_plane_counts t.config guarantee quota ≡ true
      → covered_with t a new.reserved (held_count t a) ≡ leb new.reserved old.reserved
  unfolding questions
  change_covered e2 e4 e5 e6 =
      let t = v.table in
      by_test (leb new.reserved old.reserved)
      (λ less. rw less
      (le-leb _ (size t)
      (omega (
        arith,
        course.facts.covers,
        coverage_within a new.reserved (held_count t a) (reserved_by t) (held_count t)
            (omega (arith, leb-true new.reserved old.reserved less)),
      ))))
      (λ more. rw more
      (by_test (covered_with t a new.reserved (held_count t a))
      (λ e14. absurd (omega (
        arith,
        leb-false new.reserved old.reserved more,
        change_keeps (last_decides _ _ _ _ _ e2 e4 e5 e6 ∙ (rw e14)),
      )))
      (λ e14. e14)))

-- No Delete of a domain that stays reserved is accepted.
delete_refused : (a : ℕ) (v : Drive) (call : Call) → stays_reserved a v (step (call asking Delete a) v) ≡ true
    → ¬ (verdict v (call asking Delete a) ≡ 0)
unfolding questions
delete_refused a v call stays e =
    let there : exists v.table a ≡ true = answered_yes v (call asking Delete a) 5 e in
    let gone = ap (λ (r : Domain). r.exists) (deleted_gone v call a e).clear in
    true≢false (sym stays ∙ (rw (there, gone)))

module _ {a : ℕ} {v w : Drive} (p : Pair a v w) (call : Call) where
  -- The domain's record is replaced by the same one in both.
  alike_replaced : (v' w' : Drive) (r s : Domain) → r ≡ s
      → OwnSequel a v v' × (domain_at v'.table a ≡ r) × ((q : Holding → ℕ) → view q a v' ≡ view q a v)
      → OwnSequel a w w' × (domain_at w'.table a ≡ s) × ((q : Holding → ℕ) → view q a w' ≡ view q a w)
      → Alike a v' w'
  alike_replaced v' w' r s same x y = record {
    config = x.0.sequel.config ∙ p.alike.config ∙ sym y.0.sequel.config;
    domain = x.1 ∙ same ∙ sym y.1;
    views = λ q. x.2 q ∙ p.alike.views q ∙ sym (y.2 q);
  }

  -- ---- Create

  create_verdicts : (guarantee quota : Planes) (placements limit : ℕ)
      → let c = Create a guarantee quota placements limit in
      ¬ (verdict v (call asking c) ≡ 14) → ¬ (verdict w (call asking c) ≡ 14) → verdict v (call asking c) ≡ verdict w (call asking c)
  unfolding questions
  create_verdicts guarantee quota placements limit left right =
      let missing = ap not (exists_same p) in
      let counts =
      ap (λ (c : Config). are_plane_counts c guarantee quota && between 1 16 placements && between 0 256 limit)
      p.alike.config in
      asked_same _ _ _ _ _ _ _ _ _ (sound_same p) missing counts (λ e2 e4 e5 e6.
      create_covered a v call guarantee quota placements limit left e2 e4 e5 e6
      ∙ sym (create_covered a w call guarantee quota placements limit right
      (sym (sound_same p) ∙ e2) e4 (sym missing ∙ e5) (sym counts ∙ e6)))

  create_after : (guarantee quota : Planes) (placements limit : ℕ)
      → let c = Create a guarantee quota placements limit in
      verdict v (call asking c) ≡ 0 → verdict w (call asking c) ≡ 0 → Alike a (effect v (call asking c)).drive (effect w (call asking c)).drive
  create_after guarantee quota placements limit e f =
      alike_replaced _ _ _ _ (ap (λ (c : Config). created_domain c guarantee quota placements limit) p.alike.config)
      (created v call p.left.facts p.left.shaped.domains a guarantee quota placements limit e)
      (created w call p.right.facts p.right.shaped.domains a guarantee quota placements limit f)

  pub create_twin : (guarantee quota : Planes) (placements limit : ℕ)
      → let c = Create a guarantee quota placements limit in
      ¬ (verdict v (call asking c) ≡ 14) → ¬ (verdict w (call asking c) ≡ 14) → Twin a v w (call asking c) (call asking c)
  unfolding effect
  create_twin guarantee quota placements limit left right = record {
    reading = refl;
    verdicts = create_verdicts guarantee quota placements limit left right;
    after = create_after guarantee quota placements limit;
    telling = λ e f. refl;
  }

  -- ---- Change Capacity

  changed_same : (guarantee quota : Planes)
      → changed_domain v.table a guarantee quota ≡ changed_domain w.table a guarantee quota
  unfolding changed_domain
  changed_same guarantee quota = rw (held_same p, p.alike.config, p.alike.domain)

  change_verdicts : (guarantee quota : Planes)
      → let c = ChangeCapacity a guarantee quota in
      stays_reserved a v (step (call asking c) v) ≡ true → stays_reserved a w (step (call asking c) w) ≡ true
      → verdict v (call asking c) ≡ verdict w (call asking c)
  unfolding questions
  change_verdicts guarantee quota left right =
      let there = exists_same p in
      let counts = ap (λ (c : Config). are_plane_counts c guarantee quota) p.alike.config in
      let rises = ap₂ (λ (r s : Domain). leb r.reserved s.reserved) (changed_same guarantee quota) p.alike.domain in
      asked_same _ _ _ _ _ _ _ _ _ (sound_same p) there counts (λ e2 e4 e5 e6.
      change_covered a v call p.left guarantee quota left e2 e4 e5 e6
      ∙ rises
      ∙ sym (change_covered a w call p.right guarantee quota right
      (sym (sound_same p) ∙ e2) e4 (sym there ∙ e5) (sym counts ∙ e6)))

  change_after : (guarantee quota : Planes)
      → let c = ChangeCapacity a guarantee quota in
      verdict v (call asking c) ≡ 0 → verdict w (call asking c) ≡ 0 → Alike a (effect v (call asking c)).drive (effect w (call asking c)).drive
  change_after guarantee quota e f =
      alike_replaced _ _ _ _ (changed_same guarantee quota)
      (changed v call p.left.facts p.left.shaped.domains a guarantee quota e)
      (changed w call p.right.facts p.right.shaped.domains a guarantee quota f)

  pub change_twin : (guarantee quota : Planes)
      → let c = ChangeCapacity a guarantee quota in
      stays_reserved a v (step (call asking c) v) ≡ true → stays_reserved a w (step (call asking c) w) ≡ true → Twin a v w (call asking c) (call asking c)
  unfolding effect
  change_twin guarantee quota left right = record {
    reading = refl;
    verdicts = change_verdicts guarantee quota left right;
    after = change_after guarantee quota;
    telling = λ e f. refl;
  }

  -- ---- Delete

  delete_verdicts : verdict v (call asking Delete a) ≡ verdict w (call asking Delete a)
  delete_verdicts = first_same p call (Delete a) (Delete a) refl refl refl (λ e5. refl)

  pub delete_twin : stays_reserved a v (step (call asking Delete a) v) ≡ true → Twin a v w (call asking Delete a) (call asking Delete a)
  delete_twin left = record {
    reading = refl;
    verdicts = delete_verdicts;
    after = λ e f. absurd (delete_refused a v call left e);
    telling = λ e f. absurd (delete_refused a v call left e);
  }

-- ---- Pulse, whatever is lent with it

module _ {a : ℕ} {v w : Drive} (p : Pair a v w) (call other : Call) (seconds : ℕ) where
  pulse_verdicts : verdict v (call asking Pulse seconds) ≡ verdict w (other asking Pulse seconds)
  unfolding questions
  pulse_verdicts = ask_same 2 (sound v.table) (sound w.table) _ _ (sound_same p) (λ e2. refl)

  pulse_after : Alike a (effect v (call asking Pulse seconds)).drive (effect w (other asking Pulse seconds)).drive
  pulse_after =
      let whole = p.left.shaped.domains in
      let whole' = p.right.shaped.domains in
      record {
        config =
            (pulsed_sequel v call p.left.facts whole seconds).config
            ∙ p.alike.config
            ∙ sym (pulsed_sequel w other p.right.facts whole' seconds).config;
        domain =
            pulsed_domain v call p.left.facts whole seconds a
            ∙ p.alike.domain
            ∙ sym (pulsed_domain w other p.right.facts whole' seconds a);
        views = λ q.
            pulsed_view v call p.left.facts whole seconds a q
            ∙ p.alike.views (λ h. q (aged seconds h))
            ∙ sym (pulsed_view w other p.right.facts whole' seconds a q);
      }

  pub pulse_twin : Twin a v w (call asking Pulse seconds) (other asking Pulse seconds)
  unfolding effect
  pulse_twin = record {
    reading = refl;
    verdicts = pulse_verdicts;
    after = λ e f. pulse_after;
    telling = λ e f. refl;
  }
