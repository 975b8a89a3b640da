-- Write by placement as a whole: into the open block, if there is one, and onwards.
use Prim.Native.Nat.{ℕ, ◌+◌, ◌-◌, ◌/◌, ◌≤◌, ◌<◌}
use mathlib.Core.Bool.{Bool, true, false, true≢false, cond}
use mathlib.Core.List.{List, ◌++◌}
use mathlib.Core.Option.{Option, none, some}
use mathlib.Core.Path.{◌≡◌, refl, sym, ap, ◌∙◌, subst}
use native.Mathlib.Nat.{sub-zero}
use native.Mathlib.Omega.{arith}
use lib.ListN.{drop, get_or, length, length-append, length-drop, length-take, take}
use borrow.Author.Tests.{ltb-true}
use Rattle.geometry.proofs.Laws.Shape.{limits}
use Rattle.geometry.specs.Shape.{adus_per_block}
use Rattle.geometry.specs.declared.shape.Config.{Config}
use Rattle.model.specs.declared.block.Block.{Block}
use Rattle.model.specs.declared.block.State.{State}
use Rattle.model.specs.declared.block.State.TheVariants.{Closed, Free, Open}
use Rattle.model.specs.declared.table.Domain.{Domain}
use Rattle.model.specs.declared.table.Table.{Table}
use Rattle.rules.specs.Blocks.{Written, new_blocks, room_in, written_by_placement, written_first, written_into, written_onwards}
use Rattle.rules.specs.Drive.{Drive, block_at, clear_domain, domain_at, held_by, held_count, is_open, is_open_for, is_open_state, is_placed_state, open_block, size}
use Rattle.rules.specs.Observation.{Holding, holding_at}
use Rattle.rules.specs.Questions.{may_open_for}
use Rattle.rules.proofs.Effects.{written_length}
use Rattle.rules.proofs.Kept.Changes.{Writable, written_changed, written_domains, written_held, written_ready, written_record, written_sequel}
use Rattle.rules.proofs.Kept.Facts.{Facts, StateFacts, coverage_with}
use Rattle.rules.proofs.Kept.OneBlock.{coverage_changed}
use Rattle.rules.proofs.Kept.Onwards.{Onward, OpenTo, Takes, full_closed, no_weight, none_placed, onward_all, onward_sequel, open_to, takes, takes_some}
use Rattle.rules.proofs.Kept.Sequel.{OwnSequel, sequel_then}
use Rattle.rules.proofs.Kept.Views.{held_view, if_open, if_placed, one, open_view, view, view_changed}
use Rattle.rules.proofs.Writes.{Ready}

-- What an accepted Write by placement was asked.
pub record Asked (d p : ℕ) (users : List ℕ) (v : Drive) : Type 0 where
  pub low : 1 ≤ d
  pub high : d ≤ 16
  pub facts : Facts v
  pub ready : Ready v.table.config v
  pub domains : length v.table.domains ≡ 16
  pub exists : (domain_at v.table d).exists ≡ true
  pub placement : p < (domain_at v.table d).placements
  pub may_open_lem : may_open_for (open_block v.table d p) v.table d ≡ true
  pub quota : held_count v.table d + new_blocks v.table d p (length users) ≤ (domain_at v.table d).quota
  pub covers : coverage_with v.table d (held_count v.table d + new_blocks v.table d p (length users)) ≤ size v.table

-- How many blocks are opened where the placement's open block is found or none is.
abbrev pub new_for : Table → Option ℕ → ℕ → ℕ
new_for t found count = (count - room_in t found + ((adus_per_block t.config).0 - 1)) / (adus_per_block t.config).0

new_for_lem : (t : Table) (d p count : ℕ) (found : Option ℕ) → open_block t d p ≡ found → new_blocks t d p count ≡ new_for t found count
unfolding new_blocks
new_for_lem t d p count found e = rw e

abbrev pub first_of : ℕ → Option ℕ → List ℕ → Drive → Written
first_of d found users v = written_first d found (take (room_in v.table found) users) v

abbrev pub rest_of : ℕ → ℕ → Option ℕ → List ℕ → Drive → Written
rest_of d p found users v =
    written_onwards d p (new_for v.table found (length users)) (drop (room_in v.table found) users) (first_of d found users v).drive

pub placement_is : (d p : ℕ) (users : List ℕ) (v : Drive) (found : Option ℕ) → open_block v.table d p ≡ found
    → written_by_placement d p users v
    ≡ record {
      drive = (rest_of d p found users v).drive;
      addresses = (first_of d found users v).addresses ++ (rest_of d p found users v).addresses;
    }
unfolding written_by_placement new_blocks
placement_is d p users v found e = rw e

-- The open block has room, and is held by the domain.
pub open_written : (t : Table) (s : State) (b : Block) (p : ℕ) → is_placed_state p s ≡ true → StateFacts t s b
    → b.written.0 < (adus_per_block t.config).0
open_written t Free b p e f = absurd (true≢false (sym e))
open_written t (Open way) b p e f = f.written
open_written t (Closed way) b p e f = absurd (true≢false (sym e))

placed_open : (s : State) (p : ℕ) → is_placed_state p s ≡ true → is_open_state s ≡ true
placed_open Free p e = absurd (true≢false (sym e))
placed_open (Open way) p e = refl
placed_open (Closed way) p e = absurd (true≢false (sym e))

weighs : {b : Bool} → b ≡ true → ◌≡◌ {A = ℕ} (cond b 1 0) 1
weighs e = rw e

module _ {d p : ℕ} {users : List ℕ} {v : Drive} (a : Asked d p users v) where
  abbrev shape : Config
  shape = v.table.config

  abbrev most : ℕ
  most = (adus_per_block shape).0

  some_adus : 0 < most
  some_adus = omega (arith, (limits shape a.facts.limits).adus.least)

  -- Nothing is open for the placement.
  module _ (e : open_block v.table d p ≡ none) where
    pub none_onward : Onward d p (new_for v.table none (length users)) users v
    none_onward = record {
      low = a.low;
      high = a.high;
      facts = a.facts;
      ready = a.ready;
      domains = a.domains;
      exists = a.exists;
      placement = a.placement;
      none_open = λ more. none_placed v d p (subst (OpenTo v d p (size v.table)) e (open_to v d p (size v.table)));
      may_open_lem = λ more. ltb-true _ _ (subst (λ (x : Option ℕ). may_open_for x v.table d ≡ true) e a.may_open_lem);
      quota = subst (λ (k : ℕ). held_count v.table d + k ≤ (domain_at v.table d).quota) (new_for_lem v.table d p (length users) none e) a.quota;
      covers = subst (λ (k : ℕ). coverage_with v.table d (held_count v.table d + k) ≤ size v.table) (new_for_lem v.table d p (length users) none e) a.covers;
      count = subst (λ (n : ℕ). Takes most ((n + (most - 1)) / most) (length users)) (sym (sub-zero (length users))) (takes most (length users) some_adus);
    }

  -- Block n is.
  module _ (n : ℕ) (e : open_block v.table d p ≡ some n) where
    abbrev these : List ℕ
    these = take (room_in v.table (some n)) users

    abbrev first : Drive
    first = (written_into d n these v).drive

    pub is_open_lem : (n < size v.table) × (held_by d (block_at v.table n) ≡ true) × (is_open_for p (block_at v.table n) ≡ true)
    is_open_lem = subst (OpenTo v d p (size v.table)) e (open_to v d p (size v.table))

    pub has_room : (block_at v.table n).written.0 < most
    has_room = open_written v.table (block_at v.table n).state (block_at v.table n) p is_open_lem.2 (a.facts.blocks n is_open_lem.0)

    -- It may be written into.
    pub first_writable : Writable d n these v
    first_writable = record {
      low = a.low;
      ready = a.ready;
      inside = is_open_lem.0;
      held = is_open_lem.1;
      fits = rw length-take (omega (arith, has_room));
    }

    first_sequel : OwnSequel d v first
    first_sequel = written_sequel first_writable a.facts

    -- What it changes in a view of the domain.
    first_view : (q : Holding → ℕ) → view q d first + q (holding_at v n) ≡ view q d v + q (holding_at first n)
    first_view q = let h = view_changed (written_changed first_writable) q d in rw (is_open_lem.1, written_held first_writable) at h

    same_held : held_count first.table d ≡ held_count v.table d
    same_held = omega (arith, held_view v d, held_view first d, first_view one)

    first_domain : domain_at first.table d ≡ domain_at v.table d
    first_domain =
        ap (λ (rs : List Domain). get_or rs (d - 1) clear_domain) (written_domains first_writable)

    first_ready : Ready first.table.config first
    first_ready =
        let r = written_ready first_writable in
        subst (λ (x : Config). Ready x first) (sym r.shape) r

    -- Where more is to come the block is full.
    full : room_in v.table (some n) < length users
        → (is_open (block_at first.table n) ≡ false) × (is_open_for p (block_at first.table n) ≡ false)
    full more =
        rw (written_record first_writable)
        (full_closed (length these) most (block_at v.table n) p (rw length-take (omega (arith, more, has_room))))

    more_to_come : 1 ≤ new_for v.table (some n) (length users) → room_in v.table (some n) < length users
    more_to_come more =
        let left : ℕ = length users - room_in v.table (some n) in
        omega (arith, takes_some most ((left + (most - 1)) / most) left more (takes most left some_adus))

    pub some_onward : Onward d p (new_for v.table (some n) (length users)) (drop (room_in v.table (some n)) users) first
    some_onward = record {
      low = a.low;
      high = a.high;
      facts = first_sequel.sequel.facts;
      ready = first_ready;
      domains = first_sequel.sequel.domains ∙ a.domains;
      exists = rw first_domain a.exists;
      placement = rw first_domain a.placement;
      none_open = λ more.
          omega (
            arith,
            first_view (if_placed p),
            a.facts.single d p a.low,
            weighs is_open_lem.2,
            no_weight (full (more_to_come more)).1,
          );
      may_open_lem = λ more.
          rw first_domain
          (omega (
            arith,
            open_view v d,
            open_view first d,
            first_view if_open,
            ((a.facts.domains d a.low a.high).existing a.exists).within,
            weighs (placed_open (block_at v.table n).state p is_open_lem.2),
            no_weight (full (more_to_come more)).0,
          ));
      quota =
          rw (first_domain, same_held)
          (subst (λ (k : ℕ). held_count v.table d + k ≤ (domain_at v.table d).quota) (new_for_lem v.table d p (length users) (some n) e) a.quota);
      covers =
          omega (
            arith,
            subst (λ (k : ℕ). coverage_with v.table d (held_count v.table d + k) ≤ size v.table)
                (new_for_lem v.table d p (length users) (some n) e) a.covers,
            ap (λ (x : Config). x.blocks) first_sequel.sequel.config,
            ap (λ (h : ℕ). coverage_with first.table d (h + new_for v.table (some n) (length users))) same_held,
            coverage_changed (written_changed first_writable) (held_count v.table d + new_for v.table (some n) (length users)),
          );
      count =
          subst (λ (x : Config). Takes (adus_per_block x).0 (new_for v.table (some n) (length users)) (length (drop (room_in v.table (some n)) users)))
          (sym first_sequel.sequel.config)
          (rw length-drop (takes most (length users - room_in v.table (some n)) some_adus));
    }

  -- The whole write.
  by_found : (found : Option ℕ) → open_block v.table d p ≡ found → OwnSequel d v (rest_of d p found users v).drive
  by_found none e = onward_sequel d p _ users v (none_onward e)
  by_found (some n) e = sequel_then (first_sequel n e) (onward_sequel d p _ _ _ (some_onward n e))

  pub placement_sequel : OwnSequel d v (written_by_placement d p users v).drive
  placement_sequel =
      subst (λ (w : Written). OwnSequel d v w.drive) (sym (placement_is d p users v (open_block v.table d p) refl))
      (by_found (open_block v.table d p) refl)

  -- Every user address gets its flash address, and question 13's new blocks are held.
  all_found : (found : Option ℕ) → open_block v.table d p ≡ found
      → (length ((first_of d found users v).addresses ++ (rest_of d p found users v).addresses) ≡ length users)
      × (held_count (rest_of d p found users v).drive.table d ≡ held_count v.table d + new_for v.table found (length users))
  all_found none e = onward_all d p (new_for v.table none (length users)) users v (none_onward e)
  all_found (some n) e =
      let room : ℕ = room_in v.table (some n) in
      let rest = onward_all d p (new_for v.table (some n) (length users)) (drop room users) (first n e) (some_onward n e) in (
        rw length-append
            (omega (
              arith,
              written_length d n (take room users) v,
              rest.0,
              length-take room users,
              length-drop room users,
            )),
        omega (arith, rest.1, same_held n e),
      )

  pub placement_all : (length (written_by_placement d p users v).addresses ≡ length users)
      × (held_count (written_by_placement d p users v).drive.table d ≡ held_count v.table d + new_blocks v.table d p (length users))
  placement_all =
      let found = open_block v.table d p in
      subst (λ (w : Written). (length w.addresses ≡ length users) × (held_count w.drive.table d ≡ held_count v.table d + new_blocks v.table d p (length users)))
      (sym (placement_is d p users v found refl))
      (subst (λ (k : ℕ). (length ((first_of d found users v).addresses ++ (rest_of d p found users v).addresses) ≡ length users)
      × (held_count (rest_of d p found users v).drive.table d ≡ held_count v.table d + k))
      (sym (new_for_lem v.table d p (length users) found refl))
      (all_found found refl))
