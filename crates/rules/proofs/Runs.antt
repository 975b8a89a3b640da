-- Each block goes from state to state only by the changes of a block's record, none of them but opening winds a countdown up
-- again, and a command leaves every other domain's record alone.
use Prim.Native.Nat.{ℕ, zero, suc, ◌≤◌, ◌<◌}
use mathlib.Core.Bool.{Bool, true, false, true≢false}
use mathlib.Core.List.{List, [], ◌∷◌, ◌++◌}
use mathlib.Core.Option.{Option, none, some}
use mathlib.Core.Path.{◌≡◌, refl, sym, ◌∙◌}
use native.Mathlib.Omega.{arith}
use lib.ListN.{drop, length, take}
use borrow.Author.Tests.{eq-eqb, eqb-true, lt-ltb}
use Rattle.geometry.proofs.Laws.Shape.{both, by_test, is_between}
use Rattle.geometry.specs.Address.{is_domain_id}
use Rattle.geometry.specs.Shape.{adus}
use Rattle.model.specs.Blocks.{Change, all_changes, changed, changed_by, counted_down, counted_from, closing, counting, freeing, opening, opens_newly, writing}
use Rattle.model.specs.declared.block.Block.{Block}
use Rattle.model.specs.declared.block.State.{State}
use Rattle.model.specs.declared.block.State.TheVariants as state
use Rattle.model.specs.declared.block.Way.{Way}
use Rattle.model.specs.declared.block.Way.TheVariants.{Placement}
use Rattle.model.specs.declared.command.Command.{Command}
use Rattle.model.specs.declared.command.Command.TheVariants.{ChangeCapacity, Close, Create, Delete, Erase, Free, List as Listing, Page, Pulse, Read}
use Rattle.model.specs.declared.command.Command.TheVariants.{WriteByBlock, WriteByPlacement}
use Rattle.model.specs.declared.table.Domain.{Domain}
use Rattle.model.specs.declared.table.Table.{Table}
use Rattle.rules.specs.Blocks.{chosen_block, erased_block, new_blocks, next_serial, opened_for, room, user_addresses, with_last, written_by_placement, written_first, written_into, written_next, written_onwards}
use Rattle.rules.specs.Calls.{Asked, Call, Lengths, ◌asking◌, ◌for◌, append, command, latest, own_domain}
use Rattle.rules.specs.Claims.{Gone, Reached}
use Rattle.rules.specs.Domains.{deleted_domain}
use Rattle.rules.specs.Drive.{Drive, block_at, capacity, domain_at, held_by, is_open, is_open_state, new_capacity, open_block, size, with_block, with_domain, with_each_block}
use Rattle.rules.specs.Effects.{accepted, effect, erasing, questions, step, verdict}
use Rattle.rules.specs.Recorder.{appended, freed_if_any}
use Rattle.rules.proofs.Domains.{deleted_clear, deleted_holds_nothing, deleted_others}
use Rattle.rules.proofs.Drive.{block_changed, block_changed_below, block_set, domain_other, domain_set}
use Rattle.rules.proofs.Effects.{accepted_drive}
use Rattle.rules.proofs.Questions.{answered_yes}
use Rattle.rules.proofs.Recorder.{by_room}

several : (xs ys : List Change) (b : Block) → changed_by (xs ++ ys) b ≡ changed_by ys (changed_by xs b)
unfolding changed_by
several [] ys b = refl
several (x ∷ xs) ys b = several xs ys (changed x b)

all_several : (p : Change → Bool) (xs ys : List Change) → all_changes p xs ≡ true → all_changes p ys ≡ true → all_changes p (xs ++ ys) ≡ true
unfolding all_changes
all_several p [] ys e f = f
all_several p (x ∷ xs) ys e f = let h = both (p x) (all_changes p xs) e in rw h.0 (all_several p xs ys h.1 f)

-- A command's own domain d, and its last serial and the period as the command begins.
module _ (d last period : ℕ) where
  abbrev Reaches : Block → Block → Type 0
  Reaches = Reached d last period

  stay : (b : Block) → Reaches b b
  unfolding all_changes changed_by
  stay b = ([], refl, refl)

  by_one : (x : Change) (b : Block) → opens_newly d last period x ≡ true → Reaches b (changed x b)
  unfolding all_changes changed_by
  by_one x b e = (x ∷ [], refl, rw e)

  -- A table in which each block was reached from what it was, and no record of a domain but d changed.
  pub record Follows (t u : Table) : Type 0 where
    pub reached : (m : ℕ) → Reaches (block_at t m) (block_at u m)
    pub others : (e : ℕ) → 0 < e → ¬ (d ≡ e) → domain_at u e ≡ domain_at t e

  same : (t : Table) → Follows t t
  same t = record { reached = λ m. stay (block_at t m); others = λ e p ne. refl }

  then : {t u w : Table} → Follows t u → Follows u w → Follows t w
  then {t} f g = record {
    reached = λ m.
        let a = f.reached m in
        let b = g.reached m in (
          a.0 ++ b.0,
          b.1 ∙ (rw a.1 (sym (several a.0 b.0 (block_at t m)))),
          all_several (opens_newly d last period) a.0 b.0 a.2 b.2,
        );
    others = λ e p ne. g.others e p ne ∙ f.others e p ne;
  }

  block : (t : Table) (n : ℕ) (x : Change) → opens_newly d last period x ≡ true → Follows t (with_block n (changed x (block_at t n)) t)
  block t n x new = record {
    reached = λ m.
        block_set (Reaches (block_at t m)) t n m (changed x (block_at t n)) (stay (block_at t m)) (λ e. rw e (by_one x (block_at t n) new));
    others = λ e p ne. refl;
  }

  domain : (t : Table) (r : Domain) → 0 < d → Follows t (with_domain d r t)
  domain t r p = record {
    reached = λ m. stay (block_at t m);
    others = λ e q ne. domain_other t d e r p q ne;
  }

  each_block : (t : Table) (change : Block → Block) → ((b : Block) → Reaches b (change b)) → Follows t (with_each_block change t)
  each_block t change h = record {
    reached = λ m. block_changed (Reaches (block_at t m)) change t m (stay (block_at t m)) (h (block_at t m));
    others = λ e p ne. refl;
  }

  -- ---- What each command does follows.

  -- A table on the way through a command: the serial has not fallen, and the period is the same.
  record OnTheWay (t : Table) : Type 0 where
    serial : last ≤ (domain_at t d).last
    seconds : t.config.period ≡ period

  opened_follows : (way : Way) (n : ℕ) (v : Drive) → 0 < d → OnTheWay v.table → Follows v.table (opened_for d way n v).table
  unfolding opened_for
  opened_follows way n v p o =
      let t = v.table in
      let new : opens_newly d last period (opening d way (next_serial t d) t.config.period) ≡ true =
      rw (eq-eqb d d refl, lt-ltb last (next_serial t d) (omega (arith, o.serial)), eq-eqb t.config.period period o.seconds) in
      then (block t n (opening d way (next_serial t d) t.config.period) new) (domain _ _ p)

  opened_on : (way : Way) (n : ℕ) (v : Drive) → OnTheWay v.table → OnTheWay (opened_for d way n v).table
  unfolding opened_for
  opened_on way n v o = record {
    serial =
        domain_set (λ r. last ≤ r.last) v.table d (with_last (next_serial v.table d) (domain_at v.table d))
        o.serial (omega (arith, o.serial));
    seconds = o.seconds;
  }

  written_follows : (n : ℕ) (users : List ℕ) (v : Drive) → Follows v.table (written_into d n users v).drive.table
  unfolding written_into
  written_follows n users v = block v.table n (writing (adus (length users)) (capacity v.table n)) refl

  written_on_way : (n : ℕ) (users : List ℕ) (v : Drive) → OnTheWay v.table → OnTheWay (written_into d n users v).drive.table
  unfolding written_into
  written_on_way n users v o = record { serial = o.serial; seconds = o.seconds }

  first_follows : (found : Option ℕ) (users : List ℕ) (v : Drive) → OnTheWay v.table
      → let t = (written_first d found users v).drive.table in Follows v.table t × OnTheWay t
  first_follows none users v o = (same v.table, o)
  first_follows (some n) users v o = (written_follows n users v, written_on_way n users v o)

  next_follows : (p : ℕ) (found : Option ℕ) (users : List ℕ) (v : Drive) → 0 < d → OnTheWay v.table
      → let t = (written_next d p found users v).drive.table in Follows v.table t × OnTheWay t
  next_follows p none users v q o = (same v.table, o)
  next_follows p (some n) users v q o =
      let opened = opened_for d (Placement p) n v in
      let on = opened_on (Placement p) n v o in
      (then (opened_follows (Placement p) n v q o) (written_follows n users opened), written_on_way n users opened on)

  onwards_follows : (p more : ℕ) (users : List ℕ) (v : Drive) → 0 < d → OnTheWay v.table
      → Follows v.table (written_onwards d p more users v).drive.table
  unfolding written_onwards
  onwards_follows p zero users v q o = same v.table
  onwards_follows p (suc more) users v q o =
      let per_block = (new_capacity v.table).0 in
      let next = written_next d p (chosen_block v.table) (take per_block users) v in
      let here = next_follows p (chosen_block v.table) (take per_block users) v q o in
      then here.0 (onwards_follows p more (drop per_block users) next.drive q here.1)

  placement_follows : (p : ℕ) (users : List ℕ) (v : Drive) → 0 < d → OnTheWay v.table
      → Follows v.table (written_by_placement d p users v).drive.table
  unfolding written_by_placement
  placement_follows p users v q o =
      let t = v.table in
      let first = written_first d (open_block t d p) (take (room t d p) users) v in
      let here = first_follows (open_block t d p) (take (room t d p) users) v o in
      then here.0 (onwards_follows p (new_blocks t d p (length users)) (drop (room t d p) users) first.drive q here.1)

  erasing_follows : (found : Option ℕ) (v : Drive) → 0 < d → OnTheWay v.table → Follows v.table (erasing d found v).drive.table
  erasing_follows none v p o = same v.table
  erasing_follows (some n) v p o = opened_follows _ n v p o

  deleted_follows : (t : Table) → 0 < d → Follows t (deleted_domain d t)
  unfolding deleted_domain
  deleted_follows t p =
      then
      (each_block t _ (λ b. by_test (held_by d b) (λ e. rw e (by_one freeing b refl)) (λ e. rw e (stay b))))
      (domain _ _ p)

-- An accepted command's own domain is a domain ID.
positive : (d : ℕ) → is_domain_id d ≡ true → 0 < d
positive d e = (is_between 1 16 d e).least

-- What a command leaves follows from its own domain's last serial and the period, as they are when it begins.
abbrev FollowsFrom : Asked → Table → Table → Type 0
FollowsFrom x t u = Follows (own_domain x) (domain_at t (own_domain x)).last t.config.period t u

begins : (t : Table) (d : ℕ) → OnTheWay d (domain_at t d).last t.config.period t
begins t d = record { serial = omega arith; seconds = refl }

effect_follows : (v : Drive) (call : Call) (c : Command) → verdict v (call asking c) ≡ 0 → FollowsFrom (command c) v.table (effect v (call asking c)).drive.table
unfolding questions effect
effect_follows v call (Create d guarantee quota placements limit) e =
    domain d _ _ v.table _ (positive d (answered_yes v (call asking Create d guarantee quota placements limit) 4 e))
effect_follows v call (ChangeCapacity d guarantee quota) e =
    domain d _ _ v.table _ (positive d (answered_yes v (call asking ChangeCapacity d guarantee quota) 4 e))
effect_follows v call (Delete d) e = deleted_follows d _ _ v.table (positive d (answered_yes v (call asking Delete d) 4 e))
effect_follows v call (Erase d n) e =
    erasing_follows d _ _ (erased_block v.table n) v (positive d (answered_yes v (call asking Erase d n) 4 e)) (begins v.table d)
effect_follows v call (Close d n) e = block d _ _ v.table n closing refl
effect_follows v call (Free d n) e = block d _ _ v.table n freeing refl
effect_follows v call (WriteByPlacement d p start count) e =
    placement_follows d _ _ p (user_addresses start count.0) v
    (positive d (answered_yes v (call asking WriteByPlacement d p start count) 4 e))
    (begins v.table d)
effect_follows v call (WriteByBlock d n start count) e = written_follows d _ _ n (user_addresses start count.0) v
effect_follows v call (Read d address count expected) e = same d _ _ v.table
effect_follows v call (Page d n) e = same d _ _ v.table
effect_follows v call (Listing d which) e = same d _ _ v.table
effect_follows v call (Pulse seconds) e = each_block 0 _ _ v.table _ (λ b. by_one 0 _ _ (counting seconds) b refl)

-- The recorder frees a block and writes, or writes alone.
room_follows : (v : Drive) (lent : Lengths) (d sample : ℕ) → 0 < d
    → Follows d (domain_at v.table d).last v.table.config.period v.table (appended d sample v lent).drive.table
room_follows v lent d sample low =
    by_room d sample v lent
    (λ w. Follows d (domain_at v.table d).last v.table.config.period v.table (written_by_placement d 0 (user_addresses sample 1) w).drive.table)
    (placement_follows d _ _ 0 (user_addresses sample 1) v low (begins v.table d))
    (λ n o.
    let freed = freed_if_any (some n) v in
    then d _ _ (block d _ _ v.table n freeing refl)
    (placement_follows d _ _ 0 (user_addresses sample 1) freed low (record { serial = omega arith; seconds = refl })))

follows_for : (v : Drive) (k : Call) (x : Asked) → verdict v (k for x) ≡ 0 → FollowsFrom x v.table (effect v (k for x)).drive.table
unfolding questions effect
follows_for v k (command c) e = effect_follows v k c e
follows_for v k (append d sample) e = room_follows v k.lent d sample (positive d (answered_yes v (k for append d sample) 4 e))
follows_for v k (latest d count) e = same d _ _ v.table

pub follows : (v : Drive) (k : Call) → FollowsFrom k.asks v.table (step k v).table
unfolding step
follows v k =
    by_test (accepted v k)
    (λ e. rw e (follows_for v k k.asks (eqb-true (verdict v k) 0 e)))
    (λ e. rw e (same (own_domain k.asks) _ _ v.table))

-- ---- What Pulse and Delete leave of the blocks

counted_others : (s : State) (seconds : ℕ) (b : Block) → is_open_state s ≡ false → counted_from s seconds b ≡ b
counted_others state.Free seconds b e = refl
counted_others (state.Closed way) seconds b e = refl
counted_others (state.Open way) seconds b e = absurd (true≢false e)

-- A pulse counts down the record of each open block and changes no other record.
pub pulse_open : (v : Drive) (call : Call) (seconds n : ℕ) → verdict v (call asking Pulse seconds) ≡ 0 → n < size v.table
    → block_at (step (call asking Pulse seconds) v).table n ≡ counted_down seconds (block_at v.table n)
unfolding effect counted_down
pulse_open v call seconds n e l =
    rw (accepted_drive v (call asking Pulse seconds) e) (block_changed_below (counted_down seconds) v.table n refl l)

pub pulse_others : (v : Drive) (call : Call) (seconds n : ℕ) → is_open (block_at v.table n) ≡ false
    → block_at (step (call asking Pulse seconds) v).table n ≡ block_at v.table n
unfolding effect counted_down step
pulse_others v call seconds n e =
    let b = block_at v.table n in
    by_test (accepted v (call asking Pulse seconds))
    (λ q. rw q (block_changed (λ x. x ≡ b) (counted_down seconds) v.table n refl (counted_others b.state seconds b e)))
    (λ q. rw q)

pub deleted_gone : (v : Drive) (call : Call) (d : ℕ) → verdict v (call asking Delete d) ≡ 0
    → Gone d v.table (step (call asking Delete d) v).table
unfolding effect questions
deleted_gone v call d e =
    let t = v.table in
    let p = positive d (answered_yes v (call asking Delete d) 4 e) in
    rw (accepted_drive v (call asking Delete d) e)
    (record {
      clear = deleted_clear t d;
      holds_nothing = λ n l. deleted_holds_nothing t d n p l;
      others = λ n other. deleted_others t d n other;
    })
