-- The countdown: an open block has T less the seconds of the accepted pulses since it was opened.
use Prim.Native.Nat.{ℕ, zero, suc, ◌+◌, ◌<◌, min}
use mathlib.Core.Bool.{true, false, true≢false, cond}
use mathlib.Core.List.{List, [], ◌∷◌}
use mathlib.Core.Option.{Option, none, some}
use mathlib.Core.Path.{◌≡◌, refl, sym, ap, ◌∙◌, subst}
use native.Mathlib.Omega.{arith}
use lib.Dec.{eqb, leb, ltb}
use lib.ListN.{drop, length, take}
use borrow.Author.Tests.{eqb-true, le-leb, leb-false, leb-true, lt-leb, ltb-false, ltb-true}
use Rattle.geometry.proofs.Laws.Shape.{both, by_test}
use Rattle.geometry.specs.Shape.{within_limits}
use Rattle.geometry.specs.declared.shape.Adus.{Adus}
use Rattle.geometry.specs.declared.shape.Config.{Config}
use Rattle.model.specs.Blocks.{closed, closed_from, counted_down, counted_from, freed, one_more_erase, opened, written_from, written_on}
use Rattle.model.specs.declared.block.Block.{Block}
use Rattle.model.specs.declared.block.State.{State}
use Rattle.model.specs.declared.block.State.TheVariants as state
use Rattle.model.specs.declared.block.Way.{Way}
use Rattle.model.specs.declared.block.Way.TheVariants.{Placement}
use Rattle.model.specs.declared.command.Command.{Command}
use Rattle.model.specs.declared.command.Command.TheVariants.{ChangeCapacity, Close, Create, Delete, Erase, Free, List as Listing, Page, Pulse, Read}
use Rattle.model.specs.declared.command.Command.TheVariants.{WriteByBlock, WriteByPlacement}
use Rattle.model.specs.declared.table.Table.{Table}
use Rattle.rules.specs.Blocks.{any_block, chosen_block, erased_block, new_blocks, opened_for, pulsed, room, user_addresses, written_by_placement, written_first, written_into, written_next, written_onwards}
use Rattle.rules.specs.Calls.{Asked, Call, Lengths, ◌asking◌, ◌for◌, append, command, latest, profile, profile_of}
use Rattle.rules.specs.Countdown.{closes_by_pulse, elapsed, elapsed_from, pulse_of}
use Rattle.rules.specs.Counting.{implies}
use Rattle.rules.specs.Domains.{deleted_domain, freed_if_held}
use Rattle.rules.specs.Drive.{Drive, block_at, held_by, is_closed, is_closed_state, is_free, is_free_state, is_open, is_open_state, new_capacity, open_block, size, with_block}
use Rattle.rules.specs.Effects.{accepted, effect, erasing, questions, step, verdict}
use Rattle.rules.specs.Questions.{is_erased_again, is_held, may_erase}
use Rattle.rules.specs.Recorder.{appended, freed_if_any}
use Rattle.rules.specs.Runs.{begun, reference, run}
use Rattle.rules.specs.Start.{Started}
use Rattle.rules.proofs.Blocks.{Choice, choice}
use Rattle.rules.proofs.Counting.{clash}
use Rattle.rules.proofs.Drive.{block_changed, block_changed_below, block_set}
use Rattle.rules.proofs.Questions.{answered_yes}
use Rattle.rules.proofs.Recorder.{by_room}
use Rattle.rules.proofs.Runs.{pulse_open}
use Rattle.rules.proofs.Start.{clear_block_lem, start_accepted}

-- ---- States

-- Open, Free and Closed shut each other out, and there is no fourth.
open_taken : (s : State) → is_open_state s ≡ true → is_free_state s ≡ false
open_taken state.Free e = absurd (true≢false (sym e))
open_taken (state.Open way) e = refl
open_taken (state.Closed way) e = refl

free_not_open : (s : State) → is_free_state s ≡ true → is_open_state s ≡ false
free_not_open state.Free e = refl
free_not_open (state.Open way) e = absurd (true≢false (sym e))
free_not_open (state.Closed way) e = refl

closed_not_open : (s : State) → is_closed_state s ≡ true → is_open_state s ≡ false
closed_not_open state.Free e = refl
closed_not_open (state.Open way) e = absurd (true≢false (sym e))
closed_not_open (state.Closed way) e = refl

closed_not_free : (s : State) → is_closed_state s ≡ true → is_free_state s ≡ false
closed_not_free state.Free e = absurd (true≢false (sym e))
closed_not_free (state.Open way) e = refl
closed_not_free (state.Closed way) e = refl

open_not_closed : (s : State) → is_open_state s ≡ true → is_closed_state s ≡ false
open_not_closed state.Free e = refl
open_not_closed (state.Open way) e = refl
open_not_closed (state.Closed way) e = absurd (true≢false (sym e))

free_not_closed : (s : State) → is_free_state s ≡ true → is_closed_state s ≡ false
free_not_closed state.Free e = refl
free_not_closed (state.Open way) e = refl
free_not_closed (state.Closed way) e = absurd (true≢false (sym e))

else_closed : (s : State) → is_free_state s ≡ false → is_open_state s ≡ false → is_closed_state s ≡ true
else_closed state.Free e f = absurd (true≢false e)
else_closed (state.Open way) e f = absurd (true≢false f)
else_closed (state.Closed way) e f = refl

-- ---- What a call makes of a block's record

-- The second record is open: if the first was too, it has the same serial, holder and P/E count and so many seconds less; else it has T,
-- and one more erase.
record Moves (period seconds : ℕ) (b c : Block) : Type 0 where
  kept : is_open b ≡ true → is_open c ≡ true → (c.left + seconds ≡ b.left) × (c.serial ≡ b.serial) × (c.holder ≡ b.holder)
  kept_erases : is_open b ≡ true → is_open c ≡ true → c.erases ≡ b.erases
  fresh : is_open b ≡ false → is_open c ≡ true → c.left ≡ period
  erased : is_open b ≡ false → is_open c ≡ true → c.erases ≡ one_more_erase b.erases

-- A block that was closed is not open.
closed_ended : (s : State) (b : Block) → b.state ≡ s → is_open (closed_from s b) ≡ false
closed_ended state.Free b e = rw e
closed_ended (state.Open way) b e = refl
closed_ended (state.Closed way) b e = rw e

module _ (period : ℕ) where
  -- What is as it was.
  unmoved : (b : Block) → Moves period 0 b b
  unmoved b = record {
    kept = λ e f. (omega arith, refl, refl);
    kept_erases = λ e f. refl;
    fresh = λ e f. clash (is_open b) f e;
    erased = λ e f. clash (is_open b) f e;
  }

  -- What is not open afterwards.
  ended : (seconds : ℕ) (b c : Block) → is_open c ≡ false → Moves period seconds b c
  ended seconds b c e = record {
    kept = λ f g. clash (is_open c) g e;
    kept_erases = λ f g. clash (is_open c) g e;
    fresh = λ f g. clash (is_open c) g e;
    erased = λ f g. clash (is_open c) g e;
  }

  -- Closed, counted down, written on and opened.
  closed_moves : (seconds : ℕ) (b : Block) → Moves period seconds b (closed b)
  unfolding closed
  closed_moves seconds b = ended seconds b (closed b) (closed_ended b.state b refl)

  counted_moves : (s : State) (seconds : ℕ) (b : Block) → b.state ≡ s → Moves period seconds b (counted_from s seconds b)
  counted_moves state.Free seconds b same = ended seconds b b (rw same)
  counted_moves (state.Closed way) seconds b same = ended seconds b b (rw same)
  counted_moves (state.Open way) seconds b same =
      by_test (ltb seconds b.left)
      (λ e. rw e (record {
        kept = λ f g. (omega (arith, ltb-true seconds b.left e), refl, refl);
        kept_erases = λ f g. refl;
        fresh = λ f g. clash (is_open b) (rw same) f;
        erased = λ f g. clash (is_open b) (rw same) f;
      }))
      (λ e. rw e (closed_moves seconds b))

  written_moves : (s : State) (count capacity : Adus) (b : Block) → b.state ≡ s
      → Moves period 0 b (written_from s count capacity b)
  unfolding closed
  written_moves state.Free count capacity b same = unmoved b
  written_moves (state.Closed way) count capacity b same = unmoved b
  written_moves (state.Open way) count capacity b same =
      by_test (ltb (min (b.written.0 + count.0) capacity.0) capacity.0)
      (λ e. rw e (record {
        kept = λ f g. (omega arith, refl, refl);
        kept_erases = λ f g. refl;
        fresh = λ f g. clash (is_open b) g f;
        erased = λ f g. clash (is_open b) g f;
      }))
      (λ e. rw e (ended 0 b _ (rw same)))

  opened_moves : (d : ℕ) (way : Way) (serial : ℕ) (b : Block) → is_open b ≡ false → Moves period 0 b (opened d way serial period b)
  opened_moves d way serial b e = record {
    kept = λ f g. clash (is_open b) f e;
    kept_erases = λ f g. clash (is_open b) f e;
    fresh = λ f g. refl;
    erased = λ f g. refl;
  }

  -- ---- Within one write

  -- In one write a block that was open becomes Closed at most, and a Closed one stays: none is opened a second time. One that is Free
  -- has not been erased.
  record Writes (b c : Block) : Type 0 where
    moves : Moves period 0 b c
    taken : is_open b ≡ true → is_free c ≡ false
    shut : is_closed b ≡ true → is_closed c ≡ true
    idle : is_free c ≡ true → c.erases ≡ b.erases

  -- What is as it was.
  unwritten : (b : Block) → Writes b b
  unwritten b = record { moves = unmoved b; taken = open_taken b.state; shut = λ e. e; idle = λ e. refl }

  -- So a block that was open and is not has been closed for the whole write.
  not_open_again : (b c d : Block) → Writes b c → Writes c d → is_open b ≡ true → is_open c ≡ false → is_open d ≡ false
  not_open_again b c d f g e q = closed_not_open d.state (g.shut (else_closed c.state (f.taken e) q))

  -- One that is Free, or is opened by the second, was Free between them.
  free_between : (b c d : Block) → Writes b c → Writes c d → is_closed d ≡ false → is_open c ≡ false → is_free c ≡ true
  free_between b c d f g e q =
      by_test (is_free c) (λ x. x) (λ x. clash (is_closed d) (g.shut (else_closed c.state x q)) e)

  -- One after the other.
  writes_then : {b c d : Block} → Writes b c → Writes c d → Writes b d
  writes_then {b} {c} {d} f g = record {
    moves = record {
      kept = λ e h. by_test (is_open c)
          (λ q. let x = f.moves.kept e q in
          let y = g.moves.kept q h in
          (omega (arith, x.0, y.0), y.1 ∙ x.1, y.2 ∙ x.2))
          (λ q. clash (is_open d) h (not_open_again b c d f g e q));
      kept_erases = λ e h. by_test (is_open c)
          (λ q. g.moves.kept_erases q h ∙ f.moves.kept_erases e q)
          (λ q. clash (is_open d) h (not_open_again b c d f g e q));
      fresh = λ e h. by_test (is_open c)
          (λ q. omega (arith, f.moves.fresh e q, (g.moves.kept q h).0))
          (λ q. g.moves.fresh q h);
      erased = λ e h. by_test (is_open c)
          (λ q. g.moves.kept_erases q h ∙ f.moves.erased e q)
          (λ q. g.moves.erased q h
          ∙ ap (λ (n : ℕ). one_more_erase n) (f.idle (free_between b c d f g (open_not_closed d.state h) q)));
    };
    taken = λ e. by_test (is_open c)
        (λ q. g.taken q)
        (λ q. closed_not_free d.state (g.shut (else_closed c.state (f.taken e) q)));
    shut = λ e. g.shut (f.shut e);
    idle = λ e. by_test (is_open c)
        (λ q. clash (is_free d) e (g.taken q))
        (λ q. g.idle e ∙ f.idle (free_between b c d f g (free_not_closed d.state e) q));
  }

  -- Written on, and opened if Free.
  written_writes : (s : State) (count capacity : Adus) (b : Block) → b.state ≡ s → Writes b (written_from s count capacity b)
  unfolding closed
  written_writes state.Free count capacity b same = unwritten b
  written_writes (state.Closed way) count capacity b same = unwritten b
  written_writes (state.Open way) count capacity b same = record {
    moves = written_moves (state.Open way) count capacity b same;
    taken = λ f. by_test (ltb (min (b.written.0 + count.0) capacity.0) capacity.0)
        (λ e. rw (e, same))
        (λ e. rw (e, same));
    shut = λ f. clash (is_closed b) f (rw same);
    idle = λ f. clash (is_free (written_from (state.Open way) count capacity b)) f
        (by_test (ltb (min (b.written.0 + count.0) capacity.0) capacity.0) (λ e. rw (e, same)) (λ e. rw (e, same)));
  }

  opened_writes : (d : ℕ) (way : Way) (serial : ℕ) (b : Block) → is_free b ≡ true → Writes b (opened d way serial period b)
  opened_writes d way serial b free = record {
    moves = opened_moves d way serial b (free_not_open b.state free);
    taken = λ e. refl;
    shut = λ e. clash (is_free b) free (closed_not_free b.state e);
    idle = λ e. absurd (true≢false (sym e));
  }

-- What a write, or a part of it, makes of a table.
record Along (t u : Table) : Type 0 where
  config : u.config ≡ t.config
  each : (m : ℕ) → Writes t.config.period (block_at t m) (block_at u m)

along : (t : Table) → Along t t
along t = record { config = refl; each = λ m. unwritten t.config.period (block_at t m) }

along_then : {t u w : Table} → Along t u → Along u w → Along t w
along_then {t} {u} {w} f g = record {
  config = g.config ∙ f.config;
  each = λ m. writes_then t.config.period (f.each m)
      (subst (λ (c : Config). Writes c.period (block_at u m) (block_at w m)) f.config (g.each m));
}

into_along : (d n : ℕ) (users : List ℕ) (v : Drive) → Along v.table (written_into d n users v).drive.table
unfolding written_into written_on
into_along d n users v =
    let t = v.table in
    let b = block_at t n in
    record {
      config = refl;
      each = λ m. block_set (Writes t.config.period (block_at t m)) t n m _ (unwritten t.config.period (block_at t m))
          (λ e. rw e (written_writes t.config.period b.state _ _ b refl));
    }

opened_along : (d : ℕ) (way : Way) (n : ℕ) (v : Drive) → is_free (block_at v.table n) ≡ true
    → Along v.table (opened_for d way n v).table
unfolding opened_for
opened_along d way n v free =
    let t = v.table in
    record {
      config = refl;
      each = λ m. block_set (Writes t.config.period (block_at t m)) t n m _ (unwritten t.config.period (block_at t m))
          (λ e. rw e (opened_writes t.config.period d way _ (block_at t n) free));
    }

first_along : (d : ℕ) (found : Option ℕ) (users : List ℕ) (v : Drive)
    → Along v.table (written_first d found users v).drive.table
first_along d none users v = along v.table
first_along d (some n) users v = into_along d n users v

next_along : (d p : ℕ) (found : Option ℕ) (users : List ℕ) (v : Drive) → Choice v.table (size v.table) found
    → Along v.table (written_next d p found users v).drive.table
next_along d p none users v c = along v.table
next_along d p (some n) users v c =
    along_then (opened_along d (Placement p) n v c.free) (into_along d n users (opened_for d (Placement p) n v))

onwards_along : (d p more : ℕ) (users : List ℕ) (v : Drive) → Along v.table (written_onwards d p more users v).drive.table
unfolding written_onwards
onwards_along d p zero users v = along v.table
onwards_along d p (suc more) users v =
    let t = v.table in
    let per_block = (new_capacity t).0 in
    let next = written_next d p (chosen_block t) (take per_block users) v in
    along_then
    (next_along d p (chosen_block t) (take per_block users) v (choice t (size t)))
    (onwards_along d p more (drop per_block users) next.drive)

placement_along : (d p : ℕ) (users : List ℕ) (v : Drive) → Along v.table (written_by_placement d p users v).drive.table
unfolding written_by_placement
placement_along d p users v =
    let t = v.table in
    let first = written_first d (open_block t d p) (take (room t d p) users) v in
    along_then
    (first_along d (open_block t d p) (take (room t d p) users) v)
    (onwards_along d p (new_blocks t d p (length users)) (drop (room t d p) users) first.drive)

-- ---- What a call makes of every block's record

-- The configuration stays, and every block of the drive moves; entries at S and above are none of it, but none of them is opened
-- with other seconds than T.
record Moved (seconds : ℕ) (t u : Table) : Type 0 where
  config : u.config ≡ t.config
  inside : (m : ℕ) → m < size t → Moves t.config.period seconds (block_at t m) (block_at u m)
  fresh : (m : ℕ) → is_open (block_at t m) ≡ false → is_open (block_at u m) ≡ true → (block_at u m).left ≡ t.config.period

-- All entries move.
all_moved : (t u : Table) → u.config ≡ t.config
    → ((m : ℕ) → Moves t.config.period 0 (block_at t m) (block_at u m)) → Moved 0 t u
all_moved t u same each = record { config = same; inside = λ m l. each m; fresh = λ m. (each m).fresh }

-- No entry does.
same_blocks : (t u : Table) → u.config ≡ t.config → u.blocks ≡ t.blocks → Moved 0 t u
same_blocks t u same blocks = all_moved t u same (λ m. rw blocks (unmoved t.config.period (block_at t m)))

write_moved : {t u : Table} → Along t u → Moved 0 t u
write_moved {t} {u} a = all_moved t u a.config (λ m. (a.each m).moves)

-- Block n gets another record.
block_moves : (t : Table) (n : ℕ) (b : Block) → Moves t.config.period 0 (block_at t n) b
    → (m : ℕ) → Moves t.config.period 0 (block_at t m) (block_at (with_block n b t) m)
block_moves t n b h m =
    block_set (Moves t.config.period 0 (block_at t m)) t n m b (unmoved t.config.period (block_at t m)) (λ e. rw e h)

deleted_moved : (t : Table) (d : ℕ) → Moved 0 t (deleted_domain d t)
unfolding deleted_domain
deleted_moved t d =
    all_moved t _ refl (λ m.
    let b = block_at t m in
    let stays = unmoved t.config.period b in
    block_changed (Moves t.config.period 0 b) (freed_if_held d) t m stays
    (by_test (held_by d b) (λ e. rw e (ended t.config.period 0 b (freed b) refl)) (λ e. rw e stays)))

pulse_moved : (t : Table) (seconds : ℕ) → Moved seconds t (pulsed seconds t)
unfolding counted_down
pulse_moved t seconds = record {
  config = refl;
  inside = λ m l. let b = block_at t m in
      subst (Moves t.config.period seconds b) (sym (block_changed_below (counted_down seconds) t m refl l))
      (counted_moves t.config.period b.state seconds b refl);
  fresh = λ m. let b = block_at t m in
      block_changed (λ c. is_open b ≡ false → is_open c ≡ true → c.left ≡ t.config.period) (counted_down seconds) t m
      (λ e f. clash (is_open b) f e)
      (counted_moves t.config.period b.state seconds b refl).fresh;
}

-- The block that Erase opens is not open.
abbrev NotOpen : Table → Option ℕ → Type 0
NotOpen t none = Unit {0}
NotOpen t (some n) = is_open (block_at t n) ≡ false

chosen_not_open : (t : Table) (found : Option ℕ) → Choice t (size t) found → NotOpen t found
chosen_not_open t none c = tt
chosen_not_open t (some n) c = free_not_open (block_at t n).state c.free

erased_not_open : (v : Drive) (call : Call) (d n : ℕ) → verdict v (call asking Erase d n) ≡ 0
    → NotOpen v.table (erased_block v.table n)
unfolding questions
erased_not_open v call d n e =
    let t = v.table in
    let b = block_at t n in
    let q9 : may_erase t d n ≡ true = answered_yes v (call asking Erase d n) 9 e in
    let q10 : implies (is_erased_again t d n) (is_closed b) ≡ true = answered_yes v (call asking Erase d n) 10 e in
    by_test (eqb n any_block)
    (λ any. rw any (chosen_not_open t (chosen_block t) (choice t (size t))))
    (λ one. rw one (by_test (is_free b)
    (λ free. free_not_open b.state free)
    (λ taken. let held : is_held t d n ≡ true = rw (one, taken) at q9 in closed_not_open b.state (rw (one, held) at q10))))

erasing_moved : (d : ℕ) (found : Option ℕ) (v : Drive) → NotOpen v.table found
    → Moved 0 v.table (erasing d found v).drive.table
unfolding opened_for
erasing_moved d none v h = same_blocks v.table v.table refl refl
erasing_moved d (some n) v h =
    let t = v.table in
    all_moved t _ refl (block_moves t n _ (opened_moves t.config.period d _ _ (block_at t n) h))

effect_moved : (v : Drive) (call : Call) (c : Command) → verdict v (call asking c) ≡ 0
    → Moved (profile c).seconds v.table (effect v (call asking c)).drive.table
unfolding effect
effect_moved v call (Create d guarantee quota placements limit) e = same_blocks v.table _ refl refl
effect_moved v call (ChangeCapacity d guarantee quota) e = same_blocks v.table _ refl refl
effect_moved v call (Delete d) e = deleted_moved v.table d
effect_moved v call (Erase d n) e = erasing_moved d (erased_block v.table n) v (erased_not_open v call d n e)
effect_moved v call (Close d n) e =
    let t = v.table in all_moved t _ refl (block_moves t n _ (closed_moves t.config.period 0 (block_at t n)))
effect_moved v call (Free d n) e =
    let t = v.table in all_moved t _ refl (block_moves t n _ (ended t.config.period 0 (block_at t n) _ refl))
effect_moved v call (WriteByPlacement d p start count) e = write_moved (placement_along d p (user_addresses start count.0) v)
effect_moved v call (WriteByBlock d n start count) e = write_moved (into_along d n (user_addresses start count.0) v)
effect_moved v call (Read d address count expected) e = same_blocks v.table v.table refl refl
effect_moved v call (Page d n) e = same_blocks v.table v.table refl refl
effect_moved v call (Listing d which) e = same_blocks v.table v.table refl refl
effect_moved v call (Pulse seconds) e = pulse_moved v.table seconds

-- The recorder frees a Closed block first, if it has to.
freed_then : (period : ℕ) (b c : Block) → is_closed b ≡ true → Writes period (freed b) c → Moves period 0 b c
freed_then period b c shut w = record {
  kept = λ e f. clash (is_open b) e (closed_not_open b.state shut);
  kept_erases = λ e f. clash (is_open b) e (closed_not_open b.state shut);
  fresh = λ e f. w.moves.fresh refl f;
  erased = λ e f. w.moves.erased refl f;
}

room_moved : (v : Drive) (lent : Lengths) (d sample : ℕ) → Moved 0 v.table (appended d sample v lent).drive.table
room_moved v lent d sample =
    let users = user_addresses sample 1 in
    let t = v.table in
    by_room d sample v lent (λ w. Moved 0 t (written_by_placement d 0 users w).drive.table)
    (write_moved (placement_along d 0 users v))
    (λ n o.
    let freed = freed_if_any (some n) v in
    let a = placement_along d 0 users freed in
    let shut = (both (held_by d (block_at t n)) (is_closed (block_at t n)) o.closed).1 in
    all_moved t _ a.config (λ m.
    block_set (λ b. Writes t.config.period b (block_at (written_by_placement d 0 users freed).drive.table m)
    → Moves t.config.period 0 (block_at t m) (block_at (written_by_placement d 0 users freed).drive.table m)) t n m _
    (λ w. w.moves)
    (λ e. rw e (freed_then t.config.period (block_at t n) _ shut))
    (a.each m)))

moved_for : (v : Drive) (k : Call) (x : Asked) → verdict v (k for x) ≡ 0
    → Moved (profile_of x).seconds v.table (effect v (k for x)).drive.table
unfolding effect
moved_for v k (command c) e = effect_moved v k c e
moved_for v k (append d sample) e = room_moved v k.lent d sample
moved_for v k (latest d count) e = same_blocks v.table v.table refl refl

-- So does a call, with the seconds of an accepted pulse.
moved : (k : Call) (v : Drive) → Moved (pulse_of v k) v.table (step k v).table
unfolding step
moved k v =
    by_test (accepted v k)
    (λ e. rw e (moved_for v k k.asks (eqb-true (verdict v k) 0 e)))
    (λ e. rw e (same_blocks v.table v.table refl refl))

-- A block of the drive that is open before a call and after it was not opened by it: it has the same serial and holder, and its
-- seconds are fewer by those of an accepted pulse.
pub stays_open : (k : Call) (v : Drive) (n : ℕ) → n < size v.table
    → is_open (block_at v.table n) ≡ true → is_open (block_at (step k v).table n) ≡ true
    → ((block_at (step k v).table n).left + pulse_of v k ≡ (block_at v.table n).left)
    × ((block_at (step k v).table n).serial ≡ (block_at v.table n).serial)
    × ((block_at (step k v).table n).holder ≡ (block_at v.table n).holder)
stays_open k v n inside before after = ((moved k v).inside n inside).kept before after

-- A block that is open after a call and not before has T seconds left.
newly_open : (k : Call) (v : Drive) (n : ℕ) → is_open (block_at v.table n) ≡ false → is_open (block_at (step k v).table n) ≡ true
    → (block_at (step k v).table n).left ≡ v.table.config.period
newly_open k v n before after = (moved k v).fresh n before after

-- And it has been erased once more.
pub newly_erased : (k : Call) (v : Drive) (n : ℕ) → n < size v.table
    → is_open (block_at v.table n) ≡ false
    → is_open (block_at (step k v).table n) ≡ true
    → (block_at (step k v).table n).erases ≡ one_more_erase (block_at v.table n).erases
newly_erased k v n inside before after = ((moved k v).inside n inside).erased before after

-- The period never changes.
same_config : (k : Call) (v : Drive) → (step k v).table.config ≡ v.table.config
same_config k v = (moved k v).config

same_configs : (ks : List Call) (v : Drive) → (run ks v).table.config ≡ v.table.config
unfolding run
same_configs [] v = refl
same_configs (k ∷ ks) v = same_configs ks (step k v) ∙ same_config k v

-- So after every list of calls, of a block of the drive.
pub counted : (ks : List Call) (v : Drive) (seconds n : ℕ) → n < size v.table
    → (is_open (block_at v.table n) ≡ true → (block_at v.table n).left + seconds ≡ v.table.config.period)
    → is_open (block_at (run ks v).table n) ≡ true
    → (block_at (run ks v).table n).left + elapsed_from seconds n ks v ≡ v.table.config.period
unfolding run elapsed_from
counted [] v seconds n inside begins after = begins after
counted (k ∷ ks) v seconds n inside begins after =
    let same = same_config k v in
    let period = ap (λ (c : Config). c.period) same in
    let below : n < size (step k v).table = subst (λ (c : Config). n < c.blocks) (sym same) inside in
    counted ks (step k v) _ n below (λ now. next now ∙ sym period) after ∙ period
  where
    next : is_open (block_at (step k v).table n) ≡ true
        → (block_at (step k v).table n).left + cond (is_open (block_at v.table n)) (seconds + pulse_of v k) 0
        ≡ v.table.config.period
    next now =
        by_test (is_open (block_at v.table n))
        (λ e. rw e (omega (arith, begins e, (stays_open k v n inside e now).0)))
        (λ e. rw e (omega (arith, newly_open k v n e now)))

-- A pulse closes an open record exactly when no second is left.
counted_closes : (s : State) (seconds : ℕ) (b : Block) → b.state ≡ s → is_open_state s ≡ true
    → is_closed (counted_from s seconds b) ≡ leb b.left seconds
unfolding closed
counted_closes state.Free seconds b same e = absurd (true≢false (sym e))
counted_closes (state.Closed way) seconds b same e = absurd (true≢false (sym e))
counted_closes (state.Open way) seconds b same e =
    by_test (ltb seconds b.left)
    (λ l. rw (l, lt-leb b.left seconds (ltb-true seconds b.left l)))
    (λ l. rw (l, same, le-leb b.left seconds (ltb-false seconds b.left l)))

-- An accepted pulse closes an open block exactly when no second is left.
pub pulse_closes : (v : Drive) (call : Call) (seconds n : ℕ) → verdict v (call asking Pulse seconds) ≡ 0 → n < size v.table
    → is_open (block_at v.table n) ≡ true
    → closes_by_pulse n v seconds call ≡ leb (block_at v.table n).left seconds
unfolding counted_down
pulse_closes v call seconds n accepted inside before =
    let b = block_at v.table n in
    rw (before, pulse_open v call seconds n accepted inside) (counted_closes b.state seconds b refl before)

-- From the start of a configuration.
module _ (c : Config) (within : within_limits c ≡ true) (store : List ℕ) (ks : List Call) (n : ℕ) (inside : n < c.blocks)
    (after : is_open (block_at (reference c store ks).table n) ≡ true) where
  config_begun : (begun c store).table.config ≡ c
  config_begun = ap (λ (x : Started). x.table.config) (start_accepted c within)

  pub counted_from_start : (block_at (reference c store ks).table n).left + elapsed n ks (begun c store) ≡ c.period
  counted_from_start =
      counted ks (begun c store) 0 n (subst (λ (x : Config). n < x.blocks) (sym config_begun) inside)
      (λ before. absurd (true≢false (sym before ∙ none_open))) after
      ∙ ap (λ (x : Config). x.period) config_begun
    where
      none_open : is_open (block_at (begun c store).table n) ≡ false
      none_open = rw (start_accepted c within, clear_block_lem c n)

  pub pulse_closes_from_start : (seconds : ℕ) (call : Call) → verdict (reference c store ks) (call asking Pulse seconds) ≡ 0
      → closes_by_pulse n (reference c store ks) seconds call ≡ leb c.period (elapsed n ks (begun c store) + seconds)
  pulse_closes_from_start seconds call accepted =
      let v = reference c store ks in
      let left = (block_at v.table n).left in
      pulse_closes v call seconds n accepted
      (subst (λ (x : Config). n < x.blocks) (sym (same_configs ks (begun c store) ∙ config_begun)) inside) after
      ∙ shifted left seconds (elapsed n ks (begun c store)) c.period counted_from_start
    where
      shifted : (left seconds gone period : ℕ) → left + gone ≡ period → leb left seconds ≡ leb period (gone + seconds)
      shifted left seconds gone period e =
          by_test (leb left seconds)
          (λ l. l ∙ sym (le-leb period (gone + seconds) (omega (arith, e, leb-true left seconds l))))
          (λ l. l ∙ sym (lt-leb period (gone + seconds) (omega (arith, e, leb-false left seconds l))))
