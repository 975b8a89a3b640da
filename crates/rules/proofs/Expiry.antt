-- In the course of a list of calls: an open block has at least a second left; a call that opens a block is accepted, erases it and gives
-- it a serial above the last one of its holder; and a pulse closes none before its time.
use Prim.Native.Nat.{ℕ, zero, suc, ◌≤◌, ◌<◌}
use mathlib.Core.Bool.{true, false, true≢false}
use mathlib.Core.List.{List, [], ◌∷◌}
use mathlib.Core.Path.{◌≡◌, refl, sym, ap, ◌∙◌, subst}
use native.Mathlib.Omega.{arith}
use lib.Dec.{eqb, ltb}
use lib.ListN.{get_or, take}
use borrow.Author.Tests.{eqb-true, ltb-false, ltb-true}
use Rattle.geometry.proofs.Laws.Shape.{both, by_test}
use Rattle.geometry.specs.declared.shape.Config.{Config}
use Rattle.model.specs.Blocks.{counted_down, counted_from, has_new_serial}
use Rattle.model.specs.declared.block.Block.{Block}
use Rattle.model.specs.declared.block.State.{State}
use Rattle.model.specs.declared.block.State.TheVariants as state
use Rattle.model.specs.declared.command.Command.{Command}
use Rattle.model.specs.declared.command.Command.TheVariants.{ChangeCapacity, Close, Create, Delete, Erase, Free, List as Listing, Page, Pulse, Read}
use Rattle.model.specs.declared.command.Command.TheVariants.{WriteByBlock, WriteByPlacement}
use Rattle.model.specs.declared.table.Table.{Table}
use Rattle.rules.specs.Calls.{Asked, Call, ◌asking◌, ◌for◌, append, command, is_pulse, latest, own_domain}
use Rattle.rules.specs.Countdown.{Expires, pulse_of}
use Rattle.rules.specs.Drive.{Drive, block_at, domain_at, is_open, is_open_state, size}
use Rattle.rules.specs.Effects.{accepted, step, verdict}
use Rattle.rules.specs.Runs.{run}
use Rattle.rules.proofs.Countdown.{newly_erased}
use Rattle.rules.proofs.Kept.Calls.{Course, call_sequel, course_fit, course_step}
use Rattle.rules.proofs.Kept.Facts.{StateFacts}
use Rattle.rules.proofs.Laws.{never_rewound, pulse_open}

-- A sound record that is not open has no second left, an open one has some.
none_left : (t : Table) (s : State) (b : Block) → StateFacts t s b → is_open_state s ≡ false → b.left ≡ 0
none_left t state.Free b f e = f.left
none_left t (state.Open way) b f e = absurd (true≢false e)
none_left t (state.Closed way) b f e = f.left

some_left : (t : Table) (s : State) (b : Block) → StateFacts t s b → is_open_state s ≡ true → 1 ≤ b.left
some_left t state.Free b f e = absurd (true≢false (sym e))
some_left t (state.Open way) b f e = f.some_left
some_left t (state.Closed way) b f e = absurd (true≢false (sym e))

module _ (v : Drive) (course : Course v) (n : ℕ) (inside : n < size v.table) where
  open_left : is_open (block_at v.table n) ≡ true → 1 ≤ (block_at v.table n).left
  open_left e =
      some_left v.table (block_at v.table n).state (block_at v.table n) (course.facts.blocks n inside) e

  closed_left : is_open (block_at v.table n) ≡ false → (block_at v.table n).left ≡ 0
  closed_left e =
      none_left v.table (block_at v.table n).state (block_at v.table n) (course.facts.blocks n inside) e

size_kept : (k : Call) (v : Drive) (n : ℕ) → Course v → n < size v.table → n < size (step k v).table
size_kept k v n course inside = subst (λ (c : Config). n < c.blocks) (sym (call_sequel v k (course_fit course k)).config) inside

opens_newly_lem : (k : Call) (v : Drive) (n : ℕ) → Course v → n < size v.table
    → is_open (block_at v.table n) ≡ false
    → is_open (block_at (step k v).table n) ≡ true
    → (domain_at v.table (block_at (step k v).table n).holder).last < (block_at (step k v).table n).serial
opens_newly_lem k v n course inside shut opened =
    let own = own_domain k.asks in
    let last = (domain_at v.table own).last in
    let b = block_at (step k v).table n in
    let some = open_left (step k v) (course_step k v course) n (size_kept k v n course inside) opened in
    let none = closed_left v course n inside shut in
    by_test (has_new_serial own last b)
    (λ new.
    let h = both (eqb b.holder own) (ltb last b.serial) new in
    subst (λ (d : ℕ). (domain_at v.table d).last < b.serial) (sym (eqb-true b.holder own h.0)) (ltb-true last b.serial h.1))
    (λ old. absurd (omega (arith, some, none, never_rewound v k n old)))

-- What changes a block is accepted.
opens_accepted : (k : Call) (v : Drive) (n : ℕ)
    → is_open (block_at v.table n) ≡ false
    → is_open (block_at (step k v).table n) ≡ true
    → accepted v k ≡ true
unfolding step
opens_accepted k v n shut opened =
    by_test (accepted v k) (λ e. e) (λ e. absurd (true≢false (sym (rw e at opened) ∙ shut)))

-- A record that a pulse closes had no more seconds than those.
counted_shut : (s : State) (seconds : ℕ) (b : Block) → b.state ≡ s → is_open_state s ≡ true → is_open (counted_from s seconds b) ≡ false
    → b.left ≤ seconds
counted_shut state.Free seconds b same e f = absurd (true≢false (sym e))
counted_shut (state.Closed way) seconds b same e f = absurd (true≢false (sym e))
counted_shut (state.Open way) seconds b same e f =
    by_test (ltb seconds b.left)
    (λ l. absurd (true≢false (rw l at f)))
    (λ l. ltb-false seconds b.left l)

pulse_shut : (c : Command) (k : Call) (v : Drive) (n : ℕ) → n < size v.table
    → is_pulse (command c) ≡ true
    → is_open (block_at v.table n) ≡ true
    → is_open (block_at (step (k asking c) v).table n) ≡ false
    → (block_at v.table n).left ≤ pulse_of v (k asking c)
unfolding counted_down step
pulse_shut (Create d guarantee quota placements limit) k v n inside e opened shut = absurd (true≢false (sym e))
pulse_shut (ChangeCapacity d guarantee quota) k v n inside e opened shut = absurd (true≢false (sym e))
pulse_shut (Delete d) k v n inside e opened shut = absurd (true≢false (sym e))
pulse_shut (Erase d m) k v n inside e opened shut = absurd (true≢false (sym e))
pulse_shut (Close d m) k v n inside e opened shut = absurd (true≢false (sym e))
pulse_shut (Free d m) k v n inside e opened shut = absurd (true≢false (sym e))
pulse_shut (WriteByPlacement d p start count) k v n inside e opened shut = absurd (true≢false (sym e))
pulse_shut (WriteByBlock d m start count) k v n inside e opened shut = absurd (true≢false (sym e))
pulse_shut (Read d address count expected) k v n inside e opened shut = absurd (true≢false (sym e))
pulse_shut (Page d m) k v n inside e opened shut = absurd (true≢false (sym e))
pulse_shut (Listing d which) k v n inside e opened shut = absurd (true≢false (sym e))
pulse_shut (Pulse seconds) k v n inside e opened shut =
    let b = block_at v.table n in
    by_test (accepted v (k asking Pulse seconds))
    (λ yes-it.
    let is = pulse_open v k seconds n (eqb-true (verdict v (k asking Pulse seconds)) 0 yes-it) inside in
    rw yes-it (counted_shut b.state seconds b refl opened (ap (λ (x : Block). is_open x) (sym is) ∙ shut)))
    (λ refused. absurd (true≢false (sym opened ∙ (rw refused at shut))))

pulse_shut_for : (x : Asked) (k : Call) (v : Drive) (n : ℕ) → n < size v.table
    → is_pulse x ≡ true
    → is_open (block_at v.table n) ≡ true
    → is_open (block_at (step (k for x) v).table n) ≡ false
    → (block_at v.table n).left ≤ pulse_of v (k for x)
pulse_shut_for (command c) k v n inside e opened shut = pulse_shut c k v n inside e opened shut
pulse_shut_for (append d sample) k v n inside e opened shut = absurd (true≢false (sym e))
pulse_shut_for (latest d count) k v n inside e opened shut = absurd (true≢false (sym e))

call_expires : (k : Call) (v : Drive) (n : ℕ) → Course v → n < size v.table → Expires n k v (step k v)
call_expires k v n course inside = record {
  opens_by_erase = λ shut opened. (
    opens_accepted k v n shut opened,
    newly_erased k v n inside shut opened,
    opens_newly_lem k v n course inside shut opened,
  );
  closes_in_time = λ pulse opened shut. pulse_shut_for k.asks k v n inside pulse opened shut;
}

-- Where nothing is called nothing opens or closes.
nothing_expires : (k : Call) (v : Drive) (n : ℕ) → Expires n k v v
nothing_expires k v n = record {
  opens_by_erase = λ shut opened. absurd (true≢false (sym opened ∙ shut));
  closes_in_time = λ pulse opened shut. absurd (true≢false (sym opened ∙ shut));
}

-- ---- Whole lists

pub open_left_after : (ks : List Call) (v : Drive) (n : ℕ) → Course v → n < size v.table
    → is_open (block_at (run ks v).table n) ≡ true
    → 1 ≤ (block_at (run ks v).table n).left
unfolding run
open_left_after [] v n course inside e = open_left v course n inside e
open_left_after (k ∷ ks) v n course inside e =
    open_left_after ks (step k v) n (course_step k v course) (size_kept k v n course inside) e

-- Between a moment of a list and the next; behind the last one, `end` stands for a call.
pub expires_at : (ks : List Call) (end : Call) (v : Drive) (i n : ℕ) → Course v → n < size v.table
    → Expires n (get_or ks i end) (run (take i ks) v) (run (take (suc i) ks) v)
unfolding run
expires_at [] end v zero n course inside = nothing_expires end v n
expires_at [] end v (suc i) n course inside = nothing_expires end v n
expires_at (k ∷ ks) end v zero n course inside = call_expires k v n course inside
expires_at (k ∷ ks) end v (suc i) n course inside =
    expires_at ks end (step k v) i n (course_step k v course) (size_kept k v n course inside)
