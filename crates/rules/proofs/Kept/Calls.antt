-- Every call leaves a sound table sound, and no domain can tell a neighbour's call.
use Prim.Native.Nat.{ℕ, ◌+◌}
use mathlib.Core.Bool.{true, false, true≢false}
use mathlib.Core.List.{List, [], ◌∷◌}
use mathlib.Core.Option.{some}
use mathlib.Core.Path.{◌≡◌, refl, sym, ap, ◌∙◌}
use lib.ListN.{length}
use borrow.Author.Tests.{eqb-true}
use Rattle.geometry.proofs.Laws.Shape.{by_test}
use Rattle.geometry.specs.Shape.{store_length}
use Rattle.geometry.specs.declared.shape.Adus.{Adus}
use Rattle.geometry.specs.declared.shape.Config.{Config}
use Rattle.model.specs.declared.command.Command.{Command}
use Rattle.model.specs.declared.command.Command.TheVariants.{ChangeCapacity, Close, Create, Delete, Erase, Free, List as Listing, Page, Pulse, Read}
use Rattle.model.specs.declared.command.Command.TheVariants.{WriteByBlock, WriteByPlacement}
use Rattle.rules.specs.Blocks.{any_block, chosen_block, new_blocks, user_address}
use Rattle.rules.specs.Calls.{Asked, Call, Own, ◌asking◌, ◌for◌, append, command, domain_of, existing, is_nobodys, is_pulse, latest, missing, nobody, own_domain, profile, profile_of}
use Rattle.rules.specs.Claims.{LentOwn, Shaped, StillSound}
use Rattle.rules.specs.Drive.{Drive, held_count}
use Rattle.rules.specs.Effects.{accepted, effect, questions, step, verdict, words_filled}
use Rattle.rules.specs.Runs.{run}
use Rattle.rules.specs.Soundness.{sound}
use Rattle.rules.proofs.Counting.{length_row}
use Rattle.rules.proofs.Kept.Asked.{block_sequel, close_sequel, free_sequel, placement_asked, written_placement_sequel}
use Rattle.rules.proofs.Kept.Domains.{changed, created}
use Rattle.rules.proofs.Kept.Erasing.{any_opens, erase_sequel}
use Rattle.rules.proofs.Kept.Facts.{Facts}
use Rattle.rules.proofs.Kept.Fit.{Fit}
use Rattle.rules.proofs.Kept.Placement.{placement_all}
use Rattle.rules.proofs.Kept.Recorder.{append_sequel}
use Rattle.rules.proofs.Kept.Sequel.{OwnSequel, Sequel, same_sequel}
use Rattle.rules.proofs.Kept.Sweeps.{deleted, pulsed_sequel}
use Rattle.rules.proofs.Kept.Tested.{facts_of, facts_sound}
use Rattle.rules.proofs.Questions.{answered_yes}

-- What a command leaves: a sequel, which no domain but its own can tell; a pulse, which is nobody's own, every domain can tell.
abbrev Leaves : Own → Drive → Drive → Type 0
Leaves (existing d) v w = OwnSequel d v w
Leaves (missing d) v w = OwnSequel d v w
Leaves nobody v w = Sequel v w

leaves_sequel : (own : Own) {v w : Drive} → Leaves own v w → Sequel v w
leaves_sequel (existing d) s = s.sequel
leaves_sequel (missing d) s = s.sequel
leaves_sequel nobody s = s

leaves_own : (own : Own) {v w : Drive} → is_nobodys own ≡ false → Leaves own v w → OwnSequel (domain_of own) v w
leaves_own (existing d) e s = s
leaves_own (missing d) e s = s
leaves_own nobody e s = absurd (true≢false e)

leaves_same : (own : Own) (v : Drive) → Facts v → Leaves own v v
leaves_same (existing d) v f = same_sequel d v f
leaves_same (missing d) v f = same_sequel d v f
leaves_same nobody v f = (same_sequel 0 v f).sequel

module _ (v : Drive) (call : Call) (fit : Fit v call) where
  effect_leaves : (c : Command) → verdict v (call asking c) ≡ 0 → Leaves (profile c).own v (effect v (call asking c)).drive
  unfolding effect
  effect_leaves (Create d guarantee quota placements limit) e =
      (created v call fit.facts fit.shaped.domains d guarantee quota placements limit e).0
  effect_leaves (ChangeCapacity d guarantee quota) e = (changed v call fit.facts fit.shaped.domains d guarantee quota e).0
  effect_leaves (Delete d) e = deleted v call fit.facts fit.shaped.domains d e
  effect_leaves (Erase d n) e = erase_sequel v call fit d n e
  effect_leaves (Close d n) e = close_sequel v call fit d n e
  effect_leaves (Free d n) e = free_sequel v call fit d n e
  effect_leaves (WriteByPlacement d k start count) e = written_placement_sequel v call fit d k start count e
  effect_leaves (WriteByBlock d n start count) e = block_sequel v call fit d n start count e
  effect_leaves (Read d address count expected) e = same_sequel d v fit.facts
  effect_leaves (Page d n) e = same_sequel d v fit.facts
  effect_leaves (Listing d which) e = same_sequel d v fit.facts
  effect_leaves (Pulse seconds) e = pulsed_sequel v call fit.facts fit.shaped.domains seconds

  leaves_for : (x : Asked) → verdict v (call for x) ≡ 0 → Leaves (profile_of x).own v (effect v (call for x)).drive
  unfolding effect
  leaves_for (command c) e = effect_leaves c e
  leaves_for (append d sample) e = append_sequel v call fit d sample e
  leaves_for (latest d count) e = same_sequel d v fit.facts

  -- So does a call, accepted or refused.
  call_leaves : Leaves (profile_of call.asks).own v (step call v)
  unfolding step
  call_leaves =
      by_test (accepted v call)
      (λ e. rw e (leaves_for call.asks (eqb-true (verdict v call) 0 e)))
      (λ e. rw e (leaves_same (profile_of call.asks).own v fit.facts))

  pub call_sequel : Sequel v (step call v)
  call_sequel = leaves_sequel (profile_of call.asks).own call_leaves

  pub own_sequel : is_pulse call.asks ≡ false → OwnSequel (own_domain call.asks) v (step call v)
  own_sequel p = leaves_own (profile_of call.asks).own p call_leaves

-- ---- One call, in terms of the test

module _ (v : Drive) (call : Call) (shaped : Shaped v.table) (own : LentOwn v call) where
  fit_of : sound v.table ≡ true → Fit v call
  fit_of e = record { facts = facts_of v e; shaped = shaped; own = own }

  pub sound_kept : sound v.table ≡ true → StillSound v (step call v)
  sound_kept e =
      let s = call_sequel v call (fit_of e) in
      record {
        still_sound = facts_sound (step call v) s.facts;
        still_shaped = record { domains = s.domains ∙ shaped.domains; blocks = s.blocks ∙ shaped.blocks };
        same_length = s.store;
      }

  -- There is a Free block for each block that is opened.
  pub erase_finds : (d : ℕ) → verdict v (call asking Erase d any_block) ≡ 0 → (n : ℕ) × (chosen_block v.table ≡ some n)
  unfolding questions
  erase_finds d e =
      let c = Erase d any_block in
      let x = any_opens v call (fit_of (answered_yes v (call asking c) 2 e)) d any_block e refl in (x.0, x.1)

  pub placement_opens : (d p start : ℕ) (count : Adus)
      → let c = WriteByPlacement d p start count in
      verdict v (call asking c) ≡ 0
      → (length (words_filled v (call asking c)) ≡ count.0)
      × (held_count (step (call asking c) v).table d ≡ held_count v.table d + new_blocks v.table d p count.0)
  unfolding questions effect words_filled step
  placement_opens d p start count e =
      let c = WriteByPlacement d p start count in
      let many = length_row (user_address start) count.0 in
      let x = placement_all (placement_asked v call (fit_of (answered_yes v (call asking c) 2 e)) d p start count e) in
      rw e (x.0 ∙ many, x.1 ∙ ap (λ (n : ℕ). held_count v.table d + new_blocks v.table d p n) many)

-- ---- Whole lists

-- A drive in the course of a list of calls: a sound table of the right shape and a whole store.
pub record Course (v : Drive) : Type 0 where
  pub facts : Facts v
  pub shaped : Shaped v.table
  pub store : length v.store ≡ (store_length v.table.config).0

pub course_fit : {v : Drive} → Course v → (call : Call) → Fit v call
course_fit c call = record { facts = c.facts; shaped = c.shaped; own = λ e. c.store }

pub course_on : (v w : Drive) → Course v → Sequel v w → Course w
course_on v w c s = record {
  facts = s.facts;
  shaped = record { domains = s.domains ∙ c.shaped.domains; blocks = s.blocks ∙ c.shaped.blocks };
  store = s.store ∙ c.store ∙ ap (λ (x : Config). (store_length x).0) (sym s.config);
}

pub course_step : (k : Call) (v : Drive) → Course v → Course (step k v)
course_step k v c = course_on v (step k v) c (call_sequel v k (course_fit c k))

pub course_run : (ks : List Call) (v : Drive) → Course v → Course (run ks v)
unfolding run
course_run [] v c = c
course_run (k ∷ ks) v c = course_run ks (step k v) (course_step k v c)
