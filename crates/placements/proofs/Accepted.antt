-- What a Write by placement may count on once its questions are answered yes, and what it then hands back.
use Rattle.std.specs.Prelude as std
use Prim.Native.Nat.{ℕ, ◌+◌, ◌-◌, ◌≤◌, ◌<◌}
use mathlib.Core.Bool.{true, true≢false}
use mathlib.Core.List.{List, [], ◌++◌}
use mathlib.Core.Option.{some}
use mathlib.Core.Path.{◌≡◌, refl, sym, ap, subst, ◌∙◌}
use native.Mathlib.Omega.{arith}
use lib.Dec.{ltb}
use lib.ListN.{length}
use borrow.Author.Tests.{eqb-true, leb-true, ltb-true}
use Rattle.geometry.proofs.Laws.Questions.{positive}
use Rattle.geometry.proofs.Laws.Shape.{both, is_between}
use Rattle.geometry.specs.Questions.{first_no}
use Rattle.geometry.specs.Shape.{adus_per_block, store_length}
use Rattle.geometry.specs.declared.shape.Adus.{Adus}
use Rattle.geometry.specs.declared.shape.Config.{Config}
use Rattle.model.specs.declared.answer.Answer.TheVariants.{Done}
use Rattle.model.specs.declared.block.Block.{Block}
use Rattle.model.specs.declared.block.State.{State}
use Rattle.model.specs.declared.block.State.TheVariants.{Closed, Free, Open}
use Rattle.model.specs.declared.command.Command.{Command}
use Rattle.model.specs.declared.command.Command.TheVariants.{WriteByPlacement}
use Rattle.model.specs.declared.table.Domain.{Domain}
use Rattle.model.specs.declared.table.Table.{Table}
use Rattle.placements.specs.Asking.{placement_arguments, placement_state}
use Rattle.placements.specs.Onwards.{Finishes, MayFinish, blocks_in, complete_of}
use Rattle.placements.specs.Placing.{MayPlace, Places, room_seen}
use Rattle.rules.proofs.Drive.{overwritten_nothing}
use Rattle.rules.proofs.Kept.Facts.{StateFacts}
use Rattle.rules.proofs.Kept.Onwards.{OpenTo, open_to}
use Rattle.rules.proofs.Kept.Tested.{facts_of}
use Rattle.rules.proofs.Questions.{yes_in}
use Rattle.rules.specs.Blocks.{user_addresses, written_by_placement}
use Rattle.rules.specs.Calls.{calling}
use Rattle.rules.specs.Drive.{Drive, block_at, domain_at, is_placed_state, open_block, size}
use Rattle.rules.specs.Effects.{effect}
use Rattle.rules.specs.Questions.{is_count, later_questions, user_addresses_fit}
use Rattle.scan.proofs.Outcomes.{begun_yes}
use Rattle.scan.proofs.Seeing.{limits_seen}
use Rattle.scan.specs.First.{Begins}
use Rattle.scan.specs.Summary.{Sees, SeesPlacement, found_in}
use Rattle.scan.specs.declared.summary.Summary.{Summary}
use Rattle.tables.proofs.Answering.{accepted_call, then_verdict}
use Rattle.tables.specs.Changing.{changed_table, outcome_served}
use Rattle.tables.specs.Serving.{ServesCommand, answering, drive, served}
use Rattle.tables.specs.declared.change.Outcome.{Outcome}
use Rattle.transfers.specs.Transfers.{Wrote}

-- ---- Blocks of a sound table

-- One that is open for a placement has room.
placed_room : (t : Table) (p : ℕ) (s : State) (b : Block) → is_placed_state p s ≡ true → StateFacts t s b → b.written.0 < (adus_per_block t.config).0
placed_room t p Free b e f = absurd (true≢false (sym e))
placed_room t p (Open way) b e f = f.written
placed_room t p (Closed way) b e f = absurd (true≢false (sym e))

is_open_to : (t : Table) (d p n : ℕ) → open_block t d p ≡ some n → OpenTo (drive t []) d p (size t) (some n)
is_open_to t d p n e = subst (OpenTo (drive t []) d p (size t)) e (open_to (drive t []) d p (size t))

-- ---- The write

-- Its user addresses can be told, and there are words enough.
pub place_fits : (t : Table) (words d p start : ℕ) (count : Adus) (x : Summary)
    → first_no (placement_arguments x words p count ++ placement_state t x d start count) ≡ 0
    → (user_addresses_fit start count.0 ≡ true) × (count.0 ≤ words)
unfolding positive placement_arguments placement_state
place_fits t words d p start count x pass =
    let qs = placement_arguments x words p count ++ placement_state t x d start count in
    (yes_in 8 qs refl pass, leb-true count.0 words (yes_in 7 qs refl pass))

-- The placement is one of at most 16.
pub few_placements : (t : Table) (entries words d p start : ℕ) (count : Adus) (x : Summary) → Sees t d x
    → Begins t (WriteByPlacement d p start count) entries
    → first_no (placement_arguments x words p count ++ placement_state t x d start count) ≡ 0 → p < 16
unfolding positive placement_arguments placement_state
few_placements t entries words d p start count x s first pass =
    let k = WriteByPlacement d p start count in
    let qs = placement_arguments x words p count ++ placement_state t x d start count in
    let between = is_between 1 16 d (begun_yes 4 t k entries first) in
    let few = (((facts_of (drive t []) (begun_yes 2 t k entries first)).domains d between.least between.most).existing (begun_yes 5 t k entries first)).few_placements in
    let same = ap (λ (r : Domain). r.placements) s.same_domain in
    omega (arith, ltb-true p x.domain.placements (both (ltb p x.domain.placements) (is_count count) (yes_in 6 qs refl pass)).0, same, few)

-- A write whose questions are answered yes may be done, ..
pub may_place : (t : Table) (entries words d p start : ℕ) (count : Adus) (x : Summary) → Sees t d x → SeesPlacement t d p x
    → Begins t (WriteByPlacement d p start count) entries → first_no (placement_arguments x words p count ++ placement_state t x d start count) ≡ 0
    → MayPlace x entries d count.0
unfolding positive placement_arguments placement_state
may_place t entries words d p start count x s q first pass =
    let k = WriteByPlacement d p start count in
    let whole = begun_yes 2 t k entries first in
    let e : x.sound ≡ true = s.tested ∙ whole in
    let qs = placement_arguments x words p count ++ placement_state t x d start count in
    let new = blocks_in x.config (count.0 - room_seen x) in
    let counted = is_between 1 256 count.0 (both (ltb p x.domain.placements) (is_count count) (yes_in 6 qs refl pass)).1 in
    let opened : (n : ℕ) → x.found ≡ std.Some n → open_block t d p ≡ some n = λ n f. sym (q.same_found e) ∙ ap found_in f in
    let last : x.domain.last ≡ (domain_at t d).last = ap (λ (r : Domain). r.last) s.same_domain in
    record {
      whole = e;
      within = limits_seen t d x s e;
      id = begun_yes 4 t k entries first;
      all_entries = rw s.same_config (eqb-true entries (store_length t.config).0 (begun_yes 3 t k entries first));
      some_written = counted.least;
      serials = omega (arith, last, leb-true ((domain_at t d).last + new) 4294967295 (yes_in 12 qs refl pass));
      open_inside = λ n f. subst (λ (c : Config). n < c.blocks) (sym s.same_config) (is_open_to t d p n (opened n f)).0;
      open_room = λ n f.
          let o = is_open_to t d p n (opened n f) in
          let l = placed_room t p (block_at t n).state (block_at t n) o.2 ((facts_of (drive t []) whole).blocks n o.0) in
          let room_of = ap (λ (c : Config). (adus_per_block c).0) s.same_config in
          let here = ap (λ (b : Block). b.written.0) (q.found_block e n (opened n f)) in
          omega (arith, l, room_of, here);
    }

-- .. goes where the rules put it, ..
pub places : (t : Table) (d p : ℕ) (x : Summary) → Sees t d x → SeesPlacement t d p x → Places t d p x
places t d p x s q = record { same_config = sym s.same_config; same_owner = sym s.same_domain; seen = q }

-- .. and this is what it hands back.
pub place_done : (t : Table) (store words bytes : List ℕ) (d p start : ℕ) (count : Adus) (u : Table) (left filled : List ℕ)
    → Begins t (WriteByPlacement d p start count) (length store)
    → first_no (later_questions (WriteByPlacement d p start count) (drive t store) (calling (WriteByPlacement d p start count) store words bytes)) ≡ 0
    → Wrote (written_by_placement d p (user_addresses start count.0) (drive t store)) words (drive u left) filled
    → ServesCommand t (WriteByPlacement d p start count) store words bytes (served (answering u Done) left filled bytes)
unfolding effect
place_done t store words bytes d p start count u left filled first pass wrote =
    let v = drive t store in
    let call = calling (WriteByPlacement d p start count) store words bytes in
    accepted_call v call words bytes (served (answering u Done) left filled bytes) []
    (then_verdict v call first ∙ pass)
    refl wrote.leaves wrote.fills refl (sym (overwritten_nothing bytes))

-- ---- An outcome that leaves nothing to write

pub complete_may : (c : Config) (entries words : ℕ) (o : Outcome) → MayFinish c entries words (complete_of o)
complete_may c entries words o = (λ _. refl, λ ne. absurd (ne refl))

-- A command that is served by it is served.
pub complete_finishes : (t : Table) (command : Command) (store words bytes : List ℕ) (o : Outcome) (store' words' bytes' : List ℕ)
    → ServesCommand t command store words bytes (served (outcome_served t o) store' words' bytes')
    → Finishes t command store words bytes (complete_of o) store' words' bytes'
complete_finishes t command store words bytes o store' words' bytes' s u left filled went =
    let same_table : u ≡ changed_table o.change t = ap (λ (v : Drive). v.table) went.leaves in
    let same_store : left ≡ store' = ap (λ (v : Drive). v.store) went.leaves in
    let same_words : filled ≡ words' = went.fills ∙ overwritten_nothing words' in
    rw (same_table, same_store, same_words) s
