-- What a Write by block and a Read may count on once their questions are answered yes, and what they then hand back.
use Prim.Native.Nat.{ℕ, ◌+◌, ◌≤◌, ◌<◌, min}
use mathlib.Core.Bool.{true, ◌&&◌}
use mathlib.Core.List.{List, [], ◌++◌}
use mathlib.Core.Path.{◌≡◌, refl, sym, ◌∙◌}
use lib.Dec.{leb}
use lib.ListN.{length}
use borrow.Author.Tests.{leb-true, ltb-true}
use Rattle.geometry.proofs.Laws.Questions.{positive, then_asked, then_not}
use Rattle.geometry.proofs.Laws.Shape.{both, by_test, is_between}
use Rattle.geometry.specs.Address.{fields_of, is_block, is_domain_id, is_offset}
use Rattle.geometry.specs.Questions.{Question, first_no}
use Rattle.buffers.proofs.Stretches.{Stretch, stretch}
use Rattle.geometry.specs.Shape.{adus_per_block, counted, store_length, stretch_start, within_limits}
use Rattle.geometry.specs.declared.address.FlashAddress.{FlashAddress}
use Rattle.geometry.specs.declared.shape.Adus.{Adus}
use Rattle.geometry.specs.declared.shape.Config.{Config}
use Rattle.model.specs.Answers.{number_of}
use Rattle.model.specs.declared.answer.Answer.{Answer}
use Rattle.model.specs.declared.answer.Answer.TheVariants.{Done, Refused}
use Rattle.model.specs.declared.answer.Refusal.{Refusal}
use Rattle.model.specs.declared.answer.Refusal.TheVariants.{Mismatch}
use Rattle.model.specs.declared.block.Block.{Block}
use Rattle.model.specs.declared.command.Command.TheVariants.{Read, WriteByBlock}
use Rattle.model.specs.declared.table.Table.{Table}
use Rattle.rules.proofs.Drive.{overwritten_nothing}
use Rattle.rules.proofs.Questions.{before, from, yes_in}
use Rattle.rules.specs.Blocks.{matches, stored, user_addresses, written_into}
use Rattle.rules.specs.Calls.{calling}
use Rattle.rules.specs.Drive.{Drive, overwritten, size, with_block}
use Rattle.rules.specs.Effects.{Serves, effect}
use Rattle.rules.specs.Questions.{is_count, later_questions, user_addresses_fit}
use Rattle.scan.proofs.Outcomes.{begun_entries, begun_limits, begun_yes}
use Rattle.scan.proofs.Seeing.{changed_block, sound_limits}
use Rattle.scan.specs.First.{Begins, FirstPassed}
use Rattle.scan.specs.Summary.{Seen}
use Rattle.scan.specs.declared.summary.Summary.{Summary}
use Rattle.tables.proofs.Answering.{accepted_call, then_refused, then_verdict}
use Rattle.tables.proofs.Refusals.{refusal_positive}
use Rattle.tables.specs.Changing.{block_change, outcome_served}
use Rattle.tables.specs.Serving.{ServesCommand, answering, drive, refusing, served}
use Rattle.transfers.specs.Transfers.{MayWriteIn, ReadsStretch, Wrote, read_arguments, read_state, write_arguments, write_state}

-- ---- Write by block

-- A write whose questions are answered yes may be done, ..
pub may_write : (x : Summary) (words d n start : ℕ) (count : Adus) → within_limits x.config ≡ true → is_domain_id d ≡ true
    → first_no (write_arguments x words n count ++ write_state x d start count) ≡ 0
    → MayWriteIn x.config d n x.block count.0
unfolding positive write_arguments write_state
may_write x words d n start count within known e =
    let qs = write_arguments x words n count ++ write_state x d start count in
    let range = both (is_block x.config n) (is_count count) (yes_in 6 qs refl e) in
    record {
      limits = within;
      id = known;
      inside = ltb-true n x.config.blocks range.0;
      some_written = (is_between 1 256 count.0 range.1).least;
      fits = leb-true (x.block.written.0 + count.0) (adus_per_block x.config).0 (yes_in 15 qs refl e);
    }

-- .. its user addresses can be told, and there are words enough.
pub write_fits : (x : Summary) (words d n start : ℕ) (count : Adus)
    → first_no (write_arguments x words n count ++ write_state x d start count) ≡ 0
    → (user_addresses_fit start count.0 ≡ true) × (count.0 ≤ words)
unfolding positive write_arguments write_state
write_fits x words d n start count e =
    let qs = write_arguments x words n count ++ write_state x d start count in
    (yes_in 8 qs refl e, leb-true count.0 words (yes_in 7 qs refl e))

-- What it may count on, with the block's stretch cut out of the store.
pub record WritesCut (x : Summary) (d n : ℕ) (count : Adus) (store : List ℕ) (start capacity : ℕ) : Type 0 where
  pub may : MayWriteIn x.config d n x.block count.0
  pub entries : length store ≡ (store_length x.config).0
  pub cut_out : Stretch x.config store n start capacity

pub writes_cut : (x : Summary) (d n from : ℕ) (count : Adus) (store : List ℕ) (words : ℕ) (start capacity : Adus)
    → Seen d x → FirstPassed (WriteByBlock d n from count) (length store) x
    → first_no (write_arguments x words n count ++ write_state x d from count) ≡ 0
    → start.0 ≡ counted x.config (stretch_start x.config (min n x.config.blocks)).0
    → capacity.0 ≡ counted x.config (adus_per_block x.config).0
    → WritesCut x d n count store start.0 capacity.0
writes_cut x d n from count store words start capacity seen first pass starts counts =
    let k = WriteByBlock d n from count in
    let may = may_write x words d n from count (begun_limits k (length store) x seen first) (begun_yes 4 seen.0 k (length store) (first seen.0 seen.1)) pass in
    let all = begun_entries k (length store) x refl seen first in
    record { may = may; entries = all; cut_out = stretch x.config store n start capacity may.limits may.inside all starts counts }

-- The block's new record and what was put into the store and the words are what it hands back.
pub write_done : (t : Table) (store words bytes : List ℕ) (d n start : ℕ) (count : Adus) (b : Block) (left filled : List ℕ)
    → Begins t (WriteByBlock d n start count) (length store) → n < size t
    → first_no (later_questions (WriteByBlock d n start count) (drive t store) (calling (WriteByBlock d n start count) store words bytes)) ≡ 0
    → Wrote (written_into d n (user_addresses start count.0) (drive t store)) words (drive (with_block n b t) left) filled
    → ServesCommand t (WriteByBlock d n start count) store words bytes
    (served (outcome_served t (record { answer = Done; change = block_change n b })) left filled bytes)
unfolding effect
write_done t store words bytes d n start count b left filled first l e wrote =
    let v = drive t store in
    let call = calling (WriteByBlock d n start count) store words bytes in
    rw (changed_block t n b (sound_limits t (begun_yes 2 t (WriteByBlock d n start count) (length store) first)) l)
    (accepted_call v call words bytes (served (answering (with_block n b t) Done) left filled bytes) []
    (then_verdict v call first ∙ e)
    refl wrote.leaves wrote.fills refl (sym (overwritten_nothing bytes)))

-- ---- Read

-- What a Read may count on before it looks at the store.
pub record MayRead (c : Config) (length words : ℕ) (a : FlashAddress) (count expected : ℕ) : Type 0 where
  pub limits : within_limits c ≡ true
  pub inside : a.block < c.blocks
  pub entries : length ≡ (store_length c).0
  pub extent : a.offset.0 + count ≤ (adus_per_block c).0
  pub enough : count ≤ words
  pub fits : user_addresses_fit expected count ≡ true

-- Where every question but the last is answered yes, it may.
pub may_read : (x : Summary) (entries words d : ℕ) (a : FlashAddress) (count : Adus) (expected : ℕ) → within_limits x.config ≡ true
    → entries ≡ (store_length x.config).0 → first_no (read_arguments x words a count ++ read_state x d a count expected) ≡ 0
    → MayRead x.config entries words a count.0 expected
unfolding positive read_arguments read_state
may_read x entries words d a count expected within all e =
    let qs = read_arguments x words a count ++ read_state x d a count expected in
    let range = both (is_block x.config a.block && is_offset x.config a.offset) (is_count count) (yes_in 6 qs refl e) in
    let end = a.offset.0 + count.0 in
    record {
      limits = within;
      inside = ltb-true a.block x.config.blocks (both (is_block x.config a.block) (is_offset x.config a.offset) range.0).0;
      entries = all;
      extent = leb-true end (adus_per_block x.config).0 (both (leb end x.block.written.0) (leb end (adus_per_block x.config).0) (yes_in 15 qs refl e)).1;
      enough = leb-true count.0 words (yes_in 7 qs refl e);
      fits = yes_in 8 qs refl e;
    }

-- With the block's stretch cut out of the store.
pub record ReadsCut (x : Summary) (a : FlashAddress) (count expected : ℕ) (store : List ℕ) (words start capacity : ℕ) : Type 0 where
  pub may : MayRead x.config (length store) words a count expected
  pub cut_out : Stretch x.config store a.block start capacity

pub reads_cut : (x : Summary) (d address : ℕ) (count : Adus) (expected : ℕ) (a : FlashAddress) (store : List ℕ) (words : ℕ) (start capacity : Adus)
    → Seen d x → FirstPassed (Read d address count expected) (length store) x
    → first_no (read_arguments x words a count ++ read_state x d a count expected) ≡ 0
    → start.0 ≡ counted x.config (stretch_start x.config (min a.block x.config.blocks)).0
    → capacity.0 ≡ counted x.config (adus_per_block x.config).0
    → ReadsCut x a count.0 expected store words start.0 capacity.0
reads_cut x d address count expected a store words start capacity seen first pass starts counts =
    let k = Read d address count expected in
    let may = may_read x (length store) words d a count expected (begun_limits k (length store) x seen first)
    (begun_entries k (length store) x refl seen first) pass in
    record { may = may; cut_out = stretch x.config store a.block start capacity may.limits may.inside may.entries starts counts }

module _ (v : Drive) (words bytes : List ℕ) (d address : ℕ) (count : Adus) (expected : ℕ)
    (first : Begins v.table (Read d address count expected) (length v.store)) where
  -- What a Read is asked then.
  abbrev asked : List Question
  asked = later_questions (Read d address count expected) v (calling (Read d address count expected) v.store words bytes)

  -- A no before question 16 stays.
  pub read_no : (reason : Refusal) → number_of reason ≡ first_no (before 16 asked)
      → Serves v (calling (Read d address count expected) v.store words bytes) words bytes (served (refusing v.table reason) v.store words bytes)
  read_no reason e =
      then_refused v (calling (Read d address count expected) v.store words bytes) words bytes reason first
      (sym (then_not (before 16 asked) (from 16 asked) (number_of reason) (refusal_positive reason) (sym e)))

  -- Without one, question 16 alone is left.
  last_question : first_no (before 16 asked) ≡ 0 → first_no asked ≡ first_no (from 16 asked)
  unfolding positive
  last_question e = then_asked (before 16 asked) (from 16 asked) refl e

  -- Where the stretch matches it is what a Read hands back, and else the Read is refused.
  pub stretch_read : first_no (before 16 asked) ≡ 0 → (answer : Answer) (filled : List ℕ)
      → ReadsStretch expected (stored v (fields_of v.table.config address) count.0) words answer filled
      → Serves v (calling (Read d address count expected) v.store words bytes) words bytes (served (answering v.table answer) v.store filled bytes)
  unfolding first_no effect
  stretch_read e answer filled r =
      let call = calling (Read d address count expected) v.store words bytes in
      let stretch = stored v (fields_of v.table.config address) count.0 in
      by_test (matches expected stretch)
      (λ m. let says : answer ≡ Done = r.answers ∙ rw m in
      let fills : filled ≡ overwritten 0 stretch words = r.fills ∙ rw m in
      rw (says, fills)
      (accepted_call v call words bytes (served (answering v.table Done) v.store (overwritten 0 stretch words) bytes) []
      (then_verdict v call first ∙ last_question e ∙ rw m)
      refl refl refl refl (sym (overwritten_nothing bytes))))
      (λ m. let says : answer ≡ Refused Mismatch = r.answers ∙ rw m in
      let fills : filled ≡ words = r.fills ∙ rw m in
      rw (says, fills) (then_refused v call words bytes Mismatch first (sym (last_question e ∙ rw m))))
