-- The claims about every call and about whole lists of calls, over the rules alone. Nothing is proved here: each claim names its proof.
use Prim.Native.Nat.{ℕ, suc, ◌+◌, ◌≤◌, ◌<◌}
use mathlib.Core.Bool.{true, false}
use mathlib.Core.List.{List, [], ◌∷◌, ◌++◌}
use mathlib.Core.Option.{some}
use mathlib.Core.Path.{◌≡◌, sym, ◌∙◌, subst}
use lib.Dec.{eqb, leb}
use lib.ListN.{get_or, length, take}
use Rattle.geometry.specs.Address.{is_domain_id}
use Rattle.geometry.specs.Questions.{ask, first_no}
use Rattle.geometry.specs.Shape.{adus, store_length, within_limits}
use Rattle.geometry.specs.declared.shape.Adus.{Adus}
use Rattle.geometry.specs.declared.shape.Config.{Config}
use Rattle.geometry.specs.declared.shape.Planes.{Planes}
use Rattle.model.specs.declared.command.Command.TheVariants.{Create, Erase, Free, Pulse, WriteByPlacement}
use Rattle.rules.specs.Blocks.{any_block, chosen_block, new_blocks}
use Rattle.rules.specs.Calls.{Asked, Call, ◌asking◌, ◌for◌, append, calling_for, latest, own_domain}
use Rattle.rules.specs.Claims.{Found, Guaranteed, KeptAt, LentOwn, Likewise, Oldest, Shaped, StillSound, written_where}
use Rattle.rules.specs.Countdown.{Expires, closes_by_pulse, elapsed}
use Rattle.rules.specs.Drive.{Drive, block_at, closed_of, domain_at, held_by, held_count, is_open, open_block, size}
use Rattle.rules.specs.Effects.{Served, Serves, step, verdict, words_filled}
use Rattle.rules.specs.Example.{NotEmpty}
use Rattle.rules.specs.Noninterference.{Exchange, Indistinguishable, Replied, calls, fully_reserved, inputs, is_allowed, reserves_all}
use Rattle.rules.specs.Observation.{serial_at}
use Rattle.rules.specs.Questions.{first_questions}
use Rattle.rules.specs.Recorder.{has_recorder_shape, kept, last_of, oldest_closed, sample_write, after_freeing}
use Rattle.rules.specs.Retention.{Retains, recorder_alone}
use Rattle.rules.specs.Runs.{begun, reference}
use Rattle.rules.specs.Soundness.{sound}
use Rattle.rules.proofs.Appending as appending
use Rattle.rules.proofs.Countdown as countdowns
use Rattle.rules.proofs.Example as example
use Rattle.rules.proofs.Expiry as expiries
use Rattle.rules.proofs.Kept.Calls as calls-kept
use Rattle.rules.proofs.Kept.Calls.{Course, course_run}
use Rattle.rules.proofs.Kept.Tested.{facts_of}
use Rattle.rules.proofs.Noninterference.Moments as moments
use Rattle.rules.proofs.Noninterference.Reads.{course_ready}
use Rattle.rules.proofs.Noninterference.Samples.{kept_at, kept_written}
use Rattle.rules.proofs.Noninterference.Unasked.{unasked}
use Rattle.rules.proofs.Recorder.{none_oldest}
use Rattle.rules.proofs.Retention.Lists as recorded

-- ---- One call

-- From a sound table every command, accepted or refused, whatever is lent, leaves a sound table and a store of as many entries.
pub soundness_kept : (v : Drive) (k : Call)
    → Shaped v.table
    → LentOwn v k
    → sound v.table ≡ true
    → StillSound v (step k v)
soundness_kept v k shaped own is_sound = calls-kept.sound_kept v k shaped own is_sound

-- So it is of what a call hands back, whatever buffers it is lent.
pub served_sound : (v : Drive) (x : Asked) (words bytes : List ℕ) (r : Served)
    → Shaped v.table
    → sound v.table ≡ true
    → Serves v (calling_for x v.store words bytes) words bytes r
    → StillSound v r.drive
served_sound v x words bytes r shaped is_sound serves =
    subst (StillSound v) (sym serves.leaves)
    (soundness_kept v (calling_for x v.store words bytes) shaped (λ e. e) is_sound)

-- Where question 14 is answered yes, a Free block is chosen for each block that is opened: Erase FFFFFFFFh finds one, ..
pub erase_finds_free : (v : Drive) (k : Call) (d : ℕ)
    → Shaped v.table
    → LentOwn v k
    → verdict v (k asking Erase d any_block) ≡ 0
    → (n : ℕ) × (chosen_block v.table ≡ some n)
erase_finds_free v k d shaped own accepted = calls-kept.erase_finds v k shaped own d accepted

-- .. and Write by placement as many as it needs: every ADU gets its flash address, and so many blocks more are held.
pub write_finds_free : (v : Drive) (k : Call) (d p start : ℕ) (count : Adus)
    → Shaped v.table
    → LentOwn v k
    → let c = WriteByPlacement d p start count in
    verdict v (k asking c) ≡ 0
    → (length (words_filled v (k asking c)) ≡ count.0)
    × (held_count (step (k asking c) v).table d ≡ held_count v.table d + new_blocks v.table d p count.0)
write_finds_free v k d p start count shaped own accepted = calls-kept.placement_opens v k shaped own d p start count accepted

-- ---- The recorder (02, Wish 1)

-- "6 for a domain of another shape", if no earlier question is answered no.
pub append_another_shape : (v : Drive) (k : Call) (d sample : ℕ)
    → has_recorder_shape (domain_at v.table d) ≡ false
    → let add = k for append d sample in
    verdict v add ≡ first_no (first_questions v add ++ (ask 6 false ∷ []))
append_another_shape v k d sample other = appending.another_shape v k d sample other

-- "appended by a Write by placement and answered alike": so it is where that does not get 13, ..
pub append_at_once : (v : Drive) (k : Call) (d sample : ℕ)
    → has_recorder_shape (domain_at v.table d) ≡ true
    → ¬ (verdict v (k asking sample_write d sample) ≡ 13)
    → Likewise v (k for append d sample) v (k asking sample_write d sample)
append_at_once v k d sample shaped other = appending.written_at_once v k d sample shaped other

-- .. and "with no Closed block 13 is the answer": what the write gets is what the append gets.
pub append_none_closed : (v : Drive) (k : Call) (d sample : ℕ)
    → has_recorder_shape (domain_at v.table d) ≡ true
    → ((n : ℕ) → n < size v.table → closed_of d (block_at v.table n) ≡ false)
    → Likewise v (k for append d sample) v (k asking sample_write d sample)
append_none_closed v k d sample shaped nothing = appending.none_to_free v k d sample shaped (none_oldest v.table d nothing)

-- "it frees the Closed block with the least serial and writes again": both are accepted, the write after a freeing is never refused, and
-- the append is the two.
pub append_after_freeing : (v : Drive) (k : Call) (d sample n : ℕ)
    → Shaped v.table
    → LentOwn v k
    → has_recorder_shape (domain_at v.table d) ≡ true
    → verdict v (k asking sample_write d sample) ≡ 13
    → oldest_closed v.table d ≡ some n
    → Oldest v.table d (size v.table) n
    × (verdict v (k asking Free d n) ≡ 0)
    × (verdict (step (k asking Free d n) v) (k asking sample_write d sample) ≡ 0)
    × Likewise v (k for append d sample) (step (k asking Free d n) v) (k asking sample_write d sample)
append_after_freeing v k d sample n shape own shaped refused found =
    appending.freed_and_written v k d sample shape own shaped refused n found

-- "Kept are the domain's written ADUs, by rising serial, then offset": all of them, and each block's behind those of lower serials.
pub kept_in_order : (v : Drive) (d : ℕ)
    → Shaped v.table
    → length v.store ≡ (store_length v.table.config).0
    → sound v.table ≡ true
    → 1 ≤ d
    → (length (kept v d) ≡ written_where (λ serial. true) v d)
    × ((n : ℕ) → n < size v.table → held_by d (block_at v.table n) ≡ true → KeptAt v d n)
kept_in_order v d shaped whole is_sound low =
    let course : Course v = record { facts = facts_of v is_sound; shaped = shaped; store = whole } in (
      kept_written v d low course.facts (course_ready v course),
      λ n inside held. kept_at v d low course.facts (course_ready v course) n (inside, held),
    )

-- An append is done whole or refused whole: a refusal leaves everything (`refused_unchanged`); success stores the sample at the flash
-- address that it hands back, ..
pub append_found : (v : Drive) (k : Call) (d sample : ℕ)
    → Shaped v.table
    → length v.store ≡ (store_length v.table.config).0
    → verdict v (k for append d sample) ≡ 0
    → Found (step (k for append d sample) v) (words_filled v (k for append d sample)) (sample ∷ [])
append_found v k d sample shape whole accepted =
    recorded.append_found v k d sample (recorded.append_course v k d sample shape whole accepted) accepted

-- .. and puts it at the end of what is kept, provided that the placement's open block, if there is one, is the domain's newest.
pub append_kept : (v : Drive) (k : Call) (d sample : ℕ)
    → Shaped v.table
    → length v.store ≡ (store_length v.table.config).0
    → has_recorder_shape (domain_at v.table d) ≡ true
    → ((n : ℕ) → open_block v.table d 0 ≡ some n → serial_at v n ≡ (domain_at v.table d).last)
    → verdict v (k for append d sample) ≡ 0
    → kept (step (k for append d sample) v) d ≡ kept (after_freeing d sample v k.lent) d ++ (sample ∷ [])
append_kept v k d sample shape whole shaped newest accepted =
    recorded.append_kept v k d sample (recorded.append_course v k d sample shape whole accepted) shaped newest accepted

-- Then reading 1 is accepted, if the store and a word are lent, and gives that sample.
pub latest_after_append : (v : Drive) (k l : Call) (d sample : ℕ)
    → Shaped v.table
    → length v.store ≡ (store_length v.table.config).0
    → has_recorder_shape (domain_at v.table d) ≡ true
    → ((n : ℕ) → open_block v.table d 0 ≡ some n → serial_at v n ≡ (domain_at v.table d).last)
    → verdict v (k for append d sample) ≡ 0
    → l.lent.store ≡ (store_length v.table.config).0
    → 1 ≤ l.lent.words
    → let w = step (k for append d sample) v in
    (verdict w (l for latest d (adus 1)) ≡ 0) × (words_filled w (l for latest d (adus 1)) ≡ sample ∷ [])
latest_after_append v k l d sample shape whole shaped newest accepted store word =
    let w = step (k for append d sample) v in
    let read = recorded.latest_accepted v k l d sample (recorded.append_course v k d sample shape whole accepted) shaped newest accepted store word in (
      read,
      recorded.latest_filled w l d (adus 1) read
          ∙ recorded.last_one (kept w d) (kept (after_freeing d sample v k.lent) d) sample
          (append_kept v k d sample shape whole shaped newest accepted),
    )

-- An accepted append fills in one flash address.
pub append_words : (v : Drive) (k : Call)
    → Shaped v.table
    → LentOwn v k
    → (d sample : ℕ)
    → verdict v (k for append d sample) ≡ 0
    → length (words_filled v (k for append d sample)) ≡ 1
append_words v k shape own d sample accepted = recorded.append_words v k shape own d sample accepted

-- Reading leaves the drive, and gives the end of what is kept: so many, oldest first.
pub latest_gives : (v : Drive) (k : Call) (d : ℕ) (count : Adus)
    → verdict v (k for latest d count) ≡ 0
    → (step (k for latest d count) v ≡ v)
    × (words_filled v (k for latest d count) ≡ last_of count.0 (kept v d))
    × (length (words_filled v (k for latest d count)) ≡ count.0)
latest_gives v k d count accepted = (
  recorded.latest_leaves v k d count accepted,
  recorded.latest_filled v k d count accepted,
  recorded.latest_many v k d count accepted,
)

-- In whole runs: from an accepted Create of that shape on, if only the recorder uses the domain and no block of it expired, the last
-- (quota − 1) × C samples, or all if fewer, are still kept, after every call.
pub retention : (c : Config) (store : List ℕ) (ks : List Call) (k : Call) (a : ℕ) (guarantee quota : Planes) (placements limit : ℕ) (more : List Call)
    → within_limits c ≡ true
    → length store ≡ (store_length c).0
    → let v = reference c store ks in
    let create = k asking Create a guarantee quota placements limit in
    verdict v create ≡ 0
    → has_recorder_shape (domain_at (step create v).table a) ≡ true
    → recorder_alone a more (step create v) ≡ true
    → Retains a more (step create v)
retention c store ks k a guarantee quota placements limit more within whole accepted shaped alone =
    recorded.retention (reference c store ks) (course_run ks (begun c store) (moments.begun_course c store within whole)) k a guarantee quota
    placements limit accepted shaped more alone

-- ---- The countdown

-- A block that is open before a call and after it was not opened by it: it has the serial and the holder that it had.
pub only_opening_starts : (k : Call) (v : Drive) (n : ℕ)
    → n < size v.table
    → is_open (block_at v.table n) ≡ true
    → is_open (block_at (step k v).table n) ≡ true
    → ((block_at (step k v).table n).serial ≡ (block_at v.table n).serial)
    × ((block_at (step k v).table n).holder ≡ (block_at v.table n).holder)
only_opening_starts k v n inside before after =
    let x = countdowns.stays_open k v n inside before after in (x.1, x.2)

-- From the start of a configuration, after every list of calls: an open block has T less the seconds of the accepted pulses since it
-- was opened, ..
pub countdown : (c : Config) (store : List ℕ) (ks : List Call) (n : ℕ)
    → within_limits c ≡ true
    → n < c.blocks
    → is_open (block_at (reference c store ks).table n) ≡ true
    → (block_at (reference c store ks).table n).left + elapsed n ks (begun c store) ≡ c.period
countdown c store ks n within inside opened = countdowns.counted_from_start c within store ks n inside opened

-- .. and at least one; ..
pub some_left : (c : Config) (store : List ℕ) (ks : List Call) (n : ℕ)
    → within_limits c ≡ true
    → length store ≡ (store_length c).0
    → n < c.blocks
    → is_open (block_at (reference c store ks).table n) ≡ true
    → 1 ≤ (block_at (reference c store ks).table n).left
some_left c store ks n within whole inside opened =
    expiries.open_left_after ks (begun c store) n (moments.begun_course c store within whole)
    (subst (λ (x : Config). n < x.blocks) (sym (moments.begun_config c store within)) inside) opened

-- .. a call that opens it is accepted, erases it and gives it a serial above the last one of its domain, and a pulse closes it in time
-- alone; behind the last call, `end` stands for one; ..
pub expires : (c : Config) (store : List ℕ) (ks : List Call) (end : Call) (i n : ℕ)
    → within_limits c ≡ true
    → length store ≡ (store_length c).0
    → n < c.blocks
    → Expires n (get_or ks i end) (reference c store (take i ks)) (reference c store (take (suc i) ks))
expires c store ks end i n within whole inside =
    expiries.expires_at ks end (begun c store) i n (moments.begun_course c store within whole)
    (subst (λ (x : Config). n < x.blocks) (sym (moments.begun_config c store within)) inside)

-- .. and the next pulse closes it exactly when T is reached.
pub pulse_closes : (c : Config) (store : List ℕ) (ks : List Call) (n seconds : ℕ) (k : Call)
    → within_limits c ≡ true
    → n < c.blocks
    → is_open (block_at (reference c store ks).table n) ≡ true
    → verdict (reference c store ks) (k asking Pulse seconds) ≡ 0
    → closes_by_pulse n (reference c store ks) seconds k ≡ leb c.period (elapsed n ks (begun c store) + seconds)
pulse_closes c store ks n seconds k within inside opened accepted =
    countdowns.pulse_closes_from_start c within store ks n inside opened seconds k accepted

-- ---- Demand 3, over the rules

-- From the start of a configuration, after every call of a list: the table is sound, so that no call gets 2; ..
pub always_sound : (c : Config) (store : List ℕ) (ks : List Call)
    → within_limits c ≡ true
    → length store ≡ (store_length c).0
    → (i : ℕ) → sound (reference c store (take i ks)).table ≡ true
always_sound c store ks within whole i = moments.run_sound c within store (take i ks) whole

-- .. coverage holds, and no domain holds more blocks than its quota.
pub guarantees : (c : Config) (store : List ℕ) (ks : List Call)
    → within_limits c ≡ true
    → length store ≡ (store_length c).0
    → (i : ℕ) → Guaranteed (reference c store (take i ks)).table
guarantees c store ks within whole i = moments.guaranteed c within store (take i ks) whole

-- The hypotheses of what follows are met by lists in which the neighbours do all they can, and A's blocks have other numbers.
pub not_empty : NotEmpty
not_empty = example.not_empty

-- What they ask is asked of A's own calls alone: a neighbour's call, and a pulse, is always allowed.
pub neighbours_unasked : (a : ℕ) (k : Call) (v : Drive)
    → 1 ≤ a
    → eqb (own_domain k.asks) a ≡ false
    → reserves_all a v ≡ true
    → is_allowed a v k ≡ true
neighbours_unasked a k v low foreign reserved = unasked a k v low foreign reserved

-- Every list of calls has replies.
pub always_replied : (ks : List Call) (v : Drive) → (xs : List Exchange) × (calls xs ≡ ks) × Replied xs v
always_replied ks v = example.exchanged ks v

-- Two lists of calls with their replies, from the start of one configuration with two first stores, in which the domain a is fully
-- reserved and has the same inputs: after as many inputs in both, wherever each list stands between two of them, a has observed
-- the same and holds the same.
pub noninterference : (c : Config) (a : ℕ) (xs ys : List Exchange) (store other : List ℕ)
    → within_limits c ≡ true
    → is_domain_id a ≡ true
    → length store ≡ (store_length c).0
    → length other ≡ (store_length c).0
    → Replied xs (begun c store)
    → Replied ys (begun c other)
    → fully_reserved a (calls xs) (begun c store) ≡ true
    → fully_reserved a (calls ys) (begun c other) ≡ true
    → inputs a (calls xs) (begun c store) ≡ inputs a (calls ys) (begun c other)
    → (i j : ℕ)
    → length (inputs a (calls (take i xs)) (begun c store)) ≡ length (inputs a (calls (take j ys)) (begun c other))
    → Indistinguishable a (take i xs) (take j ys) (begun c store) (begun c other)
noninterference c a xs ys store other within id whole whole' replied replied' reserved reserved' same i j as_many =
    moments.every_moment c within a id store other whole whole' xs ys replied replied' reserved reserved' same i j as_many
