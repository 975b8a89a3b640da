-- Along a list of calls in which only the recorder uses a domain.
use Prim.Native.Nat.{ℕ, ◌+◌, ◌-◌, ◌/◌, ◌^◌, ◌≤◌, ◌<◌}
use mathlib.Core.Bool.{Bool, true, false, true≢false, not, cond}
use mathlib.Core.List.{List, [], ◌∷◌, ◌++◌, append_assoc, append-nil}
use mathlib.Core.Option.{Option, none, some}
use mathlib.Core.Path.{◌≡◌, refl, sym, ap, ◌∙◌, subst}
use native.Mathlib.Nat.{div-add-mod'}
use native.Mathlib.Omega.{arith}
use lib.Dec.{eqb, leb}
use lib.ListN.{drop, get_or, length, length-append, length-drop, take}
use lib.Seq.{drop-append_seam, get_or-set_same, take_all}
use borrow.Author.Tests.{eq-eqb, eqb-true, le-leb, leb-true}
use Rattle.geometry.proofs.Laws.Shape.{both, by_test, is_between, limits}
use Rattle.geometry.specs.Address.{is_domain_id}
use Rattle.geometry.specs.Questions.{first_no}
use Rattle.geometry.specs.Shape.{adus, adus_per_block, store_length}
use Rattle.geometry.specs.declared.shape.Adus.{Adus}
use Rattle.geometry.specs.declared.shape.Config.{Config}
use Rattle.geometry.specs.declared.shape.Planes.{Planes}
use Rattle.model.specs.Blocks.{counted_down}
use Rattle.model.specs.declared.block.Block.{Block}
use Rattle.model.specs.declared.block.Way.TheVariants.{Placement}
use Rattle.model.specs.declared.command.Command.TheVariants.{ChangeCapacity, Close, Create, Delete, Erase, Free, List as Listing, Page, Pulse, Read}
use Rattle.model.specs.declared.command.Command.TheVariants.{WriteByBlock, WriteByPlacement}
use Rattle.model.specs.declared.table.Domain.{Domain}
use Rattle.rules.specs.Blocks.{Written, all_ones, opened_for, room_in, user_address, user_addresses, written_by_placement, written_into, written_onwards}
use Rattle.rules.specs.Calls.{Asked, Call, ◌asking◌, ◌for◌, append, command, is_pulse, latest, own_domain}
use Rattle.rules.specs.Claims.{Found, LentOwn, Shaped}
use Rattle.rules.specs.Counting.{implies, row_to}
use Rattle.rules.specs.Domains.{created_domain}
use Rattle.rules.specs.Drive.{Drive, block_at, by_serial_to, clear_domain, domain_at, entries_of, held_by, is_open, is_open_for, open_block, open_of, size}
use Rattle.rules.specs.Effects.{accepted, effect, questions, step, verdict, words_filled}
use Rattle.rules.specs.Observation.{Holds, serial_at}
use Rattle.rules.specs.Questions.{exists}
use Rattle.rules.specs.Recorder.{has_recorder_shape, kept, last_of, sample_write, after_freeing, written_in}
use Rattle.rules.specs.Retention.{EndsWith, Retains, expires_none, only_records, recorder_alone, retained, sample_of, accepted_samples}
use Rattle.rules.specs.Runs.{run}
use Rattle.rules.proofs.Appending.{held, is_oldest, made, none_open, none_open_after, none_takes, one_takes, quota_reached, room_or_not}
use Rattle.rules.proofs.Counting.{all_each, length_row}
use Rattle.rules.proofs.Effects.{accepted_drive}
use Rattle.rules.proofs.Found.{placement_found}
use Rattle.rules.proofs.Kept.Asked.{placement_asked}
use Rattle.rules.proofs.Kept.Calls.{Course, call_sequel, course_fit, course_step}
use Rattle.rules.proofs.Kept.Changes.{Writable, opened_domain, opened_record, written_domains, written_sequel}
use Rattle.rules.proofs.Kept.Fit.{Fit, fit_blocks}
use Rattle.rules.proofs.Kept.Mild.{counted_mild}
use Rattle.rules.proofs.Kept.OneBlock.{held_owned}
use Rattle.rules.proofs.Kept.Onwards.{Onward, OpenTo, next_block, next_openable, next_writable, open_facts, open_to, takes}
use Rattle.rules.proofs.Kept.Placement.{first_writable, first_of, is_open_lem, new_for, none_onward, placement_is}
use Rattle.rules.proofs.Kept.Placement as placing
use Rattle.rules.proofs.Kept.Recorder.{append_writes, room_domain, room_fit, room_same}
use Rattle.rules.proofs.Kept.Tested.{facts_of, facts_sound}
use Rattle.rules.proofs.Noninterference.Lists.{neighbour}
use Rattle.rules.proofs.Noninterference.Reads.{course_ready}
use Rattle.rules.proofs.Questions.{answered_yes}
use Rattle.rules.proofs.Retention.Recording.{Recording, Ticks, ends_with, kept_opened, last_is, recording_alike, recording_freed, recording_opened, recording_ticked, recording_written, sample_last, serial_opened, ticked}
use Rattle.rules.proofs.Runs.{pulse_open}
use Rattle.rules.proofs.Writes.{onwards_some, onwards_zero}

-- ---- A Write by placement of one ADU

-- A single ADU carries the user address itself.
user_itself : (u : ℕ) → user_address u 0 ≡ u
unfolding user_address
user_itself u =
    by_test (eqb u all_ones)
    (λ e. rw e (sym (eqb-true u all_ones e)))
    (λ e. rw e (omega (arith, div-add-mod' u (2 ^ 40))))

pub users_itself : (u : ℕ) → user_addresses u 1 ≡ u ∷ []
unfolding row_to
users_itself u = ap (λ (x : ℕ). x ∷ []) (user_itself u)

module _ {a u : ℕ} {w : Drive} (x : placing.Asked a 0 (u ∷ []) w) where
  abbrev c : ℕ
  c = (adus_per_block w.table.config).0

  some_there : 0 < c
  some_there = omega (arith, (limits w.table.config x.facts.limits).adus)

  -- It goes into the placement's open block, ..
  into_open : (m : ℕ) → open_block w.table a 0 ≡ some m → (written_by_placement a 0 (u ∷ []) w).drive ≡ (written_into a m (u ∷ []) w).drive
  into_open m e =
      let roomy : 1 ≤ room_in w.table (some m) = omega (arith, placing.has_room x m e) in
      let whole : take (room_in w.table (some m)) (u ∷ []) ≡ u ∷ [] = take_all (room_in w.table (some m)) (u ∷ []) roomy in
      let none_new : new_for w.table (some m) 1 ≡ 0 =
      ap (λ (k : ℕ). (k + (c - 1)) / c) {y = 0} (omega (arith, roomy)) ∙ none_takes c ((0 + (c - 1)) / c) (takes c 0 some_there) in
      ap (λ (z : Written). z.drive) (placement_is a 0 (u ∷ []) w (some m) e)
      ∙ ap (λ (k : ℕ). (written_onwards a 0 k (drop (room_in w.table (some m)) (u ∷ [])) (first_of a (some m) (u ∷ []) w).drive).drive) none_new
      ∙ ap (λ (z : Written). z.drive) (onwards_zero w.table.config a 0 (drop (room_in w.table (some m)) (u ∷ [])) (first_of a (some m) (u ∷ []) w).drive)
      ∙ ap (λ (l : List ℕ). (written_into a m l w).drive) whole

  open_writable : (m : ℕ) → open_block w.table a 0 ≡ some m → Writable a m (u ∷ []) w
  open_writable m e =
      subst (λ (l : List ℕ). Writable a m l w)
      (take_all (room_in w.table (some m)) (u ∷ []) (omega (arith, placing.has_room x m e))) (first_writable x m e)

  -- .. or into one that is opened for it.
  module _ (e : open_block w.table a 0 ≡ none) where
    one_new : new_for w.table none 1 ≡ 1
    one_new = one_takes c ((1 + (c - 1)) / c) some_there (takes c 1 some_there)

    onward : Onward a 0 1 (u ∷ []) w
    onward = subst (λ (k : ℕ). Onward a 0 k (u ∷ []) w) one_new (none_onward x e)

    abbrev chosen : ℕ
    chosen = (next_block onward).0

    into_new : (written_by_placement a 0 (u ∷ []) w).drive ≡ (written_into a chosen (u ∷ []) (opened_for a (Placement 0) chosen w)).drive
    into_new =
        let whole : take c (u ∷ []) ≡ u ∷ [] = take_all c (u ∷ []) (omega (arith, some_there)) in
        let first = written_into a chosen (take c (u ∷ [])) (opened_for a (Placement 0) chosen w) in
        ap (λ (z : Written). z.drive) (placement_is a 0 (u ∷ []) w none e)
        ∙ ap (λ (k : ℕ). (written_onwards a 0 k (u ∷ []) w).drive) one_new
        ∙ ap (λ (z : Written). z.drive) (onwards_some w.table.config a 0 0 chosen (u ∷ []) w x.ready (next_block onward).1)
        ∙ ap (λ (z : Written). z.drive) (onwards_zero w.table.config a 0 (drop c (u ∷ [])) first.drive)
        ∙ ap (λ (l : List ℕ). (written_into a chosen l (opened_for a (Placement 0) chosen w)).drive) whole

    new_writable : Writable a chosen (u ∷ []) (opened_for a (Placement 0) chosen w)
    new_writable =
        subst (λ (l : List ℕ). Writable a chosen l (opened_for a (Placement 0) chosen w)) (take_all c (u ∷ []) (omega (arith, some_there)))
        (next_writable onward chosen (next_block onward).1)

  -- What is kept has it at the end, if the open block is the domain's newest.
  pub kept_placed : (found : Option ℕ) → open_block w.table a 0 ≡ found
      → ((m : ℕ) → open_block w.table a 0 ≡ some m → serial_at w m ≡ (domain_at w.table a).last)
      → kept (written_by_placement a 0 (u ∷ []) w).drive a ≡ kept w a ++ (u ∷ [])
  kept_placed (some m) e newest =
      let here = open_writable m e in
      ap (λ (z : Drive). kept z a) (into_open m e)
      ∙ sample_last x.facts here (written_sequel here x.facts).sequel.facts (is_open_lem x m e).2 (newest m e)
  kept_placed none e newest =
      let n = chosen e in
      let o = next_openable (onward e) n (next_block (onward e)).1 in
      let facts = open_facts (onward e) n (next_block (onward e)).1 in
      let here = new_writable e in
      ap (λ (z : Drive). kept z a) (into_new e)
      ∙ sample_last facts here (written_sequel here facts).sequel.facts
      (ap (λ (b : Block). is_open_for 0 b) (opened_record o (Placement 0))) (serial_opened o facts ∙ sym (last_is o facts))
      ∙ ap (λ (l : List ℕ). l ++ (u ∷ [])) (kept_opened o facts)

  -- The domain is there as before, and of the shape that it had.
  shape_placed : (found : Option ℕ) → open_block w.table a 0 ≡ found
      → let u = (written_by_placement a 0 (u ∷ []) w).drive.table in
      ((domain_at u a).exists ≡ (domain_at w.table a).exists) × (has_recorder_shape (domain_at u a) ≡ has_recorder_shape (domain_at w.table a))
  shape_placed (some m) e =
      let is = ap (λ (z : Drive). domain_at z.table a) (into_open m e)
      ∙ ap (λ (l : List Domain). get_or l (a - 1) clear_domain) (written_domains (open_writable m e)) in
      (ap (λ (d : Domain). d.exists) is, ap (λ (d : Domain). has_recorder_shape d) is)
  shape_placed none e =
      let n = chosen e in
      let o = next_openable (onward e) n (next_block (onward e)).1 in
      let is = ap (λ (z : Drive). domain_at z.table a) (into_new e)
      ∙ ap (λ (l : List Domain). get_or l (a - 1) clear_domain) (written_domains (new_writable e))
      ∙ opened_domain o (Placement 0) in
      (ap (λ (d : Domain). d.exists) is, ap (λ (d : Domain). has_recorder_shape d) is)

-- ---- An append

module _ {a u : ℕ} {xs : List ℕ} {w : Drive} (x : placing.Asked a 0 (u ∷ []) w) (r : Recording a xs w) where
  into_either : (found : Option ℕ) → open_block w.table a 0 ≡ found → Recording a (xs ++ (u ∷ [])) (written_by_placement a 0 (u ∷ []) w).drive
  into_either (some m) e =
      let here = open_writable x m e in
      subst (Recording a (xs ++ (u ∷ []))) (sym (into_open x m e))
      (recording_written x.facts here (written_sequel here x.facts).sequel.facts (is_open_lem x m e).2 r)
  into_either none e =
      let o = onward x e in
      let n = chosen x e in
      let is = (next_block o).1 in
      let openable = next_openable o n is in
      let opening = opened_for a (Placement 0) n w in
      let facts = open_facts o n is in
      let here = new_writable x e in
      let idle = subst (OpenTo w a 0 (size w.table)) e (open_to w a 0 (size w.table)) in
      subst (Recording a (xs ++ (u ∷ []))) (sym (into_new x e))
      (recording_written facts here (written_sequel here facts).sequel.facts
      (ap (λ (b : Block). is_open_for 0 b) (opened_record openable (Placement 0)))
      (recording_opened openable facts idle r))

  pub recording_placed : Recording a (xs ++ (u ∷ [])) (written_by_placement a 0 (u ∷ []) w).drive
  recording_placed = into_either (open_block w.table a 0) refl

module _ {a : ℕ} {xs : List ℕ} {v : Drive} (k : Call) (sample : ℕ) (course : Course v) (r : Recording a xs v) where
  room_recording : is_domain_id a ≡ true → Recording a xs (after_freeing a sample v k.lent)
  room_recording id =
      room_or_not v k a sample
      (λ same. subst (Recording a xs) (sym same) r)
      (λ n refused found.
      let f = course_fit course (k asking sample_write a sample) in
      let h = held v k a sample course.shaped f.own r.shaped refused n found in
      subst (Recording a xs) (sym (made v k a sample course.shaped f.own r.shaped refused n found))
      (recording_freed course.facts (course_ready v course) h
      (is_oldest v k a sample course.shaped f.own r.shaped refused n found)
      (subst (OpenTo v a 0 (size v.table)) (none_open v k a sample course.shaped f.own r.shaped refused n found)
      (open_to v a 0 (size v.table)))
      (quota_reached v k a sample course.shaped f.own r.shaped refused n found) r))

  appended_recording : verdict v (k for append a sample) ≡ 0 → Recording a (xs ++ (sample ∷ [])) (effect v (k for append a sample)).drive
  unfolding effect questions
  appended_recording e =
      let f = course_fit course k in
      let id = answered_yes v (k for append a sample) 4 e in
      let w = after_freeing a sample v k.lent in
      let asked = placement_asked w k (room_fit v k f a sample id) a 0 sample (adus 1) (append_writes v k f a sample e) in
      subst (λ (l : List ℕ). Recording a (xs ++ (sample ∷ [])) (written_by_placement a 0 l w).drive) (sym (users_itself sample))
      (recording_placed (subst (λ (l : List ℕ). placing.Asked a 0 l w) (users_itself sample) asked) (room_recording id))

is_some : Option ℕ → Bool
is_some none = false
is_some (some n) = true

-- Where the placement's open block is the domain's newest, an accepted append puts its sample at the end of what is kept.
pub append_kept : (v : Drive) (k : Call) (a sample : ℕ) → Course v → has_recorder_shape (domain_at v.table a) ≡ true
    → ((n : ℕ) → open_block v.table a 0 ≡ some n → serial_at v n ≡ (domain_at v.table a).last)
    → verdict v (k for append a sample) ≡ 0
    → kept (step (k for append a sample) v) a ≡ kept (after_freeing a sample v k.lent) a ++ (sample ∷ [])
unfolding effect questions is_some
append_kept v k a sample course shaped newest e =
    let f = course_fit course k in
    let id = answered_yes v (k for append a sample) 4 e in
    let w = after_freeing a sample v k.lent in
    let asked = placement_asked w k (room_fit v k f a sample id) a 0 sample (adus 1) (append_writes v k f a sample e) in
    ap (λ (z : Drive). kept z a) (accepted_drive v (k for append a sample) e)
    ∙ subst (λ (l : List ℕ). kept (written_by_placement a 0 l w).drive a ≡ kept w a ++ (sample ∷ [])) (sym (users_itself sample))
    (kept_placed (subst (λ (l : List ℕ). placing.Asked a 0 l w) (users_itself sample) asked) (open_block w.table a 0) refl
    (room_or_not v k a sample
    (λ same. subst (λ (z : Drive). (m : ℕ) → open_block z.table a 0 ≡ some m → serial_at z m ≡ (domain_at z.table a).last) (sym same) newest)
    (λ n refused found.
    let own = (course_fit course (k asking sample_write a sample)).own in
    subst (λ (z : Drive). (m : ℕ) → open_block z.table a 0 ≡ some m → serial_at z m ≡ (domain_at z.table a).last)
    (sym (made v k a sample course.shaped own shaped refused n found))
    (λ m is. absurd (true≢false (sym (ap (λ (x : Option ℕ). is_some x)
    (sym (none_open_after v k a sample course.shaped own shaped refused n found) ∙ is))))))))

-- After an accepted append the domain is there, and has the recorder's shape.
append_shaped : (v : Drive) (k : Call) (a sample : ℕ) → Course v → verdict v (k for append a sample) ≡ 0
    → let w = step (k for append a sample) v in
    (exists w.table a ≡ true) × (has_recorder_shape (domain_at w.table a) ≡ has_recorder_shape (domain_at v.table a))
unfolding effect questions
append_shaped v k a sample course e =
    let f = course_fit course k in
    let id = answered_yes v (k for append a sample) 4 e in
    let w = after_freeing a sample v k.lent in
    let asked = placement_asked w k (room_fit v k f a sample id) a 0 sample (adus 1) (append_writes v k f a sample e) in
    let same = room_domain a sample v k.lent a in
    let placed = shape_placed (subst (λ (l : List ℕ). placing.Asked a 0 l w) (users_itself sample) asked) (open_block w.table a 0) refl in
    let is : step (k for append a sample) v ≡ (written_by_placement a 0 (sample ∷ []) w).drive =
    accepted_drive v (k for append a sample) e ∙ ap (λ (l : List ℕ). (written_by_placement a 0 l w).drive) (users_itself sample) in (
      ap (λ (z : Drive). (domain_at z.table a).exists) is ∙ placed.0 ∙ asked.exists,
      ap (λ (z : Drive). has_recorder_shape (domain_at z.table a)) is ∙ placed.1 ∙ ap (λ (d : Domain). has_recorder_shape d) same,
    )

-- ---- A pulse

pulse_is : (x : Asked) → is_pulse x ≡ true → (seconds : ℕ) × (x ≡ command (Pulse seconds))
pulse_is (command (Create d guarantee quota placements limit)) e = absurd (true≢false (sym e))
pulse_is (command (ChangeCapacity d guarantee quota)) e = absurd (true≢false (sym e))
pulse_is (command (Delete d)) e = absurd (true≢false (sym e))
pulse_is (command (Erase d n)) e = absurd (true≢false (sym e))
pulse_is (command (Close d n)) e = absurd (true≢false (sym e))
pulse_is (command (Free d n)) e = absurd (true≢false (sym e))
pulse_is (command (WriteByPlacement d p start count)) e = absurd (true≢false (sym e))
pulse_is (command (WriteByBlock d n start count)) e = absurd (true≢false (sym e))
pulse_is (command (Read d address count expected)) e = absurd (true≢false (sym e))
pulse_is (command (Page d n)) e = absurd (true≢false (sym e))
pulse_is (command (Listing d which)) e = absurd (true≢false (sym e))
pulse_is (command (Pulse seconds)) e = (seconds, refl)
pulse_is (append d sample) e = absurd (true≢false (sym e))
pulse_is (latest d count) e = absurd (true≢false (sym e))

-- What a pulse of so many seconds leaves, as it does and as it is refused.
module _ {a : ℕ} {xs : List ℕ} {v : Drive} (k : Call) (seconds : ℕ) (r : Recording a xs v) where
  abbrev pulse : Call
  pulse = k asking Pulse seconds

  pulsed_recording : expires_none a v pulse ≡ true → verdict v pulse ≡ 0 → Recording a xs (step pulse v)
  unfolding effect entries_of counted_down
  pulsed_recording none-expires e =
      recording_ticked a v (step pulse v) (ap (λ (u : Drive). u.table.config) is) (ap (λ (u : Drive). domain_at u.table a) is)
      (λ n. ap (λ (u : Drive). entries_of u n) is ∙ same_entries n)
      (λ n l. ap (λ (b : Block). held_by a b) (pulse_open v k seconds n e l) ∙ holder_same n)
      (λ n h. subst (Ticks (block_at v.table n)) (sym (pulse_open v k seconds n e h.0)) (ticks n h))
      xs r
    where
      is : step pulse v ≡ (effect v pulse).drive
      is = accepted_drive v pulse e

      same_entries : (n : ℕ) → entries_of (effect v pulse).drive n ≡ entries_of v n
      same_entries n = refl

      holder_same : (n : ℕ) → held_by a (counted_down seconds (block_at v.table n)) ≡ held_by a (block_at v.table n)
      holder_same n = ap (λ (h : ℕ). eqb h a) (counted_mild v.table seconds (block_at v.table n)).holder

      stays : (n : ℕ) → Holds a v n → is_open (block_at v.table n) ≡ true → is_open (counted_down seconds (block_at v.table n)) ≡ true
      stays n h opened =
          let b = block_at v.table n in
          let all = all_each (size v.table) (λ m. implies (open_of a (block_at v.table m)) (is_open (block_at (step pulse v).table m))) none-expires n h.0 in
          let still : is_open (block_at (step pulse v).table n) ≡ true = rw (h.1, opened) at all in
          sym (ap (λ (x : Block). is_open x) (pulse_open v k seconds n e h.0)) ∙ still

      ticks : (n : ℕ) → Holds a v n → Ticks (block_at v.table n) (counted_down seconds (block_at v.table n))
      ticks n h = ticked seconds (block_at v.table n).state (block_at v.table n) refl (λ opened. stays n h opened)

-- ---- One call, and a list of calls

-- A call of another domain appends nothing to this one.
foreign_sample : (a : ℕ) (x : Asked) → eqb (own_domain x) a ≡ false → sample_of a x ≡ []
foreign_sample a (command c) e = refl
foreign_sample a (append d sample) e = rw e
foreign_sample a (latest d count) e = refl

nothing_more : (b : Bool) (xs : List ℕ) → xs ≡ xs ++ cond b [] []
nothing_more true xs = sym (append-nil xs)
nothing_more false xs = sym (append-nil xs)

module _ {a : ℕ} (low : 1 ≤ a) {xs : List ℕ} {v : Drive} (k : Call) (course : Course v) (r : Recording a xs v) where
  -- A neighbour's call leaves it, ..
  foreign : (x : Asked) → is_pulse x ≡ false → eqb (own_domain x) a ≡ false
      → Recording a (xs ++ cond (accepted v (k for x)) (sample_of a x) []) (step (k for x) v)
  foreign x no-pulse other =
      let same = neighbour a (k for x) v low course (rw (no-pulse, other)) in
      subst (λ (l : List ℕ). Recording a l (step (k for x) v))
      (nothing_more (accepted v (k for x)) xs ∙ ap (λ (l : List ℕ). xs ++ cond (accepted v (k for x)) l []) (sym (foreign_sample a x other)))
      (recording_alike low (course_step (k for x) v course).facts same r)

  -- .. and so does a call that leaves the drive.
  idle : (x : Asked) → step (k for x) v ≡ v → cond (accepted v (k for x)) (sample_of a x) [] ≡ []
      → Recording a (xs ++ cond (accepted v (k for x)) (sample_of a x) []) (step (k for x) v)
  idle x same none-added =
      subst (Recording a (xs ++ cond (accepted v (k for x)) (sample_of a x) [])) (sym same)
      (subst (λ (l : List ℕ). Recording a l v) (sym (append-nil xs) ∙ ap (λ (l : List ℕ). xs ++ l) (sym none-added)) r)

  one_call : (x : Asked) → only_records a v (k for x) ≡ true
      → Recording a (xs ++ cond (accepted v (k for x)) (sample_of a x) []) (step (k for x) v)
  unfolding step effect
  one_call (command c) e =
      let h = both (implies (eqb (own_domain (command c)) a) false) (expires_none a v (k asking c)) e in
      by_test (is_pulse (command c))
      (λ pulse.
      let s = pulse_is (command c) pulse in
      subst (λ (x : Asked). only_records a v (k for x) ≡ true
      → Recording a (xs ++ cond (accepted v (k for x)) (sample_of a x) []) (step (k for x) v)) (sym s.1)
      (λ f. by_pulse s.0 (both (implies (eqb 0 a) false) (expires_none a v (k asking Pulse s.0)) f).1) e)
      (λ no-pulse. foreign (command c) no-pulse (not_own (eqb (own_domain (command c)) a) h.0))
    where
      not_own : (b : Bool) → implies b false ≡ true → b ≡ false
      not_own true e = absurd (true≢false (sym e))
      not_own false e = refl

      by_pulse : (seconds : ℕ) → expires_none a v (k asking Pulse seconds) ≡ true
          → Recording a (xs ++ cond (accepted v (k asking Pulse seconds)) [] []) (step (k asking Pulse seconds) v)
      by_pulse seconds f =
          subst (λ (l : List ℕ). Recording a l (step (k asking Pulse seconds) v)) (nothing_more (accepted v (k asking Pulse seconds)) xs)
          (by_test (accepted v (k asking Pulse seconds))
          (λ yes-it. pulsed_recording k seconds r f (eqb-true (verdict v (k asking Pulse seconds)) 0 yes-it))
          (λ refused. rw refused r))
  one_call (append d sample) e =
      by_test (eqb d a)
      (λ own.
      subst (λ (d : ℕ). Recording a (xs ++ cond (accepted v (k for append d sample)) (cond (eqb d a) (sample ∷ []) []) []) (step (k for append d sample) v))
      (sym (eqb-true d a own)) own_append)
      (λ other. foreign (append d sample) refl other)
    where
      own_append : Recording a (xs ++ cond (accepted v (k for append a sample)) (cond (eqb a a) (sample ∷ []) []) []) (step (k for append a sample) v)
      own_append =
          by_test (accepted v (k for append a sample))
          (λ yes-it. rw (yes-it, eq-eqb a a refl) (appended_recording k sample course r (eqb-true (verdict v (k for append a sample)) 0 yes-it)))
          (λ refused. rw (refused, append-nil) r)
  one_call (latest d count) e =
      idle (latest d count) (by_test (accepted v (k for latest d count)) (λ f. rw f) (λ f. rw f))
      (by_test (accepted v (k for latest d count)) (λ f. rw f) (λ f. rw f))

recording_list : {a : ℕ} → 1 ≤ a → (ks : List Call) {xs : List ℕ} {v : Drive} → Course v → Recording a xs v → recorder_alone a ks v ≡ true
    → Recording a (xs ++ accepted_samples a ks v) (run ks v)
unfolding recorder_alone accepted_samples run
recording_list {a} low [] {xs} {v} course r e = subst (λ (l : List ℕ). Recording a l v) (sym (append-nil xs)) r
recording_list {a} low (k ∷ ks) {xs} {v} course r e =
    let h = both (only_records a v k) (recorder_alone a ks (step k v)) e in
    let next = one_call low k course r k.asks h.0 in
    subst (λ (l : List ℕ). Recording a l (run ks (step k v)))
    (append_assoc xs (cond (accepted v k) (sample_of a k.asks) []) (accepted_samples a ks (step k v)))
    (recording_list low ks (course_step k v course) next h.1)

-- ---- From the domain's Create on

-- What Create leaves is a domain without blocks or samples.
module _ (v : Drive) (course : Course v) (k : Call) (a : ℕ) (guarantee quota : Planes) (placements limit : ℕ) where
  abbrev create : Call
  create = k asking Create a guarantee quota placements limit

  abbrev w : Drive
  w = (effect v create).drive

  created_recording : verdict v create ≡ 0 → has_recorder_shape (domain_at w.table a) ≡ true → Recording a [] w
  unfolding effect questions created_domain by_serial_to
  created_recording e shaped =
      let t = v.table in
      let id = is_between 1 16 a (answered_yes v create 4 e) in
      let r = created_domain t.config guarantee quota placements limit in
      let is : domain_at w.table a ≡ r =
      get_or-set_same t.domains (a - 1) r clear_domain (omega (arith, course.shaped.domains, id.least, id.most)) in
      let nobody : (n : ℕ) → Holds a v n → ⊥ =
      λ n h. missing_holds n h (answered_yes v create 5 e) in
      record {
        there = ap (λ (d : Domain). d.exists) is;
        shaped = shaped;
        each = λ n h. absurd (nobody n h);
        dropped = [];
        all = sym (ap (λ (d : Domain). by_serial_to (written_in w) w.table a d.last) is);
        enough = λ some-dropped. absurd (omega (arith, some-dropped));
      }
    where
      missing_holds : (n : ℕ) → Holds a v n → not (exists v.table a) ≡ true → ⊥
      missing_holds n h missing =
          let o = held_owned v a n course.facts (is_between 1 16 a (answered_yes v create 4 e)).least h.0 h.1 in
          let there : exists v.table a ≡ true =
          subst (λ (d : ℕ). (domain_at v.table d).exists ≡ true) (eqb-true (block_at v.table n).holder a h.1) o.exists in
          true≢false (sym missing ∙ ap (λ (b : Bool). not b) there)

  pub retention : verdict v create ≡ 0 → has_recorder_shape (domain_at (step create v).table a) ≡ true
      → (ks : List Call) → recorder_alone a ks (step create v) ≡ true → Retains a ks (step create v)
  unfolding questions
  retention e shaped ks alone =
      let low = (is_between 1 16 a (answered_yes v create 4 e)).least in
      let is = accepted_drive v create e in
      let begin : Recording a [] (step create v) =
      subst (Recording a []) (sym is) (created_recording e (subst (λ (u : Drive). has_recorder_shape (domain_at u.table a) ≡ true) is shaped)) in
      let r = recording_list low ks (course_step create v course) begin alone in
      subst (λ (l : List ℕ). EndsWith (kept (run ks (step create v)) a) (last_of (retained a (run ks (step create v))) l)) (sym r.all)
      (ends_with (retained a (run ks (step create v))) r.dropped (kept (run ks (step create v)) a) r.enough)

-- ---- Reading

-- A drive of which an append is accepted has a sound table and a whole store.
pub append_course : (v : Drive) (k : Call) (d sample : ℕ) → Shaped v.table → length v.store ≡ (store_length v.table.config).0
    → verdict v (k for append d sample) ≡ 0 → Course v
unfolding questions
append_course v k d sample shape whole e =
    record { facts = facts_of v (answered_yes v (k for append d sample) 2 e); shaped = shape; store = whole }

pub latest_leaves : (v : Drive) (k : Call) (d : ℕ) (count : Adus) → verdict v (k for latest d count) ≡ 0 → step (k for latest d count) v ≡ v
unfolding effect
latest_leaves v k d count e = accepted_drive v (k for latest d count) e

pub latest_filled : (v : Drive) (k : Call) (d : ℕ) (count : Adus) → verdict v (k for latest d count) ≡ 0
    → words_filled v (k for latest d count) ≡ last_of count.0 (kept v d)
unfolding words_filled effect
latest_filled v k d count e = rw e

pub latest_many : (v : Drive) (k : Call) (d : ℕ) (count : Adus) → verdict v (k for latest d count) ≡ 0
    → length (words_filled v (k for latest d count)) ≡ count.0
unfolding questions
latest_many v k d count e =
    ap length (latest_filled v k d count e)
    ∙ length-drop (length (kept v d) - count.0) (kept v d)
    ∙ omega (arith, leb-true count.0 (length (kept v d)) (answered_yes v (k for latest d count) 15 e))

-- The last one of a list with one more at its end.
pub last_one : (xs ys : List ℕ) (x : ℕ) → xs ≡ ys ++ (x ∷ []) → last_of 1 xs ≡ x ∷ []
last_one xs ys x e =
    let cut : length (ys ++ (x ∷ [])) - 1 ≡ length ys = omega (arith, length-append ys (x ∷ [])) in
    ap (λ (l : List ℕ). last_of 1 l) e ∙ ap (λ (i : ℕ). drop i (ys ++ (x ∷ []))) cut ∙ drop-append_seam ys (x ∷ [])

-- An accepted append fills in one word, as its write does.
pub append_words : (v : Drive) (k : Call) → Shaped v.table → LentOwn v k → (d sample : ℕ) → verdict v (k for append d sample) ≡ 0
    → length (words_filled v (k for append d sample)) ≡ 1
unfolding questions effect words_filled
append_words v k shape own d sample e =
    let fit : Fit v k = record { facts = facts_of v (answered_yes v (k for append d sample) 2 e); shaped = shape; own = own } in
    let id = answered_yes v (k for append d sample) 4 e in
    let w = after_freeing d sample v k.lent in
    let asked = placement_asked w k (room_fit v k fit d sample id) d 0 sample (adus 1) (append_writes v k fit d sample e) in
    rw e ((placing.placement_all asked).0 ∙ length_row (user_address sample) 1)

-- Reading one sample after an accepted append is accepted, if the store and a word are lent.
pub latest_accepted : (v : Drive) (k l : Call) (d sample : ℕ) → Course v → has_recorder_shape (domain_at v.table d) ≡ true
    → ((n : ℕ) → open_block v.table d 0 ≡ some n → serial_at v n ≡ (domain_at v.table d).last)
    → verdict v (k for append d sample) ≡ 0
    → l.lent.store ≡ (store_length v.table.config).0
    → 1 ≤ l.lent.words
    → verdict (step (k for append d sample) v) (l for latest d (adus 1)) ≡ 0
unfolding questions first_no
latest_accepted v k l d sample course shaped newest e whole words =
    let add = k for append d sample in
    let w = step add v in
    let shape = append_shaped v k d sample course e in
    let is_sound = facts_sound w (course_step add v course).facts in
    let fits : eqb l.lent.store (store_length w.table.config).0 ≡ true =
    eq-eqb l.lent.store (store_length w.table.config).0
    (whole ∙ ap (λ (c : Config). (store_length c).0) (sym (call_sequel v add (course_fit course add)).config)) in
    let id = answered_yes v add 4 e in
    let enough : leb 1 (length (kept w d)) ≡ true =
    le-leb 1 (length (kept w d)) (omega (
      arith,
      ap length (append_kept v k d sample course shaped newest e),
      length-append (kept (after_freeing d sample v k.lent) d) (sample ∷ []),
    )) in
    rw (is_sound, fits, id, shape.0, shape.1 ∙ shaped, le-leb 1 l.lent.words words, enough)

-- The flash address of an accepted append holds its sample.
pub append_found : (v : Drive) (k : Call) (d sample : ℕ) → Course v → verdict v (k for append d sample) ≡ 0
    → Found (step (k for append d sample) v) (words_filled v (k for append d sample)) (sample ∷ [])
unfolding effect words_filled questions
append_found v k d sample course e =
    let add = k for append d sample in
    let write = k asking sample_write d sample in
    let f = course_fit course k in
    let w = after_freeing d sample v k.lent in
    let same = room_same d sample v k.lent in
    let accepted-write = append_writes v k f d sample e in
    let fits = eqb-true k.lent.store (store_length v.table.config).0 (answered_yes v add 3 e) in
    let own : length w.store ≡ k.lent.store = ap length same.store ∙ course.store ∙ sym fits in
    let fit = room_fit v k f d sample (answered_yes v add 4 e) in
    let whole : size w.table ≤ length w.table.blocks = fit_blocks fit in
    let left : step add v ≡ step write w = accepted_drive v add e ∙ sym (accepted_drive w write accepted-write) in
    let filled : words_filled v add ≡ words_filled w write = rw (e, accepted-write) in
    subst (λ (users : List ℕ). Found (step add v) (words_filled v add) users) (users_itself sample)
    (subst (λ (u : Drive). Found u (words_filled v add) (user_addresses sample 1)) (sym left)
    (subst (λ (l : List ℕ). Found (step write w) l (user_addresses sample 1)) (sym filled)
    (placement_found w k whole own d 0 sample (adus 1) accepted-write)))
