-- What an append is, in terms of the manager's commands: the write; or, where that gets 13, a Free and then the write, which is never
-- refused.
use Prim.Native.Nat.{ℕ, zero, suc, ◌+◌, ◌-◌, ◌/◌, ◌≤◌, ◌<◌}
use mathlib.Core.Bool.{Bool, true, false, true≢false}
use mathlib.Core.List.{List, [], ◌∷◌, ◌++◌}
use mathlib.Core.Option.{Option, none, some}
use mathlib.Core.Path.{◌≡◌, refl, sym, ap, ◌∙◌, subst}
use native.Mathlib.Omega.{arith}
use lib.Dec.{eqb, leb, ltb}
use borrow.Author.Tests.{eq-eqb, eqb-true, le-leb, leb-false, lt-ltb, ne_eqb}
use Rattle.geometry.proofs.Laws.Shape.{both, by_test, is_between, limits}
use Rattle.geometry.specs.Address.{is_domain_id}
use Rattle.geometry.specs.Questions.{Question, ask, first_no}
use Rattle.geometry.specs.Shape.{adus, adus_per_block, store_length}
use Rattle.model.specs.declared.block.Block.{Block}
use Rattle.model.specs.declared.block.State.{State}
use Rattle.model.specs.declared.block.State.TheVariants as state
use Rattle.model.specs.declared.command.Command.TheVariants.{Free}
use Rattle.model.specs.declared.table.Table.{Table}
use Rattle.rules.specs.Blocks.{new_blocks}
use Rattle.rules.specs.Calls.{Call, ◌asking◌, ◌for◌, append}
use Rattle.rules.specs.Claims.{LentOwn, Likewise, Oldest, Shaped}
use Rattle.rules.specs.Drive.{Drive, block_at, domain_at, held_by, held_count, is_closed, is_open_for, open_block, open_count, size}
use Rattle.rules.specs.Effects.{effect, questions, step, verdict}
use Rattle.rules.specs.Observation.{holding_at}
use Rattle.rules.specs.Questions.{covered_after, exists, first_questions, is_count, may_open_for, serials_left, store_fits, user_addresses_fit, within_quota}
use Rattle.rules.specs.Recorder.{freed_if_any, gets_thirteen, has_recorder_shape, oldest_closed, sample_write, after_freeing}
use Rattle.rules.specs.Soundness.{sound}
use Rattle.rules.proofs.Counting.{by_eq}
use Rattle.rules.proofs.Effects.{accepted_drive}
use Rattle.rules.proofs.Kept.Calls.{Course}
use Rattle.rules.proofs.Kept.Changes.{HeldBlock, freed_changed, freed_not_held, freed_sequel}
use Rattle.rules.proofs.Kept.Fit.{Fit}
use Rattle.rules.proofs.Kept.Onwards.{OpenTo, Takes, open_to, takes, takes_some}
use Rattle.rules.proofs.Kept.Placement.{open_written}
use Rattle.rules.proofs.Kept.Recorder.{oldest_held}
use Rattle.rules.proofs.Kept.Tested.{facts_of, facts_sound}
use Rattle.rules.proofs.Kept.Views.{held_view, if_open, one, open_view, view_changed}
use Rattle.rules.proofs.Noninterference.Common.{reserved_covers}
use Rattle.rules.proofs.Noninterference.Requests.{before_no}
use Rattle.rules.proofs.Questions.{answered_yes}
use Rattle.rules.proofs.Recorder.{OldestOf, oldest}

-- What is asked behind a no does not matter.
pub no_further : (n : ℕ) (qs rs : List Question) → first_no (qs ++ (ask n false ∷ rs)) ≡ first_no (qs ++ (ask n false ∷ []))
unfolding first_no
no_further n [] rs = refl
no_further n (q ∷ qs) rs = by_test q.holds (λ e. rw e (no_further n qs rs)) (λ e. rw e)

-- The last question with a number that is the first no's is answered no.
last_no : (n m : ℕ) (b : Bool) (qs : List Question) → ¬ (first_no qs ≡ n) → first_no (ask n b ∷ qs) ≡ n → b ≡ false
unfolding first_no
last_no n m true qs other e = absurd (other e)
last_no n m false qs other e = refl

one_no : (n m : ℕ) (b : Bool) → 1 ≤ m → ¬ (n ≡ m) → ¬ (first_no (ask n b ∷ []) ≡ m)
unfolding first_no
one_no n m true l other e = omega (arith, l, e)
one_no n m false l other e = other e

-- One ADU takes one block, and none takes none.
pub none_takes : (c k : ℕ) → Takes c k 0 → k ≡ 0
none_takes c zero t = refl
none_takes c (suc k) t = absurd (omega (arith, takes_some c (suc k) 0 (omega arith) t))

pub one_takes : (c k : ℕ) → 0 < c → Takes c k 1 → k ≡ 1
one_takes c zero p t = absurd (omega (arith, t))
one_takes c (suc zero) p t = refl
one_takes c (suc (suc k)) p t = absurd (omega (arith, t.0, p))

module _ (v : Drive) (k : Call) (d sample : ℕ) where
  abbrev write : Call
  write = k asking sample_write d sample

  abbrev add : Call
  add = k for append d sample

  abbrev t : Table
  t = v.table

  thirteen : gets_thirteen d sample v k.lent ≡ eqb (verdict v write) 13
  unfolding questions
  thirteen = refl

  -- ---- No room is made

  unmade : ¬ (verdict v write ≡ 13) → after_freeing d sample v k.lent ≡ v
  unfolding after_freeing
  unmade other = rw (thirteen ∙ ne_eqb (verdict v write) 13 other)

  nothing_freed : oldest_closed t d ≡ none → after_freeing d sample v k.lent ≡ v
  unfolding after_freeing
  nothing_freed e = by_test (gets_thirteen d sample v k.lent) (λ f. rw (f, e)) (λ f. rw f)

  -- The append is then the write, with the shape asked in 6.
  as_write : after_freeing d sample v k.lent ≡ v → has_recorder_shape (domain_at t d) ≡ true → Likewise v add v write
  unfolding questions effect
  as_write same shaped = record { same_verdict = rw (same, shaped); same_effect = rw same }

  -- A domain of another shape is told by 6, if not by an earlier question.
  pub another_shape : has_recorder_shape (domain_at t d) ≡ false → verdict v add ≡ first_no (first_questions v add ++ (ask 6 false ∷ []))
  unfolding questions
  another_shape e = rw e (no_further 6 (first_questions v add) _)

  -- Where the write does not get 13, or no block is Closed, the append is answered and done like the write.
  pub written_at_once : has_recorder_shape (domain_at t d) ≡ true → ¬ (verdict v write ≡ 13) → Likewise v add v write
  written_at_once shaped other = as_write (unmade other) shaped

  pub none_to_free : has_recorder_shape (domain_at t d) ≡ true → oldest_closed t d ≡ none → Likewise v add v write
  none_to_free shaped e = as_write (nothing_freed e) shaped

  -- ---- Room is made

  -- No room is made, or the oldest Closed block is freed because the write gets 13.
  pub room_or_not : {P : Type 0} → (after_freeing d sample v k.lent ≡ v → P) → ((n : ℕ) → verdict v write ≡ 13 → oldest_closed t d ≡ some n → P) → P
  room_or_not {P} same freed =
      by_eq (verdict v write) 13 (λ e. found (oldest_closed t d) refl e) (λ other. same (unmade other))
    where
      found : (x : Option ℕ) → oldest_closed t d ≡ x → verdict v write ≡ 13 → P
      found none e f = same (nothing_freed e)
      found (some n) e f = freed n f e

  -- What a write that gets 13 was asked before.
  pub record AskedFirst : Type 0 where
    pub is_sound : sound t ≡ true
    pub fits : store_fits t write ≡ true
    pub id : is_domain_id d ≡ true
    pub there : exists t d ≡ true
    pub placed : ltb 0 (domain_at t d).placements ≡ true
    pub room_lent : leb 1 k.lent.words ≡ true
    pub user : user_addresses_fit sample 1 ≡ true
    pub may_open_lem : may_open_for (open_block t d 0) t d ≡ true
    pub serials : serials_left t d (new_blocks t d 0 1) ≡ true
    pub over : within_quota t d (new_blocks t d 0 1) ≡ false

  pub asked_first : verdict v write ≡ 13 → AskedFirst
  unfolding questions
  asked_first e =
      let x2 = before_no 2 13 _ _ (λ z. absurd (omega (arith, z))) e in
      let x3 = before_no 3 13 _ _ (λ z. absurd (omega (arith, z))) x2.1 in
      let x4 = before_no 4 13 _ _ (λ z. absurd (omega (arith, z))) x3.1 in
      let x5 = before_no 5 13 _ _ (λ z. absurd (omega (arith, z))) x4.1 in
      let x6 = before_no 6 13 _ _ (λ z. absurd (omega (arith, z))) x5.1 in
      let x7 = before_no 7 13 _ _ (λ z. absurd (omega (arith, z))) x6.1 in
      let x8 = before_no 8 13 _ _ (λ z. absurd (omega (arith, z))) x7.1 in
      let x11 = before_no 11 13 _ _ (λ z. absurd (omega (arith, z))) x8.1 in
      let x12 = before_no 12 13 _ _ (λ z. absurd (omega (arith, z))) x11.1 in
      record {
        is_sound = x2.0;
        fits = x3.0;
        id = x4.0;
        there = x5.0;
        placed = (both _ (is_count (adus 1)) x6.0).0;
        room_lent = x7.0;
        user = x8.0;
        may_open_lem = x11.0;
        serials = x12.0;
        over = last_no 13 0 _ _ (one_no 14 13 _ (omega arith) (λ z. absurd (omega (arith, z)))) x12.1;
      }

  module _ (shape : Shaped t) (own : LentOwn v write) (shaped : has_recorder_shape (domain_at t d) ≡ true) (refused : verdict v write ≡ 13)
      (n : ℕ) (found : oldest_closed t d ≡ some n) where
    abbrev w : Drive
    w = freed_if_any (some n) v

    asks : AskedFirst
    asks = asked_first refused

    pub fit : Fit v write
    fit = record { facts = facts_of v asks.is_sound; shaped = shape; own = own }

    pub is_oldest : Oldest t d (size t) n
    is_oldest = subst (OldestOf t d (size t)) found (oldest t d (size t))

    pub held : HeldBlock d n v
    held = oldest_held v write fit d n asks.id is_oldest

    shut : is_closed (block_at t n) ≡ true
    shut = (both (held_by d (block_at t n)) (is_closed (block_at t n)) is_oldest.closed).1

    low : 1 ≤ d
    low = (is_between 1 16 d asks.id).least

    -- The domain holds one block less, and has as many open.
    one_less : held_count w.table d + 1 ≡ held_count t d
    one_less =
        let x = view_changed (freed_changed held) one d in
        omega (arith, held_view v d, held_view w d, rw (held.held, freed_not_held held) at x)

    not_counted : (s : State) (b : Block) → b.state ≡ s → is_closed b ≡ true → if_open (record { serial = b.serial; state = b.state; written = b.written.0; left = b.left; entries = [] }) ≡ 0
    not_counted state.Free b e f = rw e
    not_counted (state.Open way) b e f = absurd (true≢false (sym f ∙ rw e))
    not_counted (state.Closed way) b e f = rw e

    as_many_open : open_count w.table d ≡ open_count t d
    as_many_open =
        let x = view_changed (freed_changed held) if_open d in
        let zero_there : if_open (holding_at v n) ≡ 0 = not_counted (block_at t n).state (block_at t n) refl shut in
        omega (arith, open_view v d, open_view w d, zero_there, rw (held.held, freed_not_held held) at x)

    -- The placement has no open block, since one would have room; and so it is after the freeing.
    some_adus : 0 < (adus_per_block t.config).0
    some_adus = omega (arith, (limits t.config fit.facts.limits).adus)

    full_none : (x : Option ℕ) → OpenTo v d 0 (size t) x → open_block t d 0 ≡ x → x ≡ none
    unfolding new_blocks
    full_none none o e = refl
    full_none (some m) o e =
        let c = (adus_per_block t.config).0 in
        let b = block_at t m in
        let roomy = open_written t b.state b 0 o.2 (fit.facts.blocks m o.0) in
        let none_new : new_blocks t d 0 1 ≡ 0 =
        rw e (ap (λ (x : ℕ). (x + (c - 1)) / c) (omega (arith, roomy)) ∙ none_takes c ((0 + (c - 1)) / c) (takes c 0 some_adus)) in
        let within : within_quota t d (new_blocks t d 0 1) ≡ true =
        rw none_new (le-leb (held_count t d + 0) (domain_at t d).quota
        (omega (arith, (fit.facts.domains d low (is_between 1 16 d asks.id).most).within))) in
        absurd (true≢false (sym within ∙ asks.over))

    pub none_open : open_block t d 0 ≡ none
    none_open = full_none (open_block t d 0) (open_to v d 0 (size t)) refl

    still_none : (x : Option ℕ) → OpenTo w d 0 (size t) x → x ≡ none
    still_none none o = refl
    still_none (some m) o =
        by_eq m n
        (λ same. absurd (true≢false (sym o.1 ∙ subst (λ (i : ℕ). held_by d (block_at w.table i) ≡ false) (sym same) (freed_not_held held))))
        (λ other.
        let stays : block_at w.table m ≡ block_at t m = (freed_changed held).blocks m other in
        let there = subst (OpenTo v d 0 (size t)) none_open (open_to v d 0 (size t)) in
        absurd (true≢false
        (sym (subst (λ (b : Block). is_open_for 0 b ≡ true) stays o.2)
        ∙ there m o.0 (subst (λ (b : Block). held_by d b ≡ true) stays o.1))))

    pub none_open_after : open_block w.table d 0 ≡ none
    none_open_after = still_none (open_block w.table d 0) (open_to w d 0 (size t))

    one_new : (u : Drive) → u.table.config ≡ t.config → open_block u.table d 0 ≡ none → new_blocks u.table d 0 1 ≡ 1
    unfolding new_blocks
    one_new u config e =
        let c = (adus_per_block t.config).0 in
        rw (e, config) (one_takes c ((1 + (c - 1)) / c) some_adus (takes c 1 some_adus))

    course : Course w
    course =
        let s = (freed_sequel held fit.facts).sequel in
        record {
          facts = s.facts;
          shaped = record { domains = s.domains ∙ shape.domains; blocks = s.blocks ∙ shape.blocks };
          store = own (eqb-true k.lent.store (store_length t.config).0 asks.fits);
        }

    reserves : (reserved quota placements : ℕ) → has_recorder_shape (record { exists = true; reserved = reserved; quota = quota; placements = placements; limit = 0; last = 0 }) ≡ true → eqb reserved quota ≡ true
    reserves reserved quota placements e = (both (eqb placements 1) (eqb reserved quota) (both _ (leb 2 quota) e).0).1

    -- The domain holds as many blocks as its quota.
    pub quota_reached : (domain_at t d).quota ≤ held_count t d
    quota_reached =
        let over : leb (held_count t d + 1) (domain_at t d).quota ≡ false = rw (one_new v refl none_open) at asks.over in
        omega (arith, leb-false (held_count t d + 1) (domain_at t d).quota over)

    -- The write after the freeing is never refused.
    pub never_refused : verdict w write ≡ 0
    unfolding questions first_no
    never_refused =
        let new : new_blocks w.table d 0 1 ≡ 1 = one_new w refl none_open_after in
        let y2 : sound w.table ≡ true = facts_sound w course.facts in
        let y11 : may_open_for (open_block w.table d 0) w.table d ≡ true =
        rw none_open_after (ap (λ (x : ℕ). ltb x (domain_at t d).limit) as_many_open ∙ (rw none_open at asks.may_open_lem)) in
        let y12 : serials_left w.table d (new_blocks w.table d 0 1) ≡ true =
        rw (new ∙ sym (one_new v refl none_open)) asks.serials in
        let y13 : within_quota w.table d (new_blocks w.table d 0 1) ≡ true =
        rw new (le-leb (held_count w.table d + 1) (domain_at t d).quota
        (omega (arith, one_less, (fit.facts.domains d low (is_between 1 16 d asks.id).most).within))) in
        let r = domain_at t d in
        let all : eqb r.reserved r.quota ≡ true = reserves r.reserved r.quota r.placements shaped in
        let y14 : covered_after w.table d (new_blocks w.table d 0 1) ≡ true =
        reserved_covers d (new_blocks w.table d 0 1) w course (rw asks.there all) asks.there y13 in
        rw (y2, asks.fits, asks.id, asks.there, asks.placed, asks.room_lent, asks.user, y11, y12, y13, y14)

    -- So room is made, and the append is that write.
    pub made : after_freeing d sample v k.lent ≡ w
    unfolding after_freeing
    made = rw (thirteen ∙ eq-eqb (verdict v write) 13 refused, found)

    pub append_accepted : verdict v add ≡ 0
    unfolding questions first_no
    append_accepted =
        let y11 : may_open_for (open_block w.table d 0) w.table d ≡ true = answered_yes w write 11 never_refused in
        let y12 : serials_left w.table d (new_blocks w.table d 0 1) ≡ true = answered_yes w write 12 never_refused in
        let y13 : within_quota w.table d (new_blocks w.table d 0 1) ≡ true = answered_yes w write 13 never_refused in
        let y14 : covered_after w.table d (new_blocks w.table d 0 1) ≡ true = answered_yes w write 14 never_refused in
        rw (made, asks.is_sound, asks.fits, asks.id, asks.there, shaped, asks.placed, asks.room_lent, asks.user, y11, y12, y13, y14)

    pub append_writes_then : effect v add ≡ effect w write
    unfolding effect
    append_writes_then = rw made

    -- The Free is accepted, too, and leaves the drive with room.
    pub free_accepted : verdict v (k asking Free d n) ≡ 0
    unfolding questions first_no
    free_accepted = rw (asks.is_sound, asks.id, asks.there, lt-ltb n (size t) is_oldest.inside, held.held)

    pub free_leaves : step (k asking Free d n) v ≡ w
    unfolding effect
    free_leaves = accepted_drive v (k asking Free d n) free_accepted

    pub freed_and_written : Oldest t d (size t) n
        × (verdict v (k asking Free d n) ≡ 0)
        × (verdict (step (k asking Free d n) v) write ≡ 0)
        × Likewise v add (step (k asking Free d n) v) write
    freed_and_written = (
      is_oldest,
      free_accepted,
      subst (λ (u : Drive). verdict u write ≡ 0) (sym free_leaves) never_refused,
      subst (λ (u : Drive). Likewise v add u write) (sym free_leaves)
          (record { same_verdict = append_accepted ∙ sym never_refused; same_effect = append_writes_then }),
    )
