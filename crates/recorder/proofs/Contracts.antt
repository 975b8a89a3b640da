-- From the commands that are served, one after the other, to what the rules say of an append and of a reading.
use Prim.Native.Nat.{ℕ, ◌≤◌}
use mathlib.Core.Bool.{Bool, true, false, true≢false, ◌&&◌, cond}
use mathlib.Core.List.{List, [], ◌∷◌, ◌++◌}
use mathlib.Core.Logic.{◌⊎◌, inl, inr}
use mathlib.Core.Option.{Option, none, some}
use mathlib.Core.Path.{◌≡◌, refl, sym, ap, ap₂, ◌∙◌, subst}
use native.Mathlib.Omega.{arith}
use lib.Dec.{eqb, ltb}
use lib.ListN.{length}
use borrow.Author.Tests.{eq-eqb, eqb-false, eqb-true, ltb-true, ne_eqb}
use Rattle.geometry.proofs.Laws.Questions.{answered_number}
use Rattle.geometry.proofs.Laws.Shape.{by_test}
use Rattle.geometry.specs.Address.{is_domain_id}
use Rattle.geometry.specs.Questions.{Outcome, Question, answered, ask, first_no, refusal}
use Rattle.geometry.specs.Shape.{adus, store_length}
use Rattle.geometry.specs.declared.shape.Adus.{Adus}
use Rattle.model.specs.Answers.{number_of, outcome_of}
use Rattle.model.specs.declared.answer.Answer.{Answer}
use Rattle.model.specs.declared.answer.Answer.TheVariants.{Block, Done, Refused}
use Rattle.model.specs.declared.command.Command.{Command}
use Rattle.model.specs.declared.command.Command.TheVariants.{Free, WriteByPlacement}
use Rattle.model.specs.declared.table.Table.{Table}
use Rattle.recorder.specs.Samples.{freeing, is_out_of_range, is_over_quota, is_refused_with, no_samples, number_or, sample_command}
use Rattle.recorder.specs.Steps.{Again, Appends, Given, Latest, Readable, ServesWords, again, at_once, given, refused}
use Rattle.rules.proofs.Recorder.{OldestOf, oldest}
use Rattle.rules.specs.Calls.{Call, ◌asking◌, append, calling, calling_for, latest, lending, no_bytes, profile_of}
use Rattle.rules.specs.Claims.{Likewise, Shaped}
use Rattle.rules.specs.Drive.{Drive, domain_at, overwritten, size}
use Rattle.rules.specs.Effects.{Served, Serves, accepted, bytes_filled, effect, questions, step, verdict, words_filled}
use Rattle.rules.specs.Questions.{exists, is_count, store_fits}
use Rattle.rules.specs.Soundness.{sound}
use Rattle.rules.specs.Recorder.{has_recorder_shape, latest_questions, oldest_closed, sample_write}
use Rattle.rules.proofs.Claims as claims
use Rattle.rules.proofs.Drive.{overwritten_nothing}
use Rattle.rules.proofs.Appending.{asked_first, no_further}
use Rattle.rules.proofs.Effects.{accepted_drive, fills_no_bytes, refused_unchanged}
use Rattle.rules.proofs.Kept.OneBlock.{few_blocks}
use Rattle.rules.proofs.Kept.Tested.{facts_of}
use Rattle.rules.proofs.Noninterference.Requests.{before_no}
use Rattle.rules.proofs.Questions.{answered_yes}
use Rattle.tables.specs.Serving.{ServesFor, drive, served}
use Rattle.tables.specs.declared.served.Served as both-types

-- ---- Answers

-- A refusal by its number.
number_is : (a : Answer) (n : ℕ) → is_refused_with n a ≡ true → (outcome_of a).number ≡ n
number_is Done n e = absurd (true≢false (sym e))
number_is (Block block) n e = absurd (true≢false (sym e))
number_is (Refused reason) n e = eqb-true (number_of reason) n e

number_is_not : (a : Answer) (n : ℕ) → 1 ≤ n → is_refused_with n a ≡ false → ¬ ((outcome_of a).number ≡ n)
number_is_not Done n l e f = omega (arith, f, l)
number_is_not (Block block) n l e f = omega (arith, f, l)
number_is_not (Refused reason) n l e f = eqb-false (number_of reason) n e f

-- The number of what is answered is the first no's.
verdict_is : (v : Drive) (k : Call) (words bytes : List ℕ) (r : Served) → Serves v k words bytes r → r.answer.number ≡ verdict v k
verdict_is v k words bytes r s = ap (λ (o : Outcome). o.number) s.answers ∙ answered_number (questions v k) (effect v k).values

-- ---- One call that is served like another

-- A kind that fills no bytes leaves none as they were.
none_shown : (v : Drive) (k : Call) → (profile_of k.asks).bytes ≡ no_bytes → [] ≡ overwritten 0 (bytes_filled v k) []
none_shown v k none-due =
    sym (overwritten_nothing []) ∙ ap (λ (x : List ℕ). overwritten 0 x []) (sym (fills_no_bytes v k none-due))

same_answer : (qs rs : List Question) (values : List ℕ) → first_no qs ≡ first_no rs → answered qs values ≡ answered rs values
unfolding answered
same_answer qs rs values e = rw e

module _ (v w : Drive) (k l : Call) (none-k : (profile_of k.asks).bytes ≡ no_bytes) (none-l : (profile_of l.asks).bytes ≡ no_bytes)
    (same : Likewise v k w l) (words : List ℕ) (r : Served) (s : Serves w l words [] r) where
  both_accepted : accepted v k ≡ accepted w l
  both_accepted = ap (λ (n : ℕ). eqb n 0) same.same_verdict

  -- The refusals must leave the same drive.
  serves_like : (¬ (verdict w l ≡ 0) → w ≡ v) → Serves v k words [] r
  unfolding step words_filled
  serves_like refused-same =
      record {
        answers =
            s.answers ∙ same_answer (questions w l) (questions v k) (effect w l).values (sym same.same_verdict)
            ∙ ap (λ (x : List ℕ). answered (questions v k) x) (ap (λ x. x.values) (sym same.same_effect));
        leaves = s.leaves ∙ drives;
        fills_words = s.fills_words ∙ filled_words;
        fills_bytes = s.fills_bytes ∙ ap (λ (x : List ℕ). overwritten 0 x []) (fills_no_bytes w l none-l ∙ sym (fills_no_bytes v k none-k));
      }
    where
      drives : step l w ≡ step k v
      drives =
          by_test (accepted w l)
          (λ e. rw (e, both_accepted ∙ e) (ap (λ x. x.drive) (sym same.same_effect)))
          (λ e. rw (e, both_accepted ∙ e) (refused-same (eqb-false (verdict w l) 0 e)))

      filled_words : overwritten 0 (words_filled w l) words ≡ overwritten 0 (words_filled v k) words
      filled_words =
          by_test (accepted w l)
          (λ e. rw (e, both_accepted ∙ e) (ap (λ x. overwritten 0 x.words words) (sym same.same_effect)))
          (λ e. rw (e, both_accepted ∙ e))

-- ---- A write of nothing, and a domain of another shape

-- The numbers of the first questions are 2 to 5, and 6 is answered no.
module _ (b2 b3 b4 b5 : Bool) where
  abbrev refusing : List Question
  refusing = ask 2 b2 ∷ ask 3 b3 ∷ ask 4 b4 ∷ ask 5 b5 ∷ ask 6 false ∷ []

  from_two_to_six : (2 ≤ first_no refusing) × (first_no refusing ≤ 6)
  unfolding first_no
  from_two_to_six =
      by_test b2
      (λ e. rw e (by_test b3
      (λ f. rw f (by_test b4
      (λ g. rw g (by_test b5 (λ h. rw h (omega arith, omega arith)) (λ h. rw h (omega arith, omega arith))))
      (λ g. rw g (omega arith, omega arith))))
      (λ f. rw f (omega arith, omega arith))))
      (λ e. rw e (omega arith, omega arith))

  -- It is 6 only where the others are answered yes.
  all_four : first_no refusing ≡ 6 → (b2 ≡ true) × (b3 ≡ true) × (b4 ≡ true) × (b5 ≡ true)
  unfolding first_no
  all_four e =
      let x2 = before_no 2 6 b2 (ask 3 b3 ∷ ask 4 b4 ∷ ask 5 b5 ∷ ask 6 false ∷ []) (λ z. absurd (omega (arith, z))) e in
      let x3 = before_no 3 6 b3 (ask 4 b4 ∷ ask 5 b5 ∷ ask 6 false ∷ []) (λ z. absurd (omega (arith, z))) x2.1 in
      let x4 = before_no 4 6 b4 (ask 5 b5 ∷ ask 6 false ∷ []) (λ z. absurd (omega (arith, z))) x3.1 in
      let x5 = before_no 5 6 b5 (ask 6 false ∷ []) (λ z. absurd (omega (arith, z))) x4.1 in
      (x2.0, x3.0, x4.0, x5.0)

-- Where all four are answered yes, the first no is a later one.
passed_four : (b2 b3 b4 b5 : Bool) (rs : List Question) → b2 ≡ true → b3 ≡ true → b4 ≡ true → b5 ≡ true
    → first_no (ask 2 b2 ∷ ask 3 b3 ∷ ask 4 b4 ∷ ask 5 b5 ∷ rs) ≡ first_no rs
unfolding first_no
passed_four b2 b3 b4 b5 rs e f g h = rw (e, f, g, h)

-- A write of nothing is asked 2 to 5, and then refused by 6.
module _ (v : Drive) (k : Call) (d start : ℕ) where
  abbrev nothing : Call
  nothing = k asking WriteByPlacement d 0 start (adus 0)

  nothing_verdict : verdict v nothing ≡ first_no (refusing (sound v.table) (store_fits v.table nothing) (is_domain_id d) (exists v.table d))
  unfolding questions
  nothing_verdict =
      let six : true && ltb 0 (domain_at v.table d).placements && is_count (adus 0) ≡ false = never (ltb 0 (domain_at v.table d).placements) in
      rw six (no_further 6 (ask 2 (sound v.table) ∷ ask 3 (store_fits v.table nothing) ∷ ask 4 (is_domain_id d) ∷ ask 5 (exists v.table d) ∷ []) _)
    where
      never : (b : Bool) → true && b && is_count (adus 0) ≡ false
      never true = refl
      never false = refl

  -- So it never gets 13, and is never accepted.
  never_thirteen : ¬ (verdict v nothing ≡ 13)
  never_thirteen e =
      let x = from_two_to_six (sound v.table) (store_fits v.table nothing) (is_domain_id d) (exists v.table d) in
      omega (arith, e, nothing_verdict, x.1)

  never_accepted : ¬ (verdict v nothing ≡ 0)
  never_accepted e =
      let x = from_two_to_six (sound v.table) (store_fits v.table nothing) (is_domain_id d) (exists v.table d) in
      omega (arith, e, nothing_verdict, x.0)

-- ---- Free, as the recorder uses it

-- A write that gets 13 finds a sound table and an existing domain.
asked_sound : (v : Drive) (k : Call) (d sample : ℕ) → verdict v (k asking sample_write d sample) ≡ 13
    → (sound v.table ≡ true) × (is_domain_id d ≡ true) × (exists v.table d ≡ true)
asked_sound v k d sample e = let a = asked_first v k d sample e in (a.is_sound, a.id, a.there)

-- Free of a number that no drive has is refused, ..
no_such_block : (v : Drive) (k : Call) (d : ℕ) → (sound v.table ≡ true) × (is_domain_id d ≡ true) × (exists v.table d ≡ true)
    → ¬ (verdict v (k asking Free d 18446744073709551615) ≡ 0)
unfolding questions
no_such_block v k d a e =
    let inside = ltb-true 18446744073709551615 v.table.config.blocks (answered_yes v (k asking Free d 18446744073709551615) 6 e) in
    omega (arith, inside, few_blocks (facts_of v a.0))

-- .. and an accepted one leaves the store and fills nothing.
free_store : (v : Drive) (k : Call) (d n : ℕ) → verdict v (k asking Free d n) ≡ 0 → (step (k asking Free d n) v).store ≡ v.store
unfolding effect
free_store v k d n e = ap (λ (w : Drive). w.store) (accepted_drive v (k asking Free d n) e)

free_fills : (v : Drive) (k : Call) (d n : ℕ) (words : List ℕ) → verdict v (k asking Free d n) ≡ 0
    → overwritten 0 (words_filled v (k asking Free d n)) words ≡ words
unfolding words_filled effect
free_fills v k d n words e = rw e (overwritten_nothing words)

-- ---- Appending

-- A command that is refused leaves the table and the buffers.
module _ (t : Table) (c : Command) (store words : List ℕ) (r : both-types.Served) (store' words' : List ℕ) (s : ServesWords t c store words r store' words') where
  abbrev call : Call
  call = calling c store words []

  number_told_lem : (outcome_of r.answer).number ≡ verdict (drive t store) call
  number_told_lem = verdict_is (drive t store) call words [] (served r store' words' []) s

  untouched : ¬ (verdict (drive t store) call ≡ 0) → (r.table ≡ t) × (store' ≡ store) × (words' ≡ words)
  untouched turned_down =
      let u = refused_unchanged (drive t store) call words [] (served r store' words' []) s (λ e. turned_down (sym number_told_lem ∙ e)) in
      (ap (λ (w : Drive). w.table) u.same_drive, ap (λ (w : Drive). w.store) u.same_drive, u.same_words)

-- The ways of an append, with its command as an argument.
abbrev Appending : Table → ℕ → Command → List ℕ → List ℕ → both-types.Served → List ℕ → List ℕ → Type 0
Appending t d c store words r store' words' =
    (ServesWords t c store words r store' words' × (is_over_quota r.answer ≡ false))
    ⊎ ((first : both-types.Served) × (store₁ : List ℕ) × (words₁ : List ℕ) × ServesWords t c store words first store₁ words₁
    × (is_over_quota first.answer ≡ true) × Again first.table d c store₁ words₁ r store' words')

appending_of : (t : Table) (d sample : ℕ) (store words : List ℕ) (r : both-types.Served) (store' words' : List ℕ)
    → Appends t d sample store words r store' words' → Appending t d (sample_command (domain_at t d) d sample) store words r store' words'
appending_of t d sample store words r store' words' (at_once s o) = inl (s, o)
appending_of t d sample store words r store' words' (again first store₁ words₁ s o a) = inr (first, store₁, words₁, s, o, a)

module _ (t : Table) (d sample : ℕ) (store words : List ℕ) (shape : Shaped t) where
  abbrev v : Drive
  v = drive t store

  abbrev k : Call
  k = calling_for (append d sample) store words []

  abbrev write : Call
  write = k asking sample_write d sample

  command_is : (b : Bool) → has_recorder_shape (domain_at t d) ≡ b → sample_command (domain_at t d) d sample ≡ WriteByPlacement d 0 sample (adus (cond b 1 0))
  unfolding sample_command
  command_is b e = rw e

  -- Another shape: a write of nothing is refused as the append is.
  module _ (e : has_recorder_shape (domain_at t d) ≡ false) where
    same_no : verdict v k ≡ verdict v (k asking WriteByPlacement d 0 sample (adus 0))
    same_no = claims.append_another_shape v k d sample e ∙ sym (nothing_verdict v k d sample)

    not_shaped : (r : both-types.Served) (store' words' : List ℕ)
        → ServesWords t (WriteByPlacement d 0 sample (adus 0)) store words r store' words'
        → ServesFor t (append d sample) store words [] (served r store' words' [])
    unfolding step words_filled answered
    not_shaped r store' words' s =
        let turned_down : ¬ (verdict v k ≡ 0) = λ f. never_accepted v k d sample (sym same_no ∙ f) in
        let off : eqb (verdict v k) 0 ≡ false = ne_eqb (verdict v k) 0 turned_down in
        let off_too : eqb (verdict v (k asking WriteByPlacement d 0 sample (adus 0))) 0 ≡ false = rw (← same_no) off in
        let u = untouched t (WriteByPlacement d 0 sample (adus 0)) store words r store' words' s (never_accepted v k d sample) in
        let told : outcome_of r.answer ≡ refusal (verdict v (k asking WriteByPlacement d 0 sample (adus 0))) = s.answers ∙ (rw off_too) in
        record {
          answers = rw off (told ∙ ap (λ (n : ℕ). refusal n) (sym same_no));
          leaves = rw off (ap₂ (λ (x : Table) (y : List ℕ). drive x y) u.0 u.1);
          fills_words = rw off (u.2 ∙ sym (overwritten_nothing words));
          fills_bytes = none_shown v k refl;
        }

  -- The shape: the append is the write, or a Free and the write.
  module _ (e : has_recorder_shape (domain_at t d) ≡ true) where
    like_write : Likewise v k v write → (r : both-types.Served) (store' words' : List ℕ)
        → ServesWords t (sample_write d sample) store words r store' words'
        → ServesFor t (append d sample) store words [] (served r store' words' [])
    like_write same r store' words' s = serves_like v v k write refl refl same words (served r store' words' []) s (λ turned_down. refl)

    after_freeing_lem : (found : Option ℕ) → oldest_closed t d ≡ found → verdict v write ≡ 13
        → (r : both-types.Served) (store' words' : List ℕ)
        → Again t d (sample_write d sample) store words r store' words'
        → ServesFor t (append d sample) store words [] (served r store' words' [])
    unfolding freeing
    after_freeing_lem none f refused-so r store' words' a =
        let frees : ServesWords t (Free d 18446744073709551615) store words a.between a.store₁ a.words₁ =
        subst (λ (x : Option ℕ). ServesWords t (Free d (number_or x)) store words a.between a.store₁ a.words₁) f a.frees in
        let u = untouched t (Free d 18446744073709551615) store words a.between a.store₁ a.words₁ frees (no_such_block v k d (asked_sound v k d sample refused-so)) in
        let writes : ServesWords t (sample_write d sample) store words r store' words' =
        subst (λ (x : Table). ServesWords x (sample_write d sample) store words r store' words') u.0
        (subst (λ (x : List ℕ). ServesWords a.between.table (sample_write d sample) x words r store' words') u.1
        (subst (λ (x : List ℕ). ServesWords a.between.table (sample_write d sample) a.store₁ x r store' words') u.2 a.writes)) in
        let none_closed = subst (OldestOf t d (size t)) f (oldest t d (size t)) in
        like_write (claims.append_none_closed v k d sample e none_closed) r store' words' writes
    after_freeing_lem (some n) f refused-so r store' words' a =
        let x = claims.append_after_freeing v k d sample n shape (λ same. same) e refused-so f in
        let free = k asking Free d n in
        let frees : ServesWords t (Free d n) store words a.between a.store₁ a.words₁ =
        subst (λ (y : Option ℕ). ServesWords t (Free d (number_or y)) store words a.between a.store₁ a.words₁) f a.frees in
        let left : drive a.between.table a.store₁ ≡ step free v = frees.leaves in
        let kept_words : a.words₁ ≡ words = frees.fills_words ∙ free_fills v k d n words x.1 in
        let same_long : length a.store₁ ≡ length store = ap length (ap (λ (y : Drive). y.store) left ∙ free_store v k d n x.1) in
        let writes : Serves (step free v) write words [] (served r store' words' []) =
        subst (λ (y : Drive). Serves y write words [] (served r store' words' [])) left
        (subst (λ (m : ℕ). Serves (drive a.between.table a.store₁) (lending (sample_write d sample) m (length words) 0) words [] (served r store' words' [])) same_long
        (subst (λ (ws : List ℕ). ServesWords a.between.table (sample_write d sample) a.store₁ ws r store' words') kept_words a.writes)) in
        serves_like v (step free v) k write refl refl x.3 words (served r store' words' []) writes (λ turned_down. absurd (turned_down x.2))

    with_shape : (r : both-types.Served) (store' words' : List ℕ) (c : Command) → c ≡ sample_write d sample
        → Appending t d c store words r store' words' → ServesFor t (append d sample) store words [] (served r store' words' [])
    with_shape r store' words' c is (inl x) =
        let s = subst (λ (y : Command). ServesWords t y store words r store' words') is x.0 in
        let not_13 : ¬ (verdict v write ≡ 13) = λ f. number_is_not r.answer 13 (omega arith) x.1 (number_told_lem t (sample_write d sample) store words r store' words' s ∙ f) in
        like_write (claims.append_at_once v k d sample e not_13) r store' words' s
    with_shape r store' words' c is (inr x) =
        let first = x.0 in
        let s = subst (λ (y : Command). ServesWords t y store words first x.1 x.2) is x.3 in
        let thirteen : verdict v write ≡ 13 =
        sym (number_told_lem t (sample_write d sample) store words first x.1 x.2 s) ∙ number_is first.answer 13 x.4 in
        let u = untouched t (sample_write d sample) store words first x.1 x.2 s (λ z. absurd (omega (arith, z, thirteen))) in
        after_freeing_lem (oldest_closed t d) refl thirteen r store' words'
        (subst (λ (y : Command). Again t d y store words r store' words') is
        (subst (λ (y : Table). Again y d c store words r store' words') u.0
        (subst (λ (y : List ℕ). Again first.table d c y words r store' words') u.1
        (subst (λ (y : List ℕ). Again first.table d c x.1 y r store' words') u.2 x.5))))

  -- What is done is what the rules say of an append.
  pub append_served : (r : both-types.Served) (store' words' : List ℕ) → Appends t d sample store words r store' words'
      → ServesFor t (append d sample) store words [] (served r store' words' [])
  append_served r store' words' a =
      by_test (has_recorder_shape (domain_at t d))
      (λ e. with_shape e r store' words' (sample_command (domain_at t d) d sample) (command_is true e) (appending_of t d sample store words r store' words' a))
      (λ e. without e (sample_command (domain_at t d) d sample) (command_is false e) (appending_of t d sample store words r store' words' a))
    where
      without : has_recorder_shape (domain_at t d) ≡ false → (c : Command) → c ≡ WriteByPlacement d 0 sample (adus 0)
          → Appending t d c store words r store' words' → ServesFor t (append d sample) store words [] (served r store' words' [])
      without e c is (inl x) = not_shaped e r store' words' (subst (λ (y : Command). ServesWords t y store words r store' words') is x.0)
      without e c is (inr x) =
          let s = subst (λ (y : Command). ServesWords t y store words x.0 x.1 x.2) is x.3 in
          absurd (never_thirteen v k d sample
          (sym (number_told_lem t (WriteByPlacement d 0 sample (adus 0)) store words x.0 x.1 x.2 s) ∙ number_is x.0.answer 13 x.4))

-- ---- Reading

module _ (t : Table) (d : ℕ) (store words : List ℕ) (first : both-types.Served) (store' words₁ : List ℕ)
    (s : ServesWords t (no_samples d) store words first store' words₁) where
  abbrev asked : Call
  asked = calling (no_samples d) store words []

  abbrev here : Drive
  here = drive t store

  pub left_alone : (first.table ≡ t) × (store' ≡ store) × (words₁ ≡ words)
  left_alone = untouched t (no_samples d) store words first store' words₁ s (never_accepted here asked d 0)

  -- Where 6 is the answer, 2 to 5 were answered yes.
  pub readable : is_out_of_range first.answer ≡ true → Readable first.table d store'
  readable e =
      let six : verdict here asked ≡ 6 = sym (number_told_lem t (no_samples d) store words first store' words₁ s) ∙ number_is first.answer 6 e in
      let x = all_four (sound t) (store_fits t asked) (is_domain_id d) (exists t d) (sym (nothing_verdict here asked d 0) ∙ six) in
      subst (λ (y : Table). Readable y d store') (sym left_alone.0)
      (subst (λ (y : List ℕ). Readable t d y) (sym left_alone.1)
      (record { is_sound = x.0; whole = eqb-true (length store) (store_length t.config).0 x.1; id = x.2; there = x.3 }))

module _ (t : Table) (d : ℕ) (count : Adus) (store words : List ℕ) where
  abbrev place : Drive
  place = drive t store

  abbrev read : Call
  read = calling_for (latest d count) store words []

  abbrev firsts : List Question
  firsts = ask 2 (sound t) ∷ ask 3 (store_fits t read) ∷ ask 4 (is_domain_id d) ∷ ask 5 (exists t d) ∷ []

  -- A first question is answered no: the reading is refused as the write of nothing is.
  early : (qs rs : List Question) → ¬ (first_no (qs ++ (ask 6 false ∷ [])) ≡ 6) → first_no (qs ++ rs) ≡ first_no (qs ++ (ask 6 false ∷ []))
  unfolding first_no
  early [] rs n = absurd (n refl)
  early (q ∷ qs) rs n =
      by_test q.holds
      (λ e. rw e (early qs rs (λ z. n (rw e z))))
      (λ e. rw e)

  pub latest_served : (r : both-types.Served) (store' words' : List ℕ) → Latest t d count store words r store' words'
      → ServesFor t (latest d count) store words [] (served r store' words' [])
  unfolding questions step words_filled answered effect
  latest_served r store' words' (refused s e) =
      let other : ¬ (first_no (firsts ++ (ask 6 false ∷ [])) ≡ 6) =
      λ z. number_is_not r.answer 6 (omega arith) e (number_told_lem t (no_samples d) store words r store' words' s ∙ nothing_verdict place read d 0 ∙ z) in
      let same : verdict place read ≡ verdict place (calling (no_samples d) store words []) =
      early firsts (latest_questions d count place read) other ∙ sym (nothing_verdict place read d 0) in
      let turned_down : ¬ (verdict place read ≡ 0) = λ f. never_accepted place read d 0 (sym same ∙ f) in
      let off : eqb (verdict place read) 0 ≡ false = ne_eqb (verdict place read) 0 turned_down in
      let off_too : eqb (verdict place (calling (no_samples d) store words [])) 0 ≡ false = rw (← same) off in
      let told : outcome_of r.answer ≡ refusal (verdict place (calling (no_samples d) store words [])) = s.answers ∙ (rw off_too) in
      let u = left_alone t d store words r store' words' s in
      record {
        answers = rw off (told ∙ ap (λ (n : ℕ). refusal n) (sym same));
        leaves = rw off (ap₂ (λ (x : Table) (y : List ℕ). drive x y) u.0 u.1);
        fills_words = rw off (u.2 ∙ sym (overwritten_nothing words));
        fills_bytes = none_shown place read refl;
      }
  latest_served r store' words' (given first words₁ s e g stays) =
      let u = left_alone t d store words first store' words₁ s in
      let x = readable t d store words first store' words₁ s e in
      let g' : Given t d count store words r.answer words' =
      subst (λ (y : Table). Given y d count store words r.answer words') u.0
      (subst (λ (y : List ℕ). Given first.table d count y words r.answer words') u.1
      (subst (λ (y : List ℕ). Given first.table d count store' y r.answer words') u.2 g)) in
      let x' : Readable t d store =
      subst (λ (y : Table). Readable y d store) u.0 (subst (λ (y : List ℕ). Readable first.table d y) u.1 x) in
      let fits : store_fits t read ≡ true = eq-eqb (length store) (store_length t.config).0 x'.whole in
      let later : verdict place read ≡ first_no (latest_questions d count place read) = passed_four (sound t) (store_fits t read) (is_domain_id d) (exists t d) (latest_questions d count place read) x'.is_sound fits x'.id x'.there in
      record {
        answers = g'.answers ∙ rw (← later);
        leaves = ap₂ (λ (y : Table) (z : List ℕ). drive y z) (stays ∙ u.0) u.1 ∙ by_test (accepted place read) (λ f. rw f) (λ f. rw f);
        fills_words = g'.fills ∙ rw (← later);
        fills_bytes = none_shown place read refl;
      }
