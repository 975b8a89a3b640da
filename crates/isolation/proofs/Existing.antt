-- Every list of calls, from the start of every configuration within limits and with every first store, is that of a run.
use Prim.Native.Nat.{ℕ, suc, ◌+◌, ◌-◌, ◌≤◌}
use mathlib.Core.Bool.{Bool, true, false, cond}
use mathlib.Core.List.{List, [], ◌∷◌, map}
use mathlib.Core.Option.{Option, none, some}
use mathlib.Core.Path.{◌≡◌, refl, sym, ap, ap₂, ◌∙◌, subst}
use native.Mathlib.Omega.{arith}
use lib.Dec.{eqb, ltb}
use lib.ListN.{get_or, length, length-replicate, replicate}
use borrow.Author.Tests.{eqb-false, eqb-true, leb-true, ltb-true}
use denote.Ref.{MutBor}
use Rattle.geometry.proofs.Laws.Questions.{answered_no, answered_yes}
use Rattle.geometry.proofs.Laws.Shape.{both, by_test}
use Rattle.geometry.specs.Questions.{Question, first_no, refusal, success}
use Rattle.geometry.specs.Shape.{store_length, within_limits}
use Rattle.geometry.specs.declared.shape.Adus.{Adus}
use Rattle.geometry.specs.declared.shape.Config.{Config}
use Rattle.isolation.specs.Calls.{ProgramCall, StartCall, append_by_value, append_in_place, serve_by_value, call_of, serve_in_place, is_in_place, latest_by_value, latest_in_place}
use Rattle.isolation.specs.Calls as calls
use Rattle.isolation.specs.Runs.{Formed, Handed, RunOf, after_call, is_own_store, lends_all, lends_for}
use Rattle.isolation.proofs.Reference.{same_config}
use Rattle.isolation.proofs.Steps.{Stepped, stepped}
use Rattle.model.specs.Answers.{number_of, outcome_of}
use Rattle.model.specs.declared.answer.Answer.{Answer}
use Rattle.model.specs.declared.answer.Answer.TheVariants as given
use Rattle.model.specs.declared.answer.Refusal.{Refusal}
use Rattle.model.specs.declared.answer.Refusal.TheVariants.{Limits, Unsound, Store, DomainId, Existence, Range, Output, UserAddress}
use Rattle.model.specs.declared.answer.Refusal.TheVariants.{Holder, BlockState, OpenLimit, Serials, Quota, Coverage, Extent, Mismatch}
use Rattle.model.specs.declared.command.Command.{Command}
use Rattle.model.specs.declared.command.Command.TheVariants.{ChangeCapacity, Close, Create, Delete, Erase, Free, List as Listing, Page, Pulse, Read}
use Rattle.model.specs.declared.command.Command.TheVariants.{WriteByBlock, WriteByPlacement}
use Rattle.model.specs.declared.table.Table.{Table}
use Rattle.rules.proofs.Counting.{all_each}
use Rattle.rules.proofs.Drive.{overwritten_nothing}
use Rattle.rules.proofs.Effects.{fills_no_bytes}
use Rattle.rules.proofs.Kept.Calls.{Course, course_step}
use Rattle.rules.proofs.Laws.{always_answered, questions_in_order, start_accepted}
use Rattle.rules.proofs.Noninterference.Moments.{begun_course}
use Rattle.rules.specs.Blocks.{erased_block}
use Rattle.rules.specs.Calls.{Asked, Call, append, calling_for, command, latest, lending_for, no_bytes, profile_of}
use Rattle.rules.specs.Claims.{rising}
use Rattle.rules.specs.Counting.{all_to}
use Rattle.rules.specs.Drive.{Drive, overwritten}
use Rattle.rules.specs.Effects.{accepted, answer_to, effect, effect_for, effect_of, erasing, questions, step, verdict}
use Rattle.rules.specs.Runs.{begun}
use Rattle.rules.specs.Start.{Started, empty_table}
use Rattle.tables.specs.Serving.{ServesCommand, ServesFor, drive, served}
use Rattle.tables.specs.declared.served.Served.{Served}

-- ---- An answer for every outcome

-- The refusals in the order of their numbers, so that each number of a question is that of a refusal.
abbrev refusals : List Refusal
refusals =
    Limits ∷ Unsound ∷ Store ∷ DomainId ∷ Existence ∷ Range ∷ Output ∷ UserAddress
    ∷ Holder ∷ BlockState ∷ OpenLimit ∷ Serials ∷ Quota ∷ Coverage ∷ Extent ∷ Mismatch ∷ []

numbered : all_to (λ n. eqb (number_of (get_or refusals n Limits)) (n + 1)) 16 ≡ true
unfolding all_to
numbered = refl

refusal_of : (n : ℕ) → 1 ≤ n → n ≤ 16 → (r : Refusal) × (number_of r ≡ n)
refusal_of n least most =
    let r = get_or refusals (n - 1) Limits in
    let e = eqb-true (number_of r) (n - 1 + 1) (all_each 16 (λ m. eqb (number_of (get_or refusals m Limits)) (m + 1)) numbered (n - 1) (omega (arith, least, most))) in
    (r, omega (arith, e, least))

-- No first no has a number above 16.
last_most : (last : ℕ) (qs : List Question) → rising last qs ≡ true → last ≤ 16
unfolding rising
last_most last [] e = leb-true last 16 e
last_most last (q ∷ qs) e =
    let h = both (ltb last q.number) (rising q.number qs) e in
    omega (arith, ltb-true last q.number h.0, last_most q.number qs h.1)

first_most : (last : ℕ) (qs : List Question) → rising last qs ≡ true → first_no qs ≤ 16
unfolding rising first_no
first_most last [] e = omega arith
first_most last (q ∷ qs) e =
    let h = both (ltb last q.number) (rising q.number qs) e in
    by_test q.holds
    (λ b. rw b (first_most q.number qs h.1))
    (λ b. rw b (last_most q.number qs h.1))

-- Erase, Close and Free answer a block number, the other commands success alone.
erase_answer : (d : ℕ) (block : Option ℕ) (v : Drive) → (a : Answer) × (outcome_of a ≡ success (erasing d block v).values)
erase_answer d none v = (given.Done, refl)
erase_answer d (some n) v = (given.Block n, refl)

success_of : (c : Command) (v : Drive) → (a : Answer) × (outcome_of a ≡ success (effect_of c v).values)
success_of (Create d guarantee quota placements limit) v = (given.Done, refl)
success_of (ChangeCapacity d guarantee quota) v = (given.Done, refl)
success_of (Delete d) v = (given.Done, refl)
success_of (Erase d n) v = erase_answer d (erased_block v.table n) v
success_of (Close d n) v = (given.Block n, refl)
success_of (Free d n) v = (given.Block n, refl)
success_of (WriteByPlacement d p start count) v = (given.Done, refl)
success_of (WriteByBlock d n start count) v = (given.Done, refl)
success_of (Read d address count expected) v = (given.Done, refl)
success_of (Page d n) v = (given.Done, refl)
success_of (Listing d which) v = (given.Done, refl)
success_of (Pulse seconds) v = (given.Done, refl)

success_for : (x : Asked) (v : Drive) (k : Call) → (a : Answer) × (outcome_of a ≡ success (effect_for x v k).values)
success_for (command c) v k = success_of c v
success_for (append d sample) v k = (given.Done, refl)
success_for (latest d count) v k = (given.Done, refl)

answer_of : (v : Drive) (k : Call) → (a : Answer) × (outcome_of a ≡ answer_to v k)
unfolding effect
answer_of v k =
    let qs = questions v k in
    let values = (effect v k).values in
    by_test (accepted v k)
    (λ e.
    let s = success_for k.asks v k in
    (s.0, s.1 ∙ sym (answered_yes qs values (eqb-true (verdict v k) 0 e))))
    (λ e.
    let some-no = eqb-false (verdict v k) 0 e in
    let least : 1 ≤ verdict v k = omega (arith, some-no) in
    let r = refusal_of (verdict v k) least (first_most 1 qs (questions_in_order v k)) in
    (given.Refused r.0, ap refusal r.1 ∙ sym (answered_no qs values (verdict v k) least refl)))

-- ---- A call with a result that its contract allows

-- A lent buffer of this content; where it lies does not matter.
abbrev lent : List ℕ → MutBor (List ℕ)
lent content = record { ref_ptr = (0, 0); ghost_name = 0; now = content }

-- The same of a lent table.
abbrev lent_table : Table → MutBor Table
lent_table t = record { ref_ptr = (0, 0); ghost_name = 0; now = t }

-- A call of `serve_in` or of `serve` that is given these and hands back those.
abbrev made : Bool → (t : Table) (c : Command) (store words bytes : List ℕ) (r : Served) (store' words' bytes' : List ℕ)
    → ServesCommand t c store words bytes (served r store' words' bytes')
    → ProgramCall
made true t c store words bytes r store' words' bytes' s = serve_in_place (record {
  lifetimes = ([], ([], ([], ([], tt))));
  arguments = (lent_table t, (c, (lent store, (lent words, (lent bytes, tt)))));
  result = r.answer;
  exit = (lent_table r.table, (c, (lent store', (lent words', (lent bytes', tt)))));
  meets = s;
})
made false t c store words bytes r store' words' bytes' s = serve_by_value (record {
  lifetimes = ([], ([], ([], tt)));
  arguments = (t, (c, (lent store, (lent words, (lent bytes, tt)))));
  result = r;
  exit = (t, (c, (lent store', (lent words', (lent bytes', tt)))));
  meets = s;
})

-- The same of `append_in` or `append`, ..
abbrev made_append : Bool → (t : Table) (d sample : ℕ) (store words : List ℕ) (r : Served) (store' words' : List ℕ)
    → ServesFor t (append d sample) store words [] (served r store' words' [])
    → ProgramCall
made_append true t d sample store words r store' words' s = append_in_place (record {
  lifetimes = ([], ([], ([], tt)));
  arguments = (lent_table t, (d, (sample, (lent store, (lent words, tt)))));
  result = r.answer;
  exit = (lent_table r.table, (d, (sample, (lent store', (lent words', tt)))));
  meets = s;
})
made_append false t d sample store words r store' words' s = append_by_value (record {
  lifetimes = ([], ([], tt));
  arguments = (t, (d, (sample, (lent store, (lent words, tt)))));
  result = r;
  exit = (t, (d, (sample, (lent store', (lent words', tt)))));
  meets = s;
})

-- .. and of `latest_in` or `latest`.
abbrev made_latest : Bool → (t : Table) (d : ℕ) (count : Adus) (store words : List ℕ) (r : Served) (store' words' : List ℕ)
    → ServesFor t (latest d count) store words [] (served r store' words' [])
    → ProgramCall
made_latest true t d count store words r store' words' s = latest_in_place (record {
  lifetimes = ([], ([], ([], tt)));
  arguments = (lent_table t, (d, (count, (lent store, (lent words, tt)))));
  result = r.answer;
  exit = (lent_table r.table, (d, (count, (lent store', (lent words', tt)))));
  meets = s;
})
made_latest false t d count store words r store' words' s = latest_by_value (record {
  lifetimes = ([], ([], tt));
  arguments = (t, (d, (count, (lent store, (lent words, tt)))));
  result = r;
  exit = (t, (d, (count, (lent store', (lent words', tt)))));
  meets = s;
})

-- The recorder is lent no bytes.
abbrev bytes_for : Asked → List ℕ → List ℕ
bytes_for (command c) bytes = bytes
bytes_for (append d sample) bytes = []
bytes_for (latest d count) bytes = []

-- On every table, for whatever is asked for and whatever is lent there is one of either form.
record Any (form : Bool) (t : Table) (x : Asked) (store words bytes : List ℕ) : Type 0 where
  call : ProgramCall
  formed : is_in_place call ≡ form
  table : (calls.given call).table ≡ t
  store_given : (calls.given call).store ≡ store
  is : call_of call ≡ calling_for x store words (bytes_for x bytes)

-- Every call of the program is one, for what it is given.
any : (k : ProgramCall) (bytes : List ℕ) → (calls.given k).bytes ≡ bytes_for (calls.given k).asks bytes
    → Any (is_in_place k) (calls.given k).table (calls.given k).asks (calls.given k).store (calls.given k).words bytes
any k bytes e = record {
  call = k;
  formed = refl;
  table = refl;
  store_given = refl;
  is = ap (calling_for (calls.given k).asks (calls.given k).store (calls.given k).words) e;
}

-- What is served for it.
record Result (t : Table) (x : Asked) (store words bytes : List ℕ) : Type 0 where
  result : Served
  store' : List ℕ
  words' : List ℕ
  bytes' : List ℕ
  serves : ServesFor t x store words bytes (served result store' words' bytes')

any_result : (t : Table) (x : Asked) (store words bytes : List ℕ) → Result t x store words bytes
any_result t x store words bytes =
    let v = drive t store in
    let k = calling_for x store words bytes in
    let y = always_answered v k words bytes in
    let r = y.0 in
    let a = answer_of v k in
    record {
      result = record { answer = a.0; table = r.drive.table };
      store' = r.drive.store;
      words' = r.words;
      bytes' = r.bytes;
      serves = record { answers = a.1; leaves = y.1.leaves; fills_words = y.1.fills_words; fills_bytes = y.1.fills_bytes };
    }

-- No bytes stay none.
no_bytes_left : (t : Table) (x : Asked) (store words : List ℕ) → (profile_of x).bytes ≡ no_bytes → (r : Result t x store words [])
    → ServesFor t x store words [] (served r.result r.store' r.words' [])
no_bytes_left t x store words none-due r =
    record {
      answers = r.serves.answers;
      leaves = r.serves.leaves;
      fills_words = r.serves.fills_words;
      fills_bytes =
          sym (overwritten_nothing [])
          ∙ ap (λ (l : List ℕ). overwritten 0 l []) (sym (fills_no_bytes (drive t store) (calling_for x store words []) none-due));
    }

any_call : (form : Bool) (t : Table) (x : Asked) (store words bytes : List ℕ) → Any form t x store words bytes
any_call form t (command c) store words bytes =
    let r = any_result t (command c) store words bytes in of form r.result r.store' r.words' r.bytes' r.serves
  where
    of : (form : Bool) (result : Served) (store' words' bytes' : List ℕ)
        → ServesCommand t c store words bytes (served result store' words' bytes')
        → Any form t (command c) store words bytes
    of true result store' words' bytes' s = any (made true t c store words bytes result store' words' bytes' s) bytes refl
    of false result store' words' bytes' s = any (made false t c store words bytes result store' words' bytes' s) bytes refl
any_call form t (append d sample) store words bytes =
    let r = any_result t (append d sample) store words [] in
    of form r.result r.store' r.words' (no_bytes_left t (append d sample) store words refl r)
  where
    of : (form : Bool) (result : Served) (store' words' : List ℕ)
        → ServesFor t (append d sample) store words [] (served result store' words' [])
        → Any form t (append d sample) store words bytes
    of true result store' words' s = any (made_append true t d sample store words result store' words' s) bytes refl
    of false result store' words' s = any (made_append false t d sample store words result store' words' s) bytes refl
any_call form t (latest d count) store words bytes =
    let r = any_result t (latest d count) store words [] in
    of form r.result r.store' r.words' (no_bytes_left t (latest d count) store words refl r)
  where
    of : (form : Bool) (result : Served) (store' words' : List ℕ)
        → ServesFor t (latest d count) store words [] (served result store' words' [])
        → Any form t (latest d count) store words bytes
    of true result store' words' s = any (made_latest true t d count store words result store' words' s) bytes refl
    of false result store' words' s = any (made_latest false t d count store words result store' words' s) bytes refl

-- ---- Lists of calls

abbrev zeros : ℕ → List ℕ
zeros n = replicate n 0

zeros_long : (n : ℕ) → length (zeros n) ≡ n
zeros_long n = length-replicate {A = ℕ} n 0

-- What a call that is lent so many entries is lent: the run's own store, or zeros.
abbrev store_for : Config → Call → Drive → List ℕ
store_for c k v = cond (eqb k.lent.store (store_length c).0) v.store (zeros k.lent.store)

store_long : (c : Config) (k : Call) (v : Drive) → length v.store ≡ (store_length c).0 → length (store_for c k v) ≡ k.lent.store
store_long c k v whole =
    by_test (eqb k.lent.store (store_length c).0)
    (λ e. rw e (whole ∙ sym (eqb-true k.lent.store (store_length c).0 e)))
    (λ e. rw e (zeros_long k.lent.store))

-- As many bytes as the call lends.
bytes_long : (x : Asked) (n : ℕ) → lends_for x n ≡ true → length (bytes_for x (zeros n)) ≡ n
bytes_long (command c) n l = zeros_long n
bytes_long (append d sample) n l = sym (eqb-true n 0 l)
bytes_long (latest d count) n l = sym (eqb-true n 0 l)

-- A list of the program's calls that are these, of either form.
record Made (c : Config) (ks : List Call) (inPlace? : ℕ → Bool) (i : ℕ) (v : Drive) : Type 0 where
  calls : List ProgramCall
  are : map call_of calls ≡ ks
  handed : Handed c calls v
  formed : Formed inPlace? i calls

made_all : (c : Config) (ks : List Call) (inPlace? : ℕ → Bool) (i : ℕ) (v : Drive) → lends_all ks ≡ true → Course v → v.table.config ≡ c
    → Made c ks inPlace? i v
unfolding Handed Formed lends_all
made_all c [] inPlace? i v lends course config = record { calls = []; are = refl; handed = tt; formed = tt }
made_all c (k ∷ ks) inPlace? i v lends course config =
    let each = both (lends_for k.asks k.lent.bytes) (lends_all ks) lends in
    let store = store_for c k v in
    let x = any_call (inPlace? i) v.table k.asks store (zeros k.lent.words) (zeros k.lent.bytes) in
    let s = x.call in
    let long = store_long c k v (course.store ∙ ap (λ (y : Config). (store_length y).0) config) in
    let is : call_of s ≡ k =
    x.is ∙ (λ j. lending_for k.asks (long j) (zeros_long k.lent.words j) (bytes_long k.asks k.lent.bytes each.0 j)) in
    let own : is_own_store c s ≡ true → (calls.given s).store ≡ v.store = λ e.
    let fits : eqb k.lent.store (store_length c).0 ≡ true =
    ap (λ (n : ℕ). eqb n (store_length c).0) (sym (ap length x.store_given ∙ long)) ∙ e in
    x.store_given ∙ rw fits in
    let steps = subst (λ (y : Config). Stepped y s v) config
    (stepped s v course x.table (λ e. own (subst (λ (y : Config). is_own_store y s ≡ true) config e))) in
    let moved : after_call c s v ≡ step k v = steps.leaves ∙ ap (λ (y : Call). step y v) is in
    let rest = made_all c ks inPlace? (suc i) (step k v) each.1 (course_step k v course) (same_config k v course ∙ config) in
    record {
      calls = s ∷ rest.calls;
      are = ap₂ (λ (y : Call) (ys : List Call). y ∷ ys) is rest.are;
      handed = (x.table, own, subst (Handed c rest.calls) (sym moved) rest.handed);
      formed = (x.formed, rest.formed);
    }

-- ---- Runs

abbrev started_call : (c : Config) → within_limits c ≡ true → StartCall
started_call c within = record {
  lifetimes = tt;
  arguments = (c, tt);
  result = record { answer = given.Done; table = empty_table c };
  exit = (c, tt);
  meets = sym (start_accepted c within);
}

-- Every list of calls is that of a run, whichever of them are lent the table.
pub runs_every_list : (c : Config) (store : List ℕ) (ks : List Call) (inPlace? : ℕ → Bool)
    → lends_all ks ≡ true
    → within_limits c ≡ true
    → length store ≡ (store_length c).0
    → RunOf c store ks inPlace?
runs_every_list c store ks inPlace? lends within whole =
    let begins = start_accepted c within in
    let m = made_all c ks inPlace? 0 (begun c store) lends (begun_course c store within whole) (ap (λ (x : Started). x.table.config) begins) in
    let same : begun c store ≡ drive (empty_table c) store = ap (λ (x : Started). drive x.table store) begins in
    record {
      its = record {
        start = started_call c within;
        accepted = refl;
        store = store;
        whole = whole;
        calls = m.calls;
        handed = subst (Handed c m.calls) same m.handed;
      };
      configured = refl;
      lent_first = refl;
      called = m.are;
      formed = m.formed;
    }
