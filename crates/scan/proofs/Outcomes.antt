-- What a command's outcome comes to: a refusal, or a change of the table; and what it may count on once its first questions are answered.
use Prim.Native.Nat.{ℕ}
use mathlib.Core.Bool.{Bool, true, false}
use mathlib.Core.List.{List, [], ◌∷◌, ◌++◌}
use mathlib.Core.Path.{◌≡◌, refl, sym, ap, subst, ◌∙◌}
use lib.ListN.{length}
use borrow.Author.Tests.{eqb-true}
use Rattle.geometry.specs.Questions.{Question, ask, first_no, success}
use Rattle.geometry.specs.Shape.{store_length, within_limits}
use Rattle.geometry.specs.declared.shape.Config.{Config}
use Rattle.model.specs.Answers.{number_of, outcome_of}
use Rattle.model.specs.declared.answer.Answer.{Answer}
use Rattle.model.specs.declared.answer.Answer.TheVariants.{Refused}
use Rattle.model.specs.declared.answer.Refusal.{Refusal}
use Rattle.model.specs.declared.command.Command.{Command}
use Rattle.model.specs.declared.table.Table.{Table}
use Rattle.rules.proofs.Questions.{answer_in}
use Rattle.rules.specs.Calls.{calling, domain_of, lending, profile}
use Rattle.rules.specs.Effects.{changing, due_bytes, effect}
use Rattle.rules.specs.Questions.{domain_questions, first_questions, later_questions, store_fits, store_questions}
use Rattle.rules.specs.Soundness.{sound}
use Rattle.scan.proofs.Seeing.{changed_nothing, limits_seen}
use Rattle.scan.specs.First.{Begins, FirstPassed, first_asked}
use Rattle.scan.specs.Summary.{Seen}
use Rattle.scan.specs.declared.summary.Summary.{Summary}
use Rattle.tables.proofs.Answering.{first_refused, first_yes, then_changed, then_refused}
use Rattle.std.specs.Prelude.{Result}
use Rattle.std.specs.Result.{IsErrAnd}
use Rattle.std.proofs.lemmas.Result.{err_from_is_err_and}
use Rattle.tables.specs.Changing.{changed_table, leaving, outcome_from, outcome_served}
use Rattle.tables.specs.Serving.{ServesCommand, answering, drive, served}
use Rattle.tables.specs.declared.change.Change.{Change}
use Rattle.tables.specs.declared.change.Outcome.{Outcome}

-- An answer that changes nothing leaves the table.
pub left_as_is : (t : Table) (answer : Answer) → outcome_served t (leaving answer) ≡ answering t answer
left_as_is t answer = ap (λ (u : Table). answering u answer) (changed_nothing t)

-- The first questions of a call ask for no more than the entries of the store.
same_store : (uses : Bool) (t : Table) (c : Command) (entries words bytes : ℕ)
    → store_questions uses t (lending c entries 0 0) ≡ store_questions uses t (lending c entries words bytes)
same_store true t c entries words bytes = refl
same_store false t c entries words bytes = refl

first_asked_lem : (t : Table) (c : Command) (store words bytes : List ℕ)
    → first_no (first_asked t c (length store)) ≡ first_no (first_questions (drive t store) (calling c store words bytes))
first_asked_lem t c store words bytes =
    ap (λ (qs : List Question). first_no (ask 2 (sound t) ∷ qs ++ domain_questions t (profile c).own))
    (same_store (profile c).store t c (length store) (length words) (length bytes))

-- One of the first questions is answered no, ..
pub first_outcome : (t : Table) (c : Command) (r : Outcome) (reason : Refusal) (store words bytes : List ℕ)
    → number_of reason ≡ first_no (first_asked t c (length store)) → r ≡ leaving (Refused reason)
    → ServesCommand t c store words bytes (served (outcome_served t r) store words bytes)
first_outcome t c r reason store words bytes q f =
    rw (f, changed_nothing t) (first_refused (drive t store) (calling c store words bytes) words bytes reason (q ∙ first_asked_lem t c store words bytes))

-- .. or a later one is, ..
pub then_outcome : (t : Table) (c : Command) (r : Result Outcome Refusal) (reason : Refusal) (store words bytes : List ℕ)
    → Begins t c (length store)
    → number_of reason ≡ first_no (later_questions c (drive t store) (calling c store words bytes))
    → IsErrAnd r (λ given. given ≡ reason)
    → ServesCommand t c store words bytes (served (outcome_served t (outcome_from r)) store words bytes)
then_outcome t c r reason store words bytes first q gives =
    let p = err_from_is_err_and r gives in
    rw (p.1, p.2, changed_nothing t) (then_refused (drive t store) (calling c store words bytes) words bytes reason (sym (first_asked_lem t c store words bytes) ∙ first) q)

-- .. or all are answered yes, and the table is changed.
pub change_outcome : (t : Table) (c : Command) (answer : Answer) (change : Change) (left : Table) (values store words bytes : List ℕ)
    → Begins t c (length store)
    → first_no (later_questions c (drive t store) (calling c store words bytes)) ≡ 0
    → changed_table change t ≡ left → effect (drive t store) (calling c store words bytes) ≡ changing values left (drive t store)
    → outcome_of answer ≡ success values
    → [] ≡ due_bytes t (profile c).bytes
    → ServesCommand t c store words bytes (served (outcome_served t (record { answer = answer; change = change })) store words bytes)
change_outcome t c answer change left values store words bytes first q becomes does says bytes_are =
    rw becomes
    (then_changed (drive t store) (calling c store words bytes) words bytes values answer left (sym (first_asked_lem t c store words bytes) ∙ first) q does says bytes_are)

-- ---- What a command may count on that has begun

-- Each of its first questions is answered yes, ..
pub begun_yes : (n : ℕ) (t : Table) (c : Command) (entries : ℕ) → Begins t c entries → answer_in n (first_asked t c entries) ≡ true
begun_yes n t c entries e = first_yes n (drive t []) (lending c entries 0 0) e

-- .. so that what is seen is sound, ..
pub begun_sound : (c : Command) (entries : ℕ) (x : Summary) → Seen (domain_of (profile c).own) x → FirstPassed c entries x → x.sound ≡ true
begun_sound c entries x seen begun = seen.1.tested ∙ begun_yes 2 seen.0 c entries (begun seen.0 seen.1)

-- .. and within the limits.
pub begun_limits : (c : Command) (entries : ℕ) (x : Summary) → Seen (domain_of (profile c).own) x → FirstPassed c entries x
    → within_limits x.config ≡ true
begun_limits c entries x seen begun =
    limits_seen seen.0 (domain_of (profile c).own) x seen.1 (begun_sound c entries x seen begun)

-- The store that it uses has all its entries.
pub begun_entries : (c : Command) (entries : ℕ) (x : Summary) → (profile c).store ≡ true → Seen (domain_of (profile c).own) x → FirstPassed c entries x
    → entries ≡ (store_length x.config).0
begun_entries c entries x uses seen begun =
    let t = seen.0 in
    let k = lending c entries 0 0 in
    let fits : store_fits t k ≡ true =
    subst (λ (b : Bool). answer_in 3 (ask 2 (sound t) ∷ store_questions b t k ++ domain_questions t (profile c).own) ≡ true) uses
    (begun_yes 3 t c entries (begun t seen.1)) in
    eqb-true entries (store_length t.config).0 fits ∙ ap (λ (z : Config). (store_length z).0) (sym seen.1.same_config)
