-- How a call's questions are put in parts, and what a refused and an accepted call may hand back.
use Prim.Native.Nat.{ℕ}
use mathlib.Core.Bool.{Bool, true, false}
use mathlib.Core.List.{List, [], ◌∷◌, ◌++◌}
use mathlib.Core.Path.{◌≡◌, refl, sym, ap, ◌∙◌}
use native.Mathlib.Omega.{arith}
use borrow.Author.Tests.{ne_eqb}
use Rattle.geometry.proofs.Laws.Questions.{answered_no, answered_yes, positive, then_asked, then_not}
use Rattle.geometry.specs.Questions.{Question, ask, first_no, success}
use Rattle.tables.proofs.Refusals.{refusal_positive}
use Rattle.tables.specs.Serving.{answer_from, answering, refusing, served}
use Rattle.tables.specs.Verdicts.{verdict_number}
use Rattle.std.specs.Prelude.{Result, cond}
use Rattle.std.specs.Result.{IsErrAnd}
use Rattle.std.proofs.lemmas.Result.{err_from_is_err_and}
use Rattle.model.specs.Answers.{number_of, outcome_of}
use Rattle.model.specs.declared.answer.Answer.{Answer}
use Rattle.model.specs.declared.answer.Refusal.{Refusal}
use Rattle.model.specs.declared.table.Table.{Table}
use Rattle.rules.proofs.Drive.{overwritten_nothing}
use Rattle.rules.proofs.Questions.{answer_in, yes_in}
use Rattle.rules.specs.Calls.{Call, Own, existing, missing, nobody, profile_of}
use Rattle.rules.specs.Drive.{Drive, overwritten}
use Rattle.rules.specs.Effects.{Effect, Served, Serves, accepted, asked_then, bytes_filled, changing, due_bytes, effect, questions, step, verdict, words_filled}
use Rattle.rules.specs.Questions.{domain_questions, first_questions, store_questions}
use Rattle.rules.specs.Soundness.{sound}

-- ---- Questions in parts

-- A no to one of the questions put first is the first no of all: what the exit of a `?` hands back.
pub no_stays : (r : Result (Unit {0}) Refusal) (qs rs : List Question) (reason : Refusal)
    → IsErrAnd r (λ given. given ≡ reason)
    → number_of reason ≡ first_no qs
    → verdict_number r ≡ first_no (qs ++ rs)
no_stays r qs rs reason gives e =
    let p = err_from_is_err_and r gives in
    rw (p.1, p.2) (sym (then_not qs rs (number_of reason) (refusal_positive reason) (sym e)))

-- A question that is answered yes, ..
pub asked_yes : (b : Bool) (reason : Refusal) → 0 ≡ cond b 0 (number_of reason) → b ≡ true
asked_yes true reason e = refl
asked_yes false reason e = absurd (omega (arith, refusal_positive reason, e))

-- .. or no.
pub asked_no : (b : Bool) (given reason : Refusal) → number_of given ≡ cond b 0 (number_of reason) → (b ≡ false) × (number_of given ≡ number_of reason)
asked_no true given reason e = absurd (omega (arith, refusal_positive given, e))
asked_no false given reason e = (refl, e)

-- ---- What is asked first, and then

-- None of the first questions has the number 0.
positive_first : (t : Table) (k : Call) (uses : Bool) (own : Own) → positive (ask 2 (sound t) ∷ store_questions uses t k ++ domain_questions t own) ≡ true
unfolding positive
positive_first t k true (existing d) = refl
positive_first t k true (missing d) = refl
positive_first t k true nobody = refl
positive_first t k false (existing d) = refl
positive_first t k false (missing d) = refl
positive_first t k false nobody = refl

first_positive : (v : Drive) (k : Call) → positive (first_questions v k) ≡ true
first_positive v k = positive_first v.table k (profile_of k.asks).store (profile_of k.asks).own

-- Where they are answered yes, each is, ..
pub first_yes : (n : ℕ) (v : Drive) (k : Call) → first_no (first_questions v k) ≡ 0 → answer_in n (first_questions v k) ≡ true
first_yes n v k e = yes_in n (first_questions v k) (first_positive v k) e

-- .. and the first no of all is that of the later ones.
pub then_verdict : (v : Drive) (k : Call) → first_no (first_questions v k) ≡ 0 → verdict v k ≡ first_no (asked_then k.asks v k)
unfolding questions
then_verdict v k e = then_asked (first_questions v k) (asked_then k.asks v k) (first_positive v k) e

first_verdict : (v : Drive) (k : Call) (reason : Refusal) → number_of reason ≡ first_no (first_questions v k) → verdict v k ≡ number_of reason
unfolding questions
first_verdict v k reason e =
    then_not (first_questions v k) (asked_then k.asks v k) (number_of reason) (refusal_positive reason) (sym e)

-- ---- What a call hands back

-- A refused call hands back what it was given.
refused_call : (v : Drive) (k : Call) (words bytes : List ℕ) (reason : Refusal)
    → verdict v k ≡ number_of reason
    → Serves v k words bytes (served (refusing v.table reason) v.store words bytes)
unfolding step words_filled bytes_filled
refused_call v k words bytes reason e =
    let no : accepted v k ≡ false = ne_eqb (verdict v k) 0 (λ z. omega (arith, refusal_positive reason, sym e ∙ z)) in
    record {
      answers = sym (answered_no (questions v k) (effect v k).values (number_of reason) (refusal_positive reason) e);
      leaves = rw no;
      fills_words = rw no (sym (overwritten_nothing words));
      fills_bytes = rw no (sym (overwritten_nothing bytes));
    }

-- An accepted call hands back its effect.
pub accepted_call : (v : Drive) (k : Call) (words bytes : List ℕ) (r : Served) (filled : List ℕ)
    → verdict v k ≡ 0
    → r.answer ≡ success (effect v k).values
    → r.drive ≡ (effect v k).drive
    → r.words ≡ overwritten 0 (effect v k).words words
    → filled ≡ due_bytes v.table (profile_of k.asks).bytes
    → r.bytes ≡ overwritten 0 filled bytes
    → Serves v k words bytes r
unfolding step words_filled bytes_filled
accepted_call v k words bytes r filled e answers leaves fills bytes_are bytes-fill = record {
  answers = answers ∙ sym (answered_yes (questions v k) (effect v k).values e);
  leaves = leaves ∙ rw e;
  fills_words = fills ∙ rw e;
  fills_bytes = bytes-fill ∙ ap (λ (l : List ℕ). overwritten 0 l bytes) bytes_are ∙ rw e;
}

-- A call is refused by one of the first questions, or by a later one.
pub first_refused : (v : Drive) (k : Call) (words bytes : List ℕ) (reason : Refusal) → number_of reason ≡ first_no (first_questions v k)
    → Serves v k words bytes (served (refusing v.table reason) v.store words bytes)
first_refused v k words bytes reason e = refused_call v k words bytes reason (first_verdict v k reason e)

pub then_refused : (v : Drive) (k : Call) (words bytes : List ℕ) (reason : Refusal) → first_no (first_questions v k) ≡ 0
    → number_of reason ≡ first_no (asked_then k.asks v k)
    → Serves v k words bytes (served (refusing v.table reason) v.store words bytes)
then_refused v k words bytes reason first e = refused_call v k words bytes reason (then_verdict v k first ∙ sym e)

-- What the exit of a `?` hands back of it.
pub refused_by : (v : Drive) (k : Call) (words bytes : List ℕ) (r : Result (Unit {0}) Refusal) (reason : Refusal)
    → IsErrAnd r (λ given. given ≡ reason)
    → Serves v k words bytes (served (refusing v.table reason) v.store words bytes)
    → Serves v k words bytes (served (answering v.table (answer_from r)) v.store words bytes)
refused_by v k words bytes r reason gives serves =
    let p = err_from_is_err_and r gives in rw (p.1, p.2) serves

-- An accepted call that fills nothing and leaves the store: its answer and its table.
pub then_changed : (v : Drive) (k : Call) (words bytes values : List ℕ) (answer : Answer) (after-it : Table) → first_no (first_questions v k) ≡ 0
    → first_no (asked_then k.asks v k) ≡ 0
    → effect v k ≡ changing values after-it v
    → outcome_of answer ≡ success values
    → [] ≡ due_bytes v.table (profile_of k.asks).bytes
    → Serves v k words bytes (served (answering after-it answer) v.store words bytes)
then_changed v k words bytes values answer after-it first e does says bytes_are =
    accepted_call v k words bytes (served (answering after-it answer) v.store words bytes) []
    (then_verdict v k first ∙ e)
    (says ∙ ap (λ (x : Effect). success x.values) (sym does))
    (ap (λ (x : Effect). x.drive) (sym does))
    (sym (overwritten_nothing words) ∙ ap (λ (x : Effect). overwritten 0 x.words words) (sym does))
    bytes_are
    (sym (overwritten_nothing bytes))
