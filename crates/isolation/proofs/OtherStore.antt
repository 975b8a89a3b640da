-- A store of a wrong length is refused by question 3, and a command that is not asked question 3 never looks at it: what a call gives is
-- what it would give with the run's own store, which stays as it was.
use Prim.Native.Nat.{ℕ, suc}
use mathlib.Core.Bool.{true, false, true≢false}
use mathlib.Core.List.{List}
use mathlib.Core.Path.{◌≡◌, refl, sym, ap₂, ◌∙◌}
use native.Mathlib.Omega.{arith}
use borrow.Author.Tests.{ne_eqb}
use Rattle.geometry.proofs.Laws.Questions.{answered_no}
use Rattle.geometry.proofs.Laws.Shape.{by_test}
use Rattle.geometry.specs.Questions.{answered, first_no}
use Rattle.model.specs.declared.command.Command.{Command}
use Rattle.model.specs.declared.command.Command.TheVariants.{ChangeCapacity, Close, Create, Delete, Erase, Free, List as Listing, Page, Pulse, Read}
use Rattle.model.specs.declared.command.Command.TheVariants.{WriteByBlock, WriteByPlacement}
use Rattle.model.specs.declared.table.Table.{Table}
use Rattle.rules.specs.Calls.{Asked, Call, ◌asking◌, ◌for◌, append, command, latest, profile, profile_of}
use Rattle.rules.specs.Drive.{Drive}
use Rattle.rules.specs.Effects.{accepted, answer_to, bytes_filled, effect, questions, step, verdict, words_filled}
use Rattle.rules.specs.Questions.{store_fits}
use Rattle.rules.specs.Soundness.{sound}
use Rattle.tables.specs.Serving.{drive}

-- What a call gives with one store and with another.
pub record SameGiven (t : Table) (store other : List ℕ) (k : Call) : Type 0 where
  pub answers : answer_to (drive t other) k ≡ answer_to (drive t store) k
  pub table : (step k (drive t other)).table ≡ (step k (drive t store)).table
  pub keeps : (step k (drive t store)).store ≡ store
  pub words : words_filled (drive t other) k ≡ words_filled (drive t store) k
  pub bytes : bytes_filled (drive t other) k ≡ bytes_filled (drive t store) k

module _ (t : Table) (store other : List ℕ) (k : Call) where
  abbrev v : Drive
  v = drive t store

  abbrev w : Drive
  w = drive t other

  -- A command that is asked the same and does the same.
  unasked : questions w k ≡ questions v k
      → (effect w k).values ≡ (effect v k).values
      → (effect w k).drive.table ≡ (effect v k).drive.table
      → (effect v k).drive.store ≡ store
      → (effect w k).words ≡ (effect v k).words
      → SameGiven t store other k
  unfolding step words_filled bytes_filled
  unasked qs values table keeps words = record {
    answers = ap₂ answered qs values;
    table = by_test (accepted v k) (λ e. rw (qs, e) table) (λ e. rw (qs, e));
    keeps = by_test (accepted v k) (λ e. rw e keeps) (λ e. rw e);
    words = by_test (accepted v k) (λ e. rw (qs, e) words) (λ e. rw (qs, e));
    bytes = by_test (accepted v k) (λ e. rw (qs, e)) (λ e. rw (qs, e));
  }

  -- A command that is refused.
  refused : (n : ℕ) → verdict v k ≡ suc n → verdict w k ≡ suc n → SameGiven t store other k
  unfolding step words_filled bytes_filled
  refused n e f =
      let no : accepted v k ≡ false = ne_eqb (verdict v k) 0 (λ z. omega (arith, e, z)) in
      let no' : accepted w k ≡ false = ne_eqb (verdict w k) 0 (λ z. omega (arith, f, z)) in
      record {
        answers =
            answered_no (questions w k) (effect w k).values (suc n) (omega arith) f
            ∙ sym (answered_no (questions v k) (effect v k).values (suc n) (omega arith) e);
        table = rw (no, no');
        keeps = rw no;
        words = rw (no, no');
        bytes = rw (no, no');
      }

  -- One that is asked question 3, by its first no.
  stopped : (profile_of k.asks).store ≡ true → store_fits t k ≡ false → SameGiven t store other k
  unfolding questions first_no
  stopped asked wrong =
      by_test (sound t)
      (λ s. refused 2 (rw (asked, s, wrong)) (rw (asked, s, wrong)))
      (λ s. refused 1 (rw s) (rw s))

-- One that is not.
never_looks : (t : Table) (store other : List ℕ) (k : Call) (c : Command) → (profile c).store ≡ false → SameGiven t store other (k asking c)
unfolding questions effect
never_looks t store other k (Create d guarantee quota placements limit) e =
    unasked t store other (k asking Create d guarantee quota placements limit) refl refl refl refl refl
never_looks t store other k (ChangeCapacity d guarantee quota) e =
    unasked t store other (k asking ChangeCapacity d guarantee quota) refl refl refl refl refl
never_looks t store other k (Delete d) e = unasked t store other (k asking Delete d) refl refl refl refl refl
never_looks t store other k (Erase d n) e = absurd (true≢false e)
never_looks t store other k (Close d n) e = unasked t store other (k asking Close d n) refl refl refl refl refl
never_looks t store other k (Free d n) e = unasked t store other (k asking Free d n) refl refl refl refl refl
never_looks t store other k (WriteByPlacement d p start count) e = absurd (true≢false e)
never_looks t store other k (WriteByBlock d n start count) e = absurd (true≢false e)
never_looks t store other k (Read d address count expected) e = absurd (true≢false e)
never_looks t store other k (Page d n) e = unasked t store other (k asking Page d n) refl refl refl refl refl
never_looks t store other k (Listing d which) e = unasked t store other (k asking Listing d which) refl refl refl refl refl
never_looks t store other k (Pulse seconds) e = unasked t store other (k asking Pulse seconds) refl refl refl refl refl

never_looks_for : (t : Table) (store other : List ℕ) (k : Call) (x : Asked) → (profile_of x).store ≡ false → SameGiven t store other (k for x)
never_looks_for t store other k (command c) e = never_looks t store other k c e
never_looks_for t store other k (append d sample) e = absurd (true≢false e)
never_looks_for t store other k (latest d count) e = absurd (true≢false e)

pub other_store : (t : Table) (store other : List ℕ) (k : Call) → store_fits t k ≡ false → SameGiven t store other k
other_store t store other k wrong =
    by_test (profile_of k.asks).store
    (λ asked. stopped t store other k asked wrong)
    (λ never. never_looks_for t store other k k.asks never)
