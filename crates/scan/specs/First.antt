-- What every command is asked first, of a table and of what is seen of it.
use Rattle.std.specs.Prelude.{ℕ, Bool, List, [], ◌≡◌}
use Rattle.geometry.specs.Questions.{Question, first_no}
use Rattle.model.specs.declared.command.Command.{Command}
use Rattle.model.specs.declared.table.Table.{Table}
use Rattle.rules.specs.Calls as rules
use Rattle.rules.specs.Questions.{first_questions}
use Rattle.scan.specs.Summary.{Sees}
use Rattle.scan.specs.declared.first.Kind.{Kind}
use Rattle.scan.specs.declared.first.Own.{Own}
use Rattle.scan.specs.declared.first.Own.TheVariants.{Existing, Missing, Nobody}
use Rattle.scan.specs.declared.summary.Summary.{Summary}
use Rattle.tables.specs.Serving.{drive}

-- The rules' first questions of a command that is lent so many entries of the store. They ask nothing of what the entries hold, nor of
-- the words and bytes.
abbrev pub first_asked : Table → Command → ℕ → List Question
first_asked t c entries = first_questions (drive t []) (rules.lending c entries 0 0)

-- They are answered yes, ..
abbrev pub Begins : Table → Command → ℕ → Type 0
Begins t c entries = first_no (first_asked t c entries) ≡ 0

-- .. of every table that is seen so. Of a command that does not use the store they are the same for any number of entries.
abbrev pub FirstPassed : Command → ℕ → Summary → Type 0
FirstPassed c entries x = (t : Table) → Sees t (rules.domain_of (rules.profile c).own) x → Begins t c entries

-- ---- What a command names and uses, as the code has it

abbrev pub own_in : Own → rules.Own
own_in (Existing d) = rules.existing d
own_in (Missing d) = rules.missing d
own_in Nobody = rules.nobody

abbrev pub existing_of : ℕ → Bool → Kind
existing_of d store = record { own = Existing d; store = store }

pub record KindOf (c : Command) (r : Kind) : Type 0 where
  pub same_own : own_in r.own ≡ (rules.profile c).own
  pub same_store : r.store ≡ (rules.profile c).store
