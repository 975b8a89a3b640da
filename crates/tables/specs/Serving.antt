-- What the functions of the manager and of the recorder, and each command's function, are given and hand back, in the rules' terms.
use Rattle.std.specs.Prelude.{ℕ, List, Result, Ok, Err}
use Rattle.tables.specs.declared.served.Served.{Served}
use Rattle.model.specs.Answers.{outcome_of}
use Rattle.model.specs.declared.answer.Answer.{Answer}
use Rattle.model.specs.declared.answer.Answer.TheVariants.{Done, Refused}
use Rattle.model.specs.declared.answer.Refusal.{Refusal}
use Rattle.model.specs.declared.command.Command.{Command}
use Rattle.model.specs.declared.table.Table.{Table}
use Rattle.rules.specs.Calls.{Asked, calling_for, command}
use Rattle.rules.specs.Drive.{Drive}
use Rattle.rules.specs.Effects as rules

-- The drive that a command is given, and what it hands back with what the lent buffers then hold.
abbrev pub drive : Table → List ℕ → Drive
drive t store = record { table = t; store = store }

abbrev pub served : Served → List ℕ → List ℕ → List ℕ → rules.Served
served r store words bytes = record {
  answer = outcome_of r.answer;
  drive = drive r.table store;
  words = words;
  bytes = bytes;
}

-- The answer of a command, and the table that it leaves.
abbrev pub answering : Table → Answer → Served
answering t answer = record { answer = answer; table = t }

-- The answer of a command that answers success alone.
abbrev pub answer_from : Result (Unit {0}) Refusal → Answer
answer_from (Ok _) = Done
answer_from (Err reason) = Refused reason

-- A refusal leaves the table.
abbrev pub refusing : Table → Refusal → Served
refusing t reason = answering t (Refused reason)

-- What a function of the manager or of the recorder may hand back, given a table, what is asked for and these buffers. `ServesCommand` is
-- the same for a command.
abbrev pub ServesFor : Table → Asked → List ℕ → List ℕ → List ℕ → rules.Served → Type 0
ServesFor t x store words bytes r = rules.Serves (drive t store) (calling_for x store words bytes) words bytes r

abbrev pub ServesCommand : Table → Command → List ℕ → List ℕ → List ℕ → rules.Served → Type 0
ServesCommand t c store words bytes r = ServesFor t (command c) store words bytes r
