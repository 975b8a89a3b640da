-- A command, or one of the recorder's calls, as six numbers, its kind and its arguments in their order, and an answer as one.
use Rattle.std.specs.Prelude.{ℕ, ◌+◌, ◌%◌, cond, List, eqb, ltb}
use Rattle.geometry.specs.Shape.{adus, planes}
use Rattle.model.specs.Answers.{number_of}
use Rattle.model.specs.declared.answer.Answer.{Answer}
use Rattle.model.specs.declared.answer.Answer.TheVariants as given
use Rattle.model.specs.declared.command.Command.{Command}
use Rattle.model.specs.declared.command.Command.TheVariants.{ChangeCapacity, Close, Create, Delete, Erase, Free, List as Listing, Page, Pulse, Read}
use Rattle.model.specs.declared.command.Command.TheVariants.{WriteByBlock, WriteByPlacement}
use Rattle.model.specs.declared.command.Listed.{Listed}
use Rattle.model.specs.declared.command.Listed.TheVariants as listed
use Rattle.rules.specs.Calls.{Asked, append, command, latest}
use Rattle.trial.specs.Rows.{number_in}
use Rattle.trial.specs.declared.commands.Request.{Request}
use Rattle.trial.specs.declared.commands.Request.TheVariants as request

abbrev pub listed_of : ℕ → Listed
listed_of n = cond (eqb n 0) listed.Open listed.Closed

-- What five arguments in a row make.
abbrev pub of_five : {A : Type 0} → (ℕ → ℕ → ℕ → ℕ → ℕ → A) → List ℕ → A
of_five f row = f (number_in row 0) (number_in row 1) (number_in row 2) (number_in row 3) (number_in row 4)

-- On domains and blocks, kinds 0 to 5.
abbrev pub change_of : ℕ → ℕ → ℕ → ℕ → ℕ → ℕ → Command
change_of kind a b c d e =
    cond (eqb kind 0) (Create a (planes b) (planes c) d e)
    (cond (eqb kind 1) (ChangeCapacity a (planes b) (planes c))
    (cond (eqb kind 2) (Delete a)
    (cond (eqb kind 3) (Erase a b)
    (cond (eqb kind 4) (Close a b) (Free a b)))))

-- On ADUs, log pages and time, kinds 6 to 11.
abbrev pub transfer_of : ℕ → ℕ → ℕ → ℕ → ℕ → Command
transfer_of kind a b c d =
    cond (eqb kind 6) (WriteByPlacement a b c (adus d))
    (cond (eqb kind 7) (WriteByBlock a b c (adus d))
    (cond (eqb kind 8) (Read a b (adus c) d)
    (cond (eqb kind 9) (Page a b)
    (cond (eqb kind 10) (Listing a (listed_of b)) (Pulse a)))))

unfoldable pub command_of : ℕ → ℕ → ℕ → ℕ → ℕ → ℕ → Command
command_of kind a b c d e = cond (ltb kind 6) (change_of kind a b c d e) (transfer_of kind a b c d)

-- What six numbers ask for: a command, or one of the recorder's calls, kinds 12 and 13.
unfoldable pub asked_of : ℕ → ℕ → ℕ → ℕ → ℕ → ℕ → Asked
asked_of kind a b c d e =
    cond (eqb kind 12) (append a b)
    (cond (eqb kind 13) (latest a (adus b)) (command (command_of kind a b c d e)))

unfoldable pub asked_in : List ℕ → ℕ → Asked
asked_in row at =
    asked_of (number_in row at) (number_in row (at + 1)) (number_in row (at + 2)) (number_in row (at + 3)) (number_in row (at + 4)) (number_in row (at + 5))

-- What a request asks for.
abbrev pub asked_for : Request → Asked
asked_for (request.Command c) = command c
asked_for (request.Append d sample) = append d sample
asked_for (request.Latest d count) = latest d count

-- 0 for success, a refusal's number, or 256 more than a block's.
abbrev pub answer_number : Answer → ℕ
answer_number given.Done = 0
answer_number (given.Block n) = 256 + n % 4294967296
answer_number (given.Refused reason) = number_of reason
