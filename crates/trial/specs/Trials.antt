-- What a trial comes to: the table of the row is served, and the row holds the table that is handed back.
use Rattle.std.specs.Prelude.{ℕ, suc, ◌+◌, ◌-◌, ◌*◌, ◌%◌, ◌<◌, ◌≤◌, cond, List, ◌≡◌, ltb, length}
use Rattle.geometry.specs.declared.shape.Config.{Config}
use Rattle.model.specs.Answers.{outcome_of}
use Rattle.model.specs.declared.answer.Answer.{Answer}
use Rattle.model.specs.declared.table.Table.{Table}
use Rattle.rules.specs.Calls.{Asked}
use Rattle.rules.specs.Start.{started}
use Rattle.tables.specs.Serving.{ServesFor, answering, served}
use Rattle.trial.specs.Commands.{answer_number, asked_in}
use Rattle.trial.specs.Rows.{row_length, table_in, with_table}

-- What a trial is lent, and leaves.
pub record Lent : Type 0 where
  pub row : List ℕ
  pub store : List ℕ
  pub words : List ℕ
  pub bytes : List ℕ

abbrev pub lending : List ℕ → List ℕ → List ℕ → List ℕ → Lent
lending row store words bytes = record { row = row; store = store; words = words; bytes = bytes }

-- A start: its answer's number, and its table in the row.
pub record Begun (c : Config) (number : ℕ) (before after : List ℕ) : Type 0 where
  pub answer : Answer
  pub answers : outcome_of answer ≡ (started c).answer
  pub told : number ≡ answer_number answer
  pub left : after ≡ with_table (started c).table before

-- A row that is too short for a table gets 17, which no question has.
pub record StartTried (c : Config) (number : ℕ) (before after : List ℕ) : Type 0 where
  pub begun : row_length ≤ length before → Begun c number before after
  pub refused : length before < row_length → (number ≡ 17) × (after ≡ before)

-- One command on a table, or one of the recorder's calls: what the manager's functions or the recorder's may hand back.
pub record Call (x : Asked) (t : Table) (before : Lent) (answer : Answer) (u : Table) (after : Lent) : Type 0 where
  pub serves : ServesFor t x before.store before.words before.bytes
      (served (answering u answer) after.store after.words after.bytes)
  pub same_row_lem : after.row ≡ before.row

-- The lent buffers with the table in the row.
abbrev pub holding : Table → Lent → Lent
holding t l = record { row = with_table t l.row; store = l.store; words = l.words; bytes = l.bytes }

pub record Told (x : Asked) (number : ℕ) (before after : Lent) : Type 0 where
  pub answer : Answer
  pub table : Table
  pub left : Lent
  pub call : Call x (table_in before.row) before answer table left
  pub told : number ≡ answer_number answer
  pub held : after ≡ holding table left

pub record ServeTried (x : Asked) (number : ℕ) (before after : Lent) : Type 0 where
  pub called : row_length ≤ length before.row → Told x number before after
  pub refused : length before.row < row_length → (number ≡ 17) × (after ≡ before)

-- So many commands from a row of them, one after the other and from its start again.
abbrev pub next : List ℕ → ℕ → ℕ
next commands at = cond (ltb (length commands - (at + 6)) 6) 0 (at + 6)

abbrev pub summed : ℕ → Answer → ℕ
summed sum answer = (sum * 31 + answer_number answer) % 4294967296

pub data Calls (commands : List ℕ) : ℕ → ℕ → ℕ → Table → Lent → ℕ → ℕ → Table → Lent → Type 0 where
  none : {at sum : ℕ} {t : Table} {l : Lent} → Calls commands 0 at sum t l at sum t l
  more : {n at sum at₁ sum₁ : ℕ} {t u v : Table} {l m k : Lent} {answer : Answer}
      → Calls commands n at sum t l at₁ sum₁ u m → Call (asked_in commands at₁) u m answer v k
      → Calls commands (suc n) at sum t l (next commands at₁) (summed sum₁ answer) v k

pub record Ran (rounds : ℕ) (commands : List ℕ) (sum : ℕ) (before after : Lent) : Type 0 where
  pub at : ℕ
  pub table : Table
  pub left : Lent
  pub calls : Calls commands rounds 0 0 (table_in before.row) before at sum table left
  pub held : after ≡ holding table left

pub record RunTried (rounds : ℕ) (commands : List ℕ) (number : ℕ) (before after : Lent) : Type 0 where
  pub ran : row_length ≤ length before.row → 6 ≤ length commands → Ran rounds commands number before after
  pub short_row : length before.row < row_length → (number ≡ 17) × (after ≡ before)
  pub short_commands : length commands < 6 → (number ≡ 17) × (after ≡ before)
