-- A run on a table: so many commands from a row of them, one after the other, whatever row the table came from.
use Rattle.std.specs.Prelude.{ℕ, List}
use Rattle.model.specs.declared.table.Table.{Table}
use Rattle.trial.specs.Trials.{Calls, lending}

pub record Runs (rounds : ℕ) (commands : List ℕ) (t : Table) (store words bytes : List ℕ) (sum : ℕ) (u : Table) (store₁ words₁ bytes₁ : List ℕ) : Type 0 where
  pub at : ℕ
  pub calls : (row : List ℕ) → Calls commands rounds 0 0 t (lending row store words bytes) at sum u (lending row store₁ words₁ bytes₁)
