-- What a call finds of a drive, and what follows from it for the blocks that a command names.
use Prim.Native.Nat.{◌≤◌}
use mathlib.Core.Bool.{true}
use mathlib.Core.Path.{◌≡◌, refl}
use native.Mathlib.Omega.{arith}
use lib.ListN.{length}
use borrow.Author.Tests.{eqb-true}
use Rattle.geometry.specs.Shape.{store_length}
use Rattle.rules.specs.Calls.{Call}
use Rattle.rules.specs.Claims.{LentOwn, Shaped}
use Rattle.rules.specs.Drive.{Drive, size}
use Rattle.rules.specs.Questions.{store_fits}
use Rattle.rules.proofs.Kept.Facts.{Facts}
use Rattle.rules.proofs.Kept.OneBlock.{few_blocks}
use Rattle.rules.proofs.Writes.{Ready}

-- A sound table with a record for each domain and block, and the drive's own store if it is lent a whole one.
pub record Fit (v : Drive) (call : Call) : Type 0 where
  pub facts : Facts v
  pub shaped : Shaped v.table
  pub own : LentOwn v call

pub fit_blocks : {v : Drive} {call : Call} → Fit v call → size v.table ≤ length v.table.blocks
fit_blocks {v} f = omega (arith, f.shaped.blocks, few_blocks f.facts)

pub fit_ready : {v : Drive} {call : Call} → Fit v call → store_fits v.table call ≡ true → Ready v.table.config v
fit_ready {v} {call} f e = record {
  shape = refl;
  blocks = fit_blocks f;
  store = f.own (eqb-true call.lent.store (store_length v.table.config).0 e);
}
