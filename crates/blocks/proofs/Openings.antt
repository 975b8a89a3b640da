-- A block that is opened, its stretch put back into the store, is opened in the drive.
use Prim.Native.Nat.{ℕ, ◌+◌}
use mathlib.Core.List.{List}
use mathlib.Core.Path.{◌≡◌}
use lib.ListN.{replicate}
use Rattle.buffers.proofs.Stretches.{with_stretch}
use Rattle.geometry.specs.Shape.{adus_per_block}
use Rattle.geometry.specs.declared.shape.Config.{Config}
use Rattle.model.specs.Blocks.{opened}
use Rattle.model.specs.declared.block.Block.{Block}
use Rattle.model.specs.declared.block.Way.{Way}
use Rattle.model.specs.declared.table.Domain.{Domain}
use Rattle.model.specs.declared.table.Table.{Table}
use Rattle.rules.specs.Blocks.{all_ones, opened_for, with_last}
use Rattle.rules.specs.Drive.{block_at, domain_at, with_block, with_domain}
use Rattle.tables.specs.Serving.{drive}

pub opened_drive : (c : Config) (t : Table) (d n entries : ℕ) (way : Way) (b new : Block) (owner after : Domain) (stretch store : List ℕ)
    → t.config ≡ c → domain_at t d ≡ owner → block_at t n ≡ b → entries ≡ (adus_per_block c).0
    → (new ≡ opened d way (owner.last + 1) c.period b) × (after ≡ with_last (owner.last + 1) owner) × (stretch ≡ replicate entries all_ones)
    → drive (with_domain d after (with_block n new t)) (with_stretch c n stretch store) ≡ opened_for d way n (drive t store)
unfolding opened_for with_stretch
opened_drive c t d n entries way b new owner after stretch store shape whose same all e =
    rw (e.0, e.1, e.2, all, ← shape, ← whose, ← same)
