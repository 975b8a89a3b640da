-- What Create is asked of its arguments, a domain's new record, and what is made of it.
use Rattle.std.specs.Prelude.{ℕ, max, Bool, ◌&&◌, cond}
use Rattle.geometry.specs.Shape.{between}
use Rattle.geometry.specs.declared.shape.Config.{Config}
use Rattle.geometry.specs.declared.shape.Planes.{Planes}
use Rattle.tables.specs.Changing.{domain_change, leaving}
use Rattle.tables.specs.declared.change.Outcome.{Outcome}
use Rattle.model.specs.declared.answer.Answer.TheVariants.{Done, Refused}
use Rattle.model.specs.declared.answer.Refusal.TheVariants.{Coverage}
use Rattle.model.specs.declared.table.Domain.{Domain}
use Rattle.model.specs.declared.table.Table.{Table}
use Rattle.rules.specs.Domains.{are_plane_counts, covered_with, new_block_count}
use Rattle.rules.specs.Drive.{held_count}

-- What is asked of the arguments of Create.
abbrev pub create_range : Config → Planes → Planes → ℕ → ℕ → Bool
create_range c guarantee quota placements limit = are_plane_counts c guarantee quota && between 1 16 placements && between 0 256 limit

-- What Change Capacity makes of the record of a domain that holds so many blocks.
unfoldable pub changed_from : Config → Domain → ℕ → Planes → Planes → Domain
changed_from c present held guarantee quota =
    let reserved = new_block_count c guarantee present.reserved in
    record {
      exists = present.exists;
      reserved = reserved;
      quota = max (new_block_count c quota present.quota) (max reserved held);
      placements = present.placements;
      limit = present.limit;
      last = present.last;
    }

-- Question 14 for a domain's new record: it takes the old one's place, or nothing changes.
unfoldable pub reserved : Table → ℕ → Domain → Outcome
reserved t d new =
    cond
    (covered_with t d new.reserved (held_count t d))
    (record { answer = Done; change = domain_change d new })
    (leaving (Refused Coverage))
