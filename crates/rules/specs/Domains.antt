-- Document 01, "Domains": what Create, Change Capacity and Delete make of a domain, and the coverage rule.
use Rattle.std.specs.Prelude.{ℕ, ◌+◌, max, Bool, true, ◌&&◌, cond, eqb, leb, ltb}
use Rattle.geometry.specs.Shape.{drive_planes, whole_blocks}
use Rattle.geometry.specs.declared.shape.Config.{Config}
use Rattle.geometry.specs.declared.shape.Planes.{Planes}
use Rattle.model.specs.Blocks.{freed}
use Rattle.model.specs.declared.block.Block.{Block}
use Rattle.model.specs.declared.table.Domain.{Domain}
use Rattle.model.specs.declared.table.Table.{Table}
use Rattle.rules.specs.Counting.{sum_from, sum_to}
use Rattle.rules.specs.Drive.{clear_domain, domain_at, held_by, held_count, size, with_domain, with_each_block}

-- Guaranteed planes and quota planes are 0 to S × W.
abbrev pub are_plane_counts : Config → Planes → Planes → Bool
are_plane_counts c guarantee quota = leb guarantee.0 (drive_planes c).0 && leb quota.0 (drive_planes c).0

-- An open limit below the number of placement IDs becomes that number plus 2 (003, 12.17).
abbrev pub open_limit : ℕ → ℕ → ℕ
open_limit placements limit = cond (ltb limit placements) (placements + 2) limit

-- Create: both plane counts are rounded up to whole blocks; a quota below the guarantee becomes the guarantee.
unfoldable pub created_domain : Config → Planes → Planes → ℕ → ℕ → Domain
created_domain c guarantee quota placements limit = record {
  exists = true;
  reserved = whole_blocks c guarantee;
  quota = max (whole_blocks c quota) (whole_blocks c guarantee);
  placements = placements;
  limit = open_limit placements limit;
  last = 0;
}

-- Change Capacity: the same two counts, rounded alike; 0 keeps the present one; ..
abbrev pub new_block_count : Config → Planes → ℕ → ℕ
new_block_count c n present = cond (eqb n.0 0) present (whole_blocks c n)

-- .. then a quota below the guarantee or below what is held becomes the larger of them.
unfoldable pub changed_domain : Table → ℕ → Planes → Planes → Domain
changed_domain t d guarantee quota =
    let present = domain_at t d in
    let reserved = new_block_count t.config guarantee present.reserved in
    record {
      exists = present.exists;
      reserved = reserved;
      quota = max (new_block_count t.config quota present.quota) (max reserved (held_count t d));
      placements = present.placements;
      limit = present.limit;
      last = present.last;
    }

-- Delete frees every block of the domain and clears its record.
abbrev pub freed_if_held : ℕ → Block → Block
freed_if_held d b = cond (held_by d b) (freed b) b

unfoldable pub deleted_domain : ℕ → Table → Table
deleted_domain d t = with_domain d clear_domain (with_each_block (freed_if_held d) t)

-- The sum over all domains of the larger of reserved blocks and held blocks.
unfoldable pub coverage : (ℕ → ℕ) → (ℕ → ℕ) → ℕ
coverage reserved blocks = sum_to (λ i. max (reserved (i + 1)) (blocks (i + 1))) 16

-- 02, Wish 4: that sum over the domain d and those above it, up to domain 16. `coverage_total` says that from domain 1 on it is the whole.
unfoldable pub coverage_from : ℕ → (ℕ → ℕ) → (ℕ → ℕ) → ℕ
coverage_from d reserved blocks = sum_from (λ e. max (reserved e) (blocks e)) d 17

abbrev pub reserved_by : Table → ℕ → ℕ
reserved_by t d = (domain_at t d).reserved

-- Coverage rule: that sum is at most S.
abbrev pub covered : Table → Bool
covered t = leb (coverage (reserved_by t) (held_count t)) (size t)

-- The rule as it would be with these two numbers for the domain d.
abbrev pub instead : ℕ → ℕ → (ℕ → ℕ) → ℕ → ℕ
instead d new old e = cond (eqb e d) new (old e)

abbrev pub covered_with : Table → ℕ → ℕ → ℕ → Bool
covered_with t d reserved blocks =
    leb (coverage (instead d reserved (reserved_by t)) (instead d blocks (held_count t))) (size t)
