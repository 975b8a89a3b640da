-- Document 01, "Blocks": "A table is sound if: ..", clause by clause: those of one domain, of one block, and of
-- every two blocks.
use Rattle.std.specs.Prelude.{ℕ, Bool, true, false, not, ◌&&◌, eqb, leb, ltb}
use Rattle.geometry.specs.Address.{is_domain_id}
use Rattle.geometry.specs.Shape.{between, within_limits}
use Rattle.model.specs.declared.block.Block.{Block}
use Rattle.model.specs.declared.block.State.{State}
use Rattle.model.specs.declared.block.State.TheVariants.{Closed, Free, Open}
use Rattle.model.specs.declared.block.Way.{Way}
use Rattle.model.specs.declared.block.Way.TheVariants.{Erase, Placement}
use Rattle.model.specs.declared.table.Domain.{Domain}
use Rattle.model.specs.declared.table.Table.{Table}
use Rattle.rules.specs.Counting.{all_to, implies}
use Rattle.rules.specs.Domains.{covered}
use Rattle.rules.specs.Drive.{block_at, capacity, domain_at, each_domain, held_count, is_free, is_placed_state, open_count, size}

-- ---- One domain: its record, with the blocks that it holds and has open, on a drive of so many

-- reserved ≤ quota ≤ S and held ≤ quota
abbrev pub quota_kept : ℕ → ℕ → Domain → Bool
quota_kept blocks held r = leb r.reserved r.quota && leb r.quota blocks && leb held r.quota

-- placement IDs 1 to 16, open limit from that number to 256, blocks open ≤ open limit
abbrev pub open_limit_kept : ℕ → Domain → Bool
open_limit_kept opened r =
    implies r.exists
    (between 1 16 r.placements && between r.placements 256 r.limit && leb opened r.limit)

-- missing domains are clear
abbrev pub missing_is_clear : Domain → Bool
missing_is_clear r =
    implies (not r.exists)
    (eqb r.reserved 0 && eqb r.quota 0 && eqb r.placements 0 && eqb r.limit 0 && eqb r.last 0)

unfoldable pub domain_sound : ℕ → ℕ → ℕ → Domain → Bool
domain_sound blocks held opened r = quota_kept blocks held r && open_limit_kept opened r && missing_is_clear r

-- ---- One block: its record, with that of its holder, its capacity and the open period

-- serials within a domain .. lie in 1 to its last
abbrev pub serial_given : Domain → Block → Bool
serial_given r b = implies (not (is_free b)) (between 1 r.last b.serial)

-- holders exist
abbrev pub holder_exists : Domain → Block → Bool
holder_exists r b = implies (not (is_free b)) (is_domain_id b.holder && r.exists)

-- placements are below the number of IDs
abbrev pub way_below : ℕ → Way → Bool
way_below placements Erase = true
way_below placements (Placement p) = ltb p placements

abbrev pub state_below : ℕ → State → Bool
state_below placements Free = true
state_below placements (Open way) = way_below placements way
state_below placements (Closed way) = way_below placements way

abbrev pub placement_exists : Domain → Block → Bool
placement_exists r b = state_below r.placements b.state

-- open has written < C and left 1 to T, Closed written ≤ C and left 0
abbrev pub counts_kept : ℕ → ℕ → State → Block → Bool
counts_kept c period Free b = true
counts_kept c period (Open way) b = ltb b.written.0 c && between 1 period b.left
counts_kept c period (Closed way) b = leb b.written.0 c && eqb b.left 0

-- Free records (but for the P/E count) are clear
abbrev pub is_clear : Block → Bool
is_clear b = eqb b.holder 0 && eqb b.written.0 0 && eqb b.left 0 && eqb b.serial 0

abbrev pub free_is_clear : Block → Bool
free_is_clear b = implies (is_free b) (is_clear b)

unfoldable pub block_sound : ℕ → ℕ → Domain → Block → Bool
block_sound capacity period r b =
    serial_given r b
    && holder_exists r b
    && placement_exists r b
    && counts_kept capacity period b.state b
    && free_is_clear b

-- ---- Every two blocks

-- Two blocks of one domain.
abbrev pub same_holder : Block → Block → Bool
same_holder b other = not (is_free b) && not (is_free other) && eqb b.holder other.holder

-- A test of every two blocks.
abbrev pub each_pair : Table → (Block → Block → Bool) → Bool
each_pair t p = all_to (λ n. all_to (λ m. p (block_at t n) (block_at t m)) n) (size t)

-- serials within a domain differ
abbrev pub serials_differ : Block → Block → Bool
serials_differ b other = not (same_holder b other && eqb b.serial other.serial)

-- a placement has one open block at most
abbrev pub same_placement : State → State → Bool
same_placement Free other = false
same_placement (Open Erase) other = false
same_placement (Open (Placement p)) other = is_placed_state p other
same_placement (Closed way) other = false

abbrev pub placements_differ : Block → Block → Bool
placements_differ b other = not (same_holder b other && same_placement b.state other.state)

-- ---- The table

-- the configuration is within limits; coverage holds; and the clauses above
unfoldable pub sound : Table → Bool
sound t =
    within_limits t.config
    && each_domain (λ d. domain_sound (size t) (held_count t d) (open_count t d) (domain_at t d))
    && covered t
    && all_to
    (λ n. block_sound (capacity t n).0 t.config.period (domain_at t (block_at t n).holder) (block_at t n))
    (size t)
    && each_pair t serials_differ
    && each_pair t placements_differ
