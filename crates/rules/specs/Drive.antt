-- The drive that the rules speak of, its table and its store, and how blocks and domains are found, counted and replaced in it.
use Rattle.std.specs.Prelude.{ℕ, zero, suc, ◌+◌, ◌-◌, Bool, true, false, ◌&&◌, cond, List, [], ◌++◌, map, eqb, drop, get_or, length, set, take}
use Rattle.std.proofs.Math.Option.{Option, none, some}
use Rattle.geometry.specs.Shape.{adus_per_block, stretch_start}
use Rattle.geometry.specs.declared.shape.Adus.{Adus}
use Rattle.geometry.specs.declared.shape.Config.{Config}
use Rattle.model.specs.Blocks.{free_block}
use Rattle.model.specs.declared.block.Block.{Block}
use Rattle.model.specs.declared.block.State.{State}
use Rattle.model.specs.declared.block.State.TheVariants.{Closed, Free, Open}
use Rattle.model.specs.declared.block.Way.TheVariants.{Erase, Placement}
use Rattle.model.specs.declared.table.Domain.{Domain}
use Rattle.model.specs.declared.table.Table.{Table}
use Rattle.rules.specs.Counting.{all_to, count_to}

pub record Drive : Type 0 where
  pub table : Table
  pub store : List ℕ

-- A clear record of a block and of a domain.
abbrev pub clear_block : Block
clear_block = free_block 0

abbrev pub clear_domain : Domain
clear_domain = record { exists = false; reserved = 0; quota = 0; placements = 0; limit = 0; last = 0 }

-- Block n, and the domain with the ID d; IDs begin at 1.
abbrev pub block_at : Table → ℕ → Block
block_at t n = get_or t.blocks n clear_block

abbrev pub domain_at : Table → ℕ → Domain
domain_at t d = get_or t.domains (d - 1) clear_domain

-- S
abbrev pub size : Table → ℕ
size t = t.config.blocks

-- The ADUs of block n, which are C for every block.
abbrev pub block_adus : Config → ℕ → Adus
block_adus c n = adus_per_block c

abbrev pub capacity : Table → ℕ → Adus
capacity t n = block_adus t.config n

-- The ADUs of a block that a write opens, whichever is chosen: C.
abbrev pub new_capacity : Table → Adus
new_capacity t = adus_per_block t.config

-- A test of every domain ID.
abbrev pub each_domain : (ℕ → Bool) → Bool
each_domain p = all_to (λ i. p (i + 1)) 16

-- ---- A block's state

abbrev pub is_free_state : State → Bool
is_free_state Free = true
is_free_state (Open way) = false
is_free_state (Closed way) = false

abbrev pub is_open_state : State → Bool
is_open_state Free = false
is_open_state (Open way) = true
is_open_state (Closed way) = false

abbrev pub is_closed_state : State → Bool
is_closed_state Free = false
is_closed_state (Open way) = false
is_closed_state (Closed way) = true

-- Open by Erase.
abbrev pub is_erased_state : State → Bool
is_erased_state Free = false
is_erased_state (Open Erase) = true
is_erased_state (Open (Placement p)) = false
is_erased_state (Closed way) = false

-- Open for Nameless Write, for the placement p.
abbrev pub is_placed_state : ℕ → State → Bool
is_placed_state p Free = false
is_placed_state p (Open Erase) = false
is_placed_state p (Open (Placement q)) = eqb q p
is_placed_state p (Closed way) = false

abbrev pub is_free : Block → Bool
is_free b = is_free_state b.state

abbrev pub is_open : Block → Bool
is_open b = is_open_state b.state

abbrev pub is_closed : Block → Bool
is_closed b = is_closed_state b.state

abbrev pub is_open_by_erase : Block → Bool
is_open_by_erase b = is_erased_state b.state

abbrev pub is_open_for : ℕ → Block → Bool
is_open_for p b = is_placed_state p b.state

-- ---- A domain's blocks

abbrev pub held_by : ℕ → Block → Bool
held_by d b = eqb b.holder d

abbrev pub open_of : ℕ → Block → Bool
open_of d b = held_by d b && is_open b

abbrev pub closed_of : ℕ → Block → Bool
closed_of d b = held_by d b && is_closed b

-- How many blocks the domain d holds, and how many of them are open and Closed.
unfoldable pub held_count : Table → ℕ → ℕ
held_count t d = count_to (λ n. held_by d (block_at t n)) (size t)

unfoldable pub open_count : Table → ℕ → ℕ
open_count t d = count_to (λ n. open_of d (block_at t n)) (size t)

unfoldable pub closed_count : Table → ℕ → ℕ
closed_count t d = count_to (λ n. closed_of d (block_at t n)) (size t)

-- The block that the placement p of the domain d has open, looked for below n; there is one at most.
unfoldable pub open_block_to : Table → ℕ → ℕ → ℕ → Option ℕ
open_block_to t d p zero = none
open_block_to t d p (suc n) =
    cond (held_by d (block_at t n) && is_open_for p (block_at t n)) (some n) (open_block_to t d p n)

abbrev pub open_block : Table → ℕ → ℕ → Option ℕ
open_block t d p = open_block_to t d p (size t)

-- The block of the domain d with this serial, looked for below n; there is one at most.
unfoldable pub block_with_to : Table → ℕ → ℕ → ℕ → Option ℕ
block_with_to t d serial zero = none
block_with_to t d serial (suc n) =
    cond (held_by d (block_at t n) && eqb (block_at t n).serial serial) (some n) (block_with_to t d serial n)

abbrev pub block_with : Table → ℕ → ℕ → Option ℕ
block_with t d serial = block_with_to t d serial (size t)

-- What is told of some block, if there is one.
abbrev pub told_of : (ℕ → List ℕ) → Option ℕ → List ℕ
told_of told none = []
told_of told (some n) = told n

-- What is told of the domain's blocks by rising serial: of those with the serials 1, 2, .. up to this one, ..
unfoldable pub by_serial_to : (ℕ → List ℕ) → Table → ℕ → ℕ → List ℕ
by_serial_to told t d zero = []
by_serial_to told t d (suc serial) = by_serial_to told t d serial ++ told_of told (block_with t d (suc serial))

-- .. and up to the domain's last one.
abbrev pub by_serial : (ℕ → List ℕ) → Table → ℕ → List ℕ
by_serial told t d = by_serial_to told t d (domain_at t d).last

-- The entries of block n in the store.
unfoldable pub entries_of : Drive → ℕ → List ℕ
entries_of v n = take (capacity v.table n).0 (drop (stretch_start v.table.config n).0 v.store)

-- ---- Replacing

abbrev pub with_blocks : List Block → Table → Table
with_blocks bs t = record { config = t.config; domains = t.domains; blocks = bs }

abbrev pub with_block : ℕ → Block → Table → Table
with_block n b t = with_blocks (set t.blocks n b) t

-- The same change of every block of the drive; entries at S and above are none.
abbrev pub with_each_block : (Block → Block) → Table → Table
with_each_block change t = with_blocks (map change (take (size t) t.blocks) ++ drop (size t) t.blocks) t

abbrev pub with_domain : ℕ → Domain → Table → Table
with_domain d r t = record { config = t.config; domains = set t.domains (d - 1) r; blocks = t.blocks }

-- A row with new entries from a place on, and as it was before and behind them.
unfoldable pub overwritten : ℕ → List ℕ → List ℕ → List ℕ
overwritten at new row = take at row ++ (new ++ drop (length new) (drop at row))
