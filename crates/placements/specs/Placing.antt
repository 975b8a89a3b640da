-- The placement's open block: what it takes, and what writing into it needs.
use Rattle.std.specs.Prelude.{ℕ, ◌+◌, ◌-◌, ◌≤◌, ◌<◌, true, ◌≡◌, Option, None, Some}
use Rattle.geometry.specs.Address.{is_domain_id}
use Rattle.geometry.specs.Shape.{store_length, within_limits}
use Rattle.geometry.specs.declared.shape.Config.{Config}
use Rattle.model.specs.declared.block.Block.{Block}
use Rattle.model.specs.declared.table.Domain.{Domain}
use Rattle.model.specs.declared.table.Table.{Table}
use Rattle.placements.specs.Onwards.{blocks_in}
use Rattle.rules.specs.Drive.{block_adus, domain_at, with_block}
use Rattle.scan.specs.Summary.{SeesPlacement}
use Rattle.scan.specs.declared.summary.Summary.{Summary}
use Rattle.tables.specs.Changing.{domain_change, opening_change}
use Rattle.tables.specs.declared.change.Change.{Change}
use Rattle.transfers.specs.Transfers.{MayWriteIn}

-- The ADUs that the placement's open block still takes.
abbrev pub room_of : Option ℕ → Config → Block → ℕ
room_of None c b = 0
room_of (Some n) c b = (block_adus c n).0 - b.written.0

abbrev pub room_seen : Summary → ℕ
room_seen x = room_of x.found x.config x.block

-- ---- The placement's open block

-- The owner's record, with the new one of that block if there is one.
abbrev pub put_change : Option ℕ → Block → ℕ → Domain → Change
put_change None b d r = domain_change d r
put_change (Some n) b d r = opening_change n b d r

-- A table with its new record.
abbrev pub into_table : Option ℕ → Block → Table → Table
into_table None b t = t
into_table (Some n) b t = with_block n b t

-- What writing so many ADUs into it needs.
pub record MayFill (x : Summary) (entries d put : ℕ) : Type 0 where
  pub whole : x.sound ≡ true
  pub all_entries : entries ≡ (store_length x.config).0
  pub writes : (n : ℕ) → x.found ≡ Some n → MayWriteIn x.config d n x.block put

-- What a write by placement needs, of what is seen, ..
pub record MayPlace (x : Summary) (entries d count : ℕ) : Type 0 where
  pub whole : x.sound ≡ true
  pub within : within_limits x.config ≡ true
  pub id : is_domain_id d ≡ true
  pub all_entries : entries ≡ (store_length x.config).0
  pub some_written : 1 ≤ count
  pub serials : x.domain.last + blocks_in x.config (count - room_seen x) ≤ 4294967295
  pub open_inside : (n : ℕ) → x.found ≡ Some n → n < x.config.blocks
  pub open_room : (n : ℕ) → x.found ≡ Some n → x.block.written.0 < (block_adus x.config n).0

-- .. and of the table that it is seen of.
pub record Places (t : Table) (d p : ℕ) (x : Summary) : Type 0 where
  pub same_config : t.config ≡ x.config
  pub same_owner : domain_at t d ≡ x.domain
  pub seen : SeesPlacement t d p x
