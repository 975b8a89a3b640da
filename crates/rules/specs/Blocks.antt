-- Document 01, "Blocks": what the commands on blocks do to the drive.
use Rattle.std.specs.Prelude.{ℕ, zero, suc, ◌+◌, ◌-◌, ◌*◌, ◌/◌, ◌%◌, ◌^◌, Bool, ◌&&◌, ◌||◌, cond, List, [], ◌++◌, eqb, ltb, drop, get_or, length, replicate, take}
use Rattle.std.proofs.Math.Option.{Option, none, some}
use Rattle.geometry.specs.Address.{word_of}
use Rattle.geometry.specs.Shape.{adus, stretch_start}
use Rattle.geometry.specs.declared.address.FlashAddress.{FlashAddress}
use Rattle.model.specs.Blocks.{closed, counted_down, freed, opened, written_on}
use Rattle.model.specs.declared.block.Way.{Way}
use Rattle.model.specs.declared.block.Way.TheVariants.{Placement}
use Rattle.model.specs.declared.table.Domain.{Domain}
use Rattle.model.specs.declared.table.Table.{Table}
use Rattle.rules.specs.Counting.{all_to, row_to}
use Rattle.rules.specs.Drive.{Drive, block_at, capacity, domain_at, is_free, new_capacity, open_block, overwritten, size, with_block, with_domain, with_each_block}

-- All 64 bits ones.
abbrev pub all_ones : ℕ
all_ones = 18446744073709551615

-- ---- Opening

abbrev pub with_last : ℕ → Domain → Domain
with_last last r = record {
  exists = r.exists;
  reserved = r.reserved;
  quota = r.quota;
  placements = r.placements;
  limit = r.limit;
  last = last;
}

-- The domain's next serial; serials start at 1 in each domain.
abbrev pub next_serial : Table → ℕ → ℕ
next_serial t d = (domain_at t d).last + 1

-- Block n is opened for the domain d: its record, the domain's last serial, and its entries, which become all ones.
unfoldable pub opened_for : ℕ → Way → ℕ → Drive → Drive
opened_for d way n v =
    let t = v.table in
    let serial = next_serial t d in
    record {
      table =
          with_domain d (with_last serial (domain_at t d))
          (with_block n (opened d way serial t.config.period (block_at t n)) t);
      store = overwritten (stretch_start t.config n).0 (replicate (capacity t n).0 all_ones) v.store;
    }

-- The Free block with the least P/E count, the lowest number among equals: of the blocks below n, a later one is
-- taken only where it has fewer.
abbrev pub better : Table → ℕ → Option ℕ → Option ℕ
better t n none = cond (is_free (block_at t n)) (some n) none
better t n (some m) = cond (is_free (block_at t n) && ltb (block_at t n).erases (block_at t m).erases) (some n) (some m)

unfoldable pub chosen_to : Table → ℕ → Option ℕ
chosen_to t zero = none
chosen_to t (suc n) = better t n (chosen_to t n)

abbrev pub chosen_block : Table → Option ℕ
chosen_block t = chosen_to t (size t)

-- Erase FFFFFFFFh opens that one, Erase of a number opens that block.
abbrev pub any_block : ℕ
any_block = 4294967295

abbrev pub erased_block : Table → ℕ → Option ℕ
erased_block t n = cond (eqb n any_block) (chosen_block t) (some n)

-- ---- Closing and freeing

-- Close makes an open block Closed; on a Closed one it changes nothing.
abbrev pub closed_at : ℕ → Table → Table
closed_at n t = with_block n (closed (block_at t n)) t

-- Free makes a held block Free; the store keeps its entries.
abbrev pub freed_at : ℕ → Table → Table
freed_at n t = with_block n (freed (block_at t n)) t

-- ---- Writing

-- A drive after a write, and the flash addresses that were written.
pub record Written : Type 0 where
  pub drive : Drive
  pub addresses : List ℕ

abbrev pub flash_address : Table → ℕ → ℕ → ℕ → ℕ
flash_address t d n offset = word_of t.config (record { domain = d; block = n; offset = adus offset })

-- User addresses go into block n of the domain d, from its first unwritten ADU on; a full block is Closed at its last ADU.
-- Write by block does no more than this.
unfoldable pub written_into : ℕ → ℕ → List ℕ → Drive → Written
written_into d n users v =
    let t = v.table in
    let b = block_at t n in
    record {
      drive = record {
        table = with_block n (written_on (adus (length users)) (capacity t n) b) t;
        store = overwritten ((stretch_start t.config n).0 + b.written.0) users v.store;
      };
      addresses = row_to (λ i. flash_address t d n (b.written.0 + i)) (length users);
    }

-- The ADUs that a placement's open block still takes.
abbrev pub room_in : Table → Option ℕ → ℕ
room_in t none = 0
room_in t (some n) = (capacity t n).0 - (block_at t n).written.0

abbrev pub room : Table → ℕ → ℕ → ℕ
room t d p = room_in t (open_block t d p)

-- How many blocks so many ADUs open: another is opened only when an ADU remains.
unfoldable pub new_blocks : Table → ℕ → ℕ → ℕ → ℕ
new_blocks t d p count =
    let per_block = (new_capacity t).0 in (count - room t d p + (per_block - 1)) / per_block

-- First into the placement's open block, ..
abbrev pub written_first : ℕ → Option ℕ → List ℕ → Drive → Written
written_first d none users v = record { drive = v; addresses = [] }
written_first d (some n) users v = written_into d n users v

-- .. then into so many others, each chosen as for Erase and opened for the placement.
abbrev pub written_next : ℕ → ℕ → Option ℕ → List ℕ → Drive → Written
written_next d p none users v = record { drive = v; addresses = [] }
written_next d p (some n) users v = written_into d n users (opened_for d (Placement p) n v)

unfoldable pub written_onwards : ℕ → ℕ → ℕ → List ℕ → Drive → Written
written_onwards d p zero users v = record { drive = v; addresses = [] }
written_onwards d p (suc more) users v =
    let per_block = (new_capacity v.table).0 in
    let next = written_next d p (chosen_block v.table) (take per_block users) v in
    let rest = written_onwards d p more (drop per_block users) next.drive in
    record { drive = rest.drive; addresses = next.addresses ++ rest.addresses }

-- Write by placement.
unfoldable pub written_by_placement : ℕ → ℕ → List ℕ → Drive → Written
written_by_placement d p users v =
    let t = v.table in
    let first = written_first d (open_block t d p) (take (room t d p) users) v in
    let rest = written_onwards d p (new_blocks t d p (length users)) (drop (room t d p) users) first.drive in
    record { drive = rest.drive; addresses = first.addresses ++ rest.addresses }

-- ---- User addresses

-- A user address has an LBA in its low 40 bits and meta in its high 24 (003, 14.17).
abbrev pub lba : ℕ → ℕ
lba u = u % 2 ^ 40

abbrev pub meta : ℕ → ℕ
meta u = u / 2 ^ 40

-- ADU i carries LBA + i and the same meta; a start of all ones puts all ones on every ADU.
unfoldable pub user_address : ℕ → ℕ → ℕ
user_address start i = cond (eqb start all_ones) all_ones (meta start * 2 ^ 40 + (lba start + i))

abbrev pub user_addresses : ℕ → ℕ → List ℕ
user_addresses start count = row_to (user_address start) count

-- ---- Reading

-- The stored user addresses from a flash address on.
abbrev pub stored : Drive → FlashAddress → ℕ → List ℕ
stored v a count = take count (drop ((stretch_start v.table.config a.block).0 + a.offset.0) v.store)

-- Entry by entry; all ones expected matches anything.
unfoldable pub matches : ℕ → List ℕ → Bool
matches expected entries =
    eqb expected all_ones || all_to (λ i. eqb (get_or entries i 0) (user_address expected i)) (length entries)

-- ---- Counting down

-- A pulse changes the record of each open block and no other record.
abbrev pub pulsed : ℕ → Table → Table
pulsed seconds t = with_each_block (counted_down seconds) t
