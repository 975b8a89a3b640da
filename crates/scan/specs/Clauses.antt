-- How the scan of the blocks and the one of the domains test the clauses of soundness.
use Rattle.std.specs.Prelude.{ℕ, zero, suc, ◌+◌, ◌*◌, ◌/◌, ◌%◌, ◌-◌, max, Bool, not, ◌&&◌, cond, List, Option, Some, None, eqb, ltb, get_or}
use Rattle.geometry.specs.Address.{is_domain_id}
use Rattle.model.specs.declared.block.Block.{Block}
use Rattle.model.specs.declared.block.State.{State}
use Rattle.model.specs.declared.block.State.TheVariants.{Closed, Free, Open}
use Rattle.model.specs.declared.block.Way.TheVariants.{Erase, Placement}
use Rattle.model.specs.declared.table.Domain.{Domain}
use Rattle.model.specs.declared.table.Table.{Table}
use Rattle.rules.specs.Counting.{all_to, sum_to}
use Rattle.rules.specs.Drive.{block_at, capacity, clear_domain, is_free}
use Rattle.rules.specs.Soundness.{block_sound, domain_sound, serials_differ}

-- Where the record of a holder stands: domain d at d - 1. What is no domain's ID has the first record; its block is not sound in any case.
abbrev pub domain_index : ℕ → ℕ
domain_index holder = cond (is_domain_id holder) (holder - 1) 0

abbrev pub holder_record : Table → Block → Domain
holder_record t b = get_or t.domains (domain_index b.holder) clear_domain

-- What two open blocks of one placement share; 256 for any other block, and where no sound table has such a holder or placement.
abbrev pub place_for : ℕ → ℕ → ℕ
place_for holder placement = cond (is_domain_id holder && ltb placement 16) (16 * (holder - 1) + placement) 256

-- As the code has it, none for 256.
abbrev pub some_place : ℕ → Option ℕ
some_place place = cond (ltb place 256) (Some place) None

abbrev pub place_in : State → ℕ → ℕ
place_in Free holder = 256
place_in (Open Erase) holder = 256
place_in (Open (Placement p)) holder = place_for holder p
place_in (Closed way) holder = 256

unfoldable pub place_of : Block → ℕ
place_of b = place_in b.state b.holder

-- What two blocks of one domain with the same serial share; 256 for a Free block.
abbrev pub key_of : ℕ → ℕ → ℕ
key_of holder serial = (serial + 123457 * holder) * 2654435769 % 4294967296 / 16777216

unfoldable pub serial_key : Block → ℕ
serial_key b = cond (is_free b) 256 (key_of b.holder b.serial)

-- The number after the last of 0 to n - 1 that passes; 0 where none does.
unfoldable pub last_to : (ℕ → Bool) → ℕ → ℕ
last_to p zero = 0
last_to p (suc n) = cond (p n) (suc n) (last_to p n)

-- Blocks with a key.
abbrev pub same_key : Table → ℕ → ℕ → Bool
same_key t k i = eqb (serial_key (block_at t i)) k

-- Of a block and those before it.
unfoldable pub place_new : Table → ℕ → Bool
place_new t n =
    let s = place_of (block_at t n) in not (not (all_to (λ i. not (eqb (place_of (block_at t i)) s)) n) && ltb s 256)

unfoldable pub serial_new : Table → ℕ → Bool
serial_new t n = all_to (λ i. serials_differ (block_at t n) (block_at t i)) n

unfoldable pub blocks_sound : Table → ℕ → Bool
blocks_sound t n =
    all_to
    (λ i. block_sound (capacity t i).0 t.config.period (holder_record t (block_at t i)) (block_at t i)
    && place_new t i
    && serial_new t i)
    n

-- Every domain, with the blocks that each holds and has open.
unfoldable pub domains_sound : List Domain → ℕ → (ℕ → ℕ) → (ℕ → ℕ) → ℕ → Bool
domains_sound rs blocks held opened n = all_to (λ i. domain_sound blocks (held i) (opened i) (get_or rs i clear_domain)) n

-- The larger of reserved and held, over the first n domains.
unfoldable pub covered_to : List Domain → (ℕ → ℕ) → ℕ → ℕ
covered_to rs held n = sum_to (λ i. max (get_or rs i clear_domain).reserved (held i)) n
