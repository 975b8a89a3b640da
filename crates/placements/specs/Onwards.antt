-- What is left of a write by placement, and how it goes on from block to block.
use Rattle.std.specs.Prelude.{Result, Ok, Err, ℕ, ◌+◌, ◌-◌, ◌/◌, ◌≤◌, true, cond, List, [], ◌≡◌, eqb, leb, ltb, length}
use Rattle.geometry.specs.Address.{is_domain_id}
use Rattle.geometry.specs.Shape.{adus, adus_per_block, store_length, within_limits}
use Rattle.geometry.specs.declared.shape.Adus.{Adus}
use Rattle.geometry.specs.declared.shape.Config.{Config}
use Rattle.model.specs.declared.answer.Answer.{Answer}
use Rattle.model.specs.declared.answer.Answer.TheVariants.{Block as AnswerBlock, Done, Refused}
use Rattle.model.specs.declared.answer.Refusal.{Refusal}
use Rattle.model.specs.declared.block.Block.{Block}
use Rattle.model.specs.declared.command.Command.{Command}
use Rattle.model.specs.declared.table.Domain.{Domain}
use Rattle.model.specs.declared.table.Table.{Table}
use Rattle.placements.specs.declared.rest.Partial.{Partial}
use Rattle.placements.specs.declared.rest.Rest.{Rest}
use Rattle.rules.specs.Blocks.{Written, user_address, user_addresses, written_onwards}
use Rattle.rules.specs.Drive.{Drive, overwritten}
use Rattle.rules.specs.Questions.{user_addresses_fit}
use Rattle.tables.specs.Changing.{changed_table, leaving, table_with}
use Rattle.tables.specs.Serving.{ServesCommand, answering, drive, served}
use Rattle.tables.specs.declared.change.Outcome.{Outcome}

-- The blocks that so many ADUs fill or begin.
unfoldable pub blocks_in : Config → ℕ → ℕ
blocks_in c count = let per_block = (adus_per_block c).0 in (count + (per_block - 1)) / per_block

-- So many user addresses from a start on, into blocks that are opened for them.
abbrev pub onwards : ℕ → ℕ → ℕ → ℕ → Drive → Written
onwards d p start count v = written_onwards d p (blocks_in v.table.config count) (user_addresses start count) v

-- Nothing is written.
abbrev pub nothing_written : Drive → Written
nothing_written v = record { drive = v; addresses = [] }

-- ---- What is left

-- The one value for it, whatever was written before.
abbrev pub nothing_left : Rest
nothing_left = record { placement = 0; start = 0; count = adus 0; done = 0 }

abbrev pub complete_of : Outcome → Partial
complete_of outcome = record { outcome = outcome; rest = nothing_left }

-- A refusal leaves nothing to write.
abbrev pub partial_from : Result Partial Refusal → Partial
partial_from (Ok partial) = partial
partial_from (Err reason) = complete_of (leaving (Refused reason))

-- All of a write, before its first ADU.
abbrev pub whole_write : ℕ → ℕ → Adus → Rest
whole_write p start count = record { placement = p; start = start; count = count; done = 0 }

-- The ADUs from number k on.
abbrev pub rest_from : Rest → ℕ → Rest
rest_from r k = record {
  placement = r.placement;
  start = user_address r.start k;
  count = adus (r.count.0 - k);
  done = r.done + k;
}

-- What is left once a block has taken of it what it takes, ..
abbrev pub rest_after : Rest → ℕ → Rest
rest_after r room = cond (leb r.count.0 room) nothing_left (rest_from r room)

-- .. and once block n has, a new one, if the drive has it; else nothing more is written.
abbrev pub rest_after_new : Config → ℕ → Rest → Rest
rest_after_new c n r = cond (ltb n c.blocks) (rest_after r (adus_per_block c).0) nothing_left

-- A write that is not done leaves nothing.
abbrev pub rest_if_done : Answer → Rest → Rest
rest_if_done Done r = r
rest_if_done (AnswerBlock n) r = nothing_left
rest_if_done (Refused reason) r = nothing_left

-- It is written, if there is something, ..
abbrev pub rest_written : ℕ → Rest → Drive → Written
rest_written d r v = cond (eqb r.count.0 0) (nothing_written v) (onwards d r.placement r.start r.count.0 v)

-- .. and that is the drive and the words afterwards.
pub record WentOn (d : ℕ) (r : Rest) (v : Drive) (words : List ℕ) (u : Drive) (filled : List ℕ) : Type 0 where
  pub leaves : u ≡ (rest_written d r v).drive
  pub fills : filled ≡ overwritten r.done (rest_written d r v).addresses words

-- Whatever writes what is left after a step has written what was left before it.
abbrev pub GoesOn : ℕ → Rest → Drive → List ℕ → Rest → Drive → List ℕ → Type 0
GoesOn d before v words after u filled = (w : Drive) (last : List ℕ) → WentOn d after u filled w last → WentOn d before v words w last

-- What writing it needs: of the configuration, so many entries in the store and words, the domain and its record.
pub record MayGoOn (c : Config) (entries words d : ℕ) (owner : Domain) (r : Rest) : Type 0 where
  pub within : within_limits c ≡ true
  pub id : is_domain_id d ≡ true
  pub all_entries : entries ≡ (store_length c).0
  pub serials : owner.last + blocks_in c r.count.0 ≤ 4294967295
  pub fit : user_addresses_fit r.start r.count.0 ≡ true
  pub enough : r.done + r.count.0 ≤ words

-- ---- Over the records of the drive's blocks and of the owner, in whatever table they stand

-- One block more, ..
abbrev pub OpenedNext : Config → ℕ → Rest → List Block → Domain → List ℕ → List ℕ → Rest → List Block → Domain → List ℕ → List ℕ → Type 0
OpenedNext c d r bs owner store words r' bs' owner' store' words' =
    (t : Table) → t.config ≡ c → length t.domains ≡ 16
    → GoesOn d r (drive (table_with bs d owner t) store) words r' (drive (table_with bs' d owner' t) store') words'

-- .. and all that is left. With nothing left the owner's record is as it was, also if the domain is none of the table's.
abbrev pub WroteOnwards : Config → ℕ → Rest → List Block → Domain → List ℕ → List ℕ → List Block → Domain → List ℕ → List ℕ → Type 0
WroteOnwards c d r bs owner store words bs' owner' store' words' =
    (r.count.0 ≡ 0 → owner' ≡ owner)
    × ((t : Table) → t.config ≡ c → length t.domains ≡ 16
    → WentOn d r (drive (table_with bs d owner t) store) words (drive (table_with bs' d owner' t) store') words')

-- ---- What a command hands back

-- It has nothing left, or what it has left may be written, ..
abbrev pub MayFinish : Config → ℕ → ℕ → Partial → Type 0
MayFinish c entries words r =
    (r.rest.count.0 ≡ 0 → r.rest ≡ nothing_left)
    × (¬ (r.rest.count.0 ≡ 0) → MayGoOn c entries words r.outcome.change.domain r.outcome.change.owner r.rest)

-- .. and once that is done the command is served.
abbrev pub Finishes : Table → Command → List ℕ → List ℕ → List ℕ → Partial → List ℕ → List ℕ → List ℕ → Type 0
Finishes t command store words bytes r store' words' bytes' =
    (u : Table) (left filled : List ℕ)
    → WentOn r.outcome.change.domain r.rest (drive (changed_table r.outcome.change t) store') words' (drive u left) filled
    → ServesCommand t command store words bytes (served (answering u r.outcome.answer) left filled bytes')
