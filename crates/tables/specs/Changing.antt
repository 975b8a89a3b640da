-- What a change does to the records of a table.
use Rattle.std.specs.Prelude.{ℕ, ◌-◌, true, false, cond, List, ◌++◌, map, eqb, drop, set, take, Option, Some, None, Result, Ok, Err}
use Rattle.geometry.specs.Shape.{within_limits}
use Rattle.geometry.specs.declared.shape.Config.{Config}
use Rattle.tables.specs.Serving.{answering}
use Rattle.tables.specs.declared.change.Change.{Change}
use Rattle.tables.specs.declared.change.Outcome.{Outcome}
use Rattle.tables.specs.declared.served.Served.{Served}
use Rattle.model.specs.declared.answer.Answer.{Answer}
use Rattle.model.specs.declared.answer.Answer.TheVariants.{Refused}
use Rattle.model.specs.declared.answer.Refusal.{Refusal}
use Rattle.model.specs.Blocks.{counted_down}
use Rattle.model.specs.declared.block.Block.{Block}
use Rattle.model.specs.declared.table.Domain.{Domain}
use Rattle.model.specs.declared.table.Table.{Table}
use Rattle.rules.specs.Domains.{freed_if_held}
use Rattle.rules.specs.Drive.{clear_domain}

-- ---- Changes

abbrev pub no_change : Change
no_change = record { one = None; pulsed = None; frees = false; domain = 0; owner = clear_domain }

-- An answer that changes nothing.
abbrev pub leaving : Answer → Outcome
leaving answer = record { answer = answer; change = no_change }

-- What a command's function hands back, as an outcome: a refusal changes nothing.
abbrev pub outcome_from : Result Outcome Refusal → Outcome
outcome_from (Ok outcome) = outcome
outcome_from (Err reason) = leaving (Refused reason)

-- A block's new record and a domain's, ..
abbrev pub opening_change : ℕ → Block → ℕ → Domain → Change
opening_change n b d r = record { one = Some (n, b); pulsed = None; frees = false; domain = d; owner = r }

-- .. or one of them alone.
abbrev pub block_change : ℕ → Block → Change
block_change n b = opening_change n b 0 clear_domain

abbrev pub domain_change : ℕ → Domain → Change
domain_change d r = record { one = None; pulsed = None; frees = false; domain = d; owner = r }

-- A domain's blocks are freed and its record is cleared.
abbrev pub deletion_of : ℕ → Change
deletion_of d = record { one = None; pulsed = None; frees = true; domain = d; owner = clear_domain }

-- Seconds pass for every open block.
abbrev pub pulse_change : ℕ → Change
pulse_change seconds = record { one = None; pulsed = Some seconds; frees = false; domain = 0; owner = clear_domain }

-- ---- What they do

-- A block's new record, if one has it; and so many seconds that pass for every open block, if they do.
abbrev pub put_in : Option (ℕ × Block) → List Block → List Block
put_in None bs = bs
put_in (Some (n, b)) bs = set bs n b

abbrev pub counted_in : Option ℕ → List Block → List Block
counted_in None bs = bs
counted_in (Some seconds) bs = map (counted_down seconds) bs

-- The block that it names gets its record; then seconds pass for every open block, if they do, and the domain's blocks are
-- freed, if they are.
unfoldable pub changed_blocks : Change → List Block → List Block
changed_blocks c bs =
    let counted = counted_in c.pulsed (put_in c.one bs) in
    cond c.frees (map (freed_if_held c.domain) counted) counted

-- The domains with a new record of domain d; domain 0 is none.
unfoldable pub with_owner : ℕ → Domain → List Domain → List Domain
with_owner d r ds = cond (eqb d 0) ds (set ds (d - 1) r)

-- How many blocks the drive has; none outside the limits.
abbrev pub present_blocks : Config → ℕ
present_blocks c = cond (within_limits c) c.blocks 0

-- A table with these records of the drive's blocks, and this one of domain d.
abbrev pub table_with : List Block → ℕ → Domain → Table → Table
table_with bs d r t = record {
  config = t.config;
  domains = with_owner d r t.domains;
  blocks = bs ++ drop (present_blocks t.config) t.blocks;
}

-- A table with a command's change made in it.
abbrev pub changed_table : Change → Table → Table
changed_table change t = table_with (changed_blocks change (take (present_blocks t.config) t.blocks)) change.domain change.owner t

-- What a command that changes the table so hands back.
abbrev pub outcome_served : Table → Outcome → Served
outcome_served t r = answering (changed_table r.change t) r.answer
