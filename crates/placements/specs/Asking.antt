-- What Write by placement is asked, of what is seen of the table.
use Rattle.std.specs.Prelude.{ℕ, ◌-◌, Bool, true, ◌&&◌, List, [], ◌∷◌, leb, ltb, Option, None, Some}
use Rattle.geometry.specs.Questions.{Question, ask}
use Rattle.geometry.specs.declared.shape.Adus.{Adus}
use Rattle.model.specs.declared.table.Domain.{Domain}
use Rattle.model.specs.declared.table.Table.{Table}
use Rattle.placements.specs.Onwards.{blocks_in}
use Rattle.placements.specs.Placing.{room_seen}
use Rattle.rules.specs.Questions.{is_count, user_addresses_fit}
use Rattle.scan.specs.declared.summary.Summary.{Summary}
use Rattle.tables.specs.Verdicts.{new_blocks_questions}

-- 6 and 7, with so many words lent, ..
unfoldable pub placement_arguments : Summary → ℕ → ℕ → Adus → List Question
placement_arguments x words p count =
    ask 6 (ltb p x.domain.placements && is_count count)
    ∷ ask 7 (leb count.0 words)
    ∷ []

-- A block opens where the placement has none open.
abbrev pub may_open_of : Option ℕ → ℕ → Domain → Bool
may_open_of None opened d = ltb opened d.limit
may_open_of (Some n) opened d = true

abbrev pub may_open_seen : Summary → Bool
may_open_seen x = may_open_of x.found x.opened x.domain

-- .. and 8 and 11 to 14, these of the blocks that the write will open.
unfoldable pub placement_state : Table → Summary → ℕ → ℕ → Adus → List Question
placement_state t x d start count =
    let new = blocks_in x.config (count.0 - room_seen x) in
    ask 8 (user_addresses_fit start count.0)
    ∷ ask 11 (may_open_seen x)
    ∷ new_blocks_questions t d new new
