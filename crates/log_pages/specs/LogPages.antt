-- What Page and List ask of what is seen of a table, and a list as it is made from the marks.
use Rattle.std.specs.Prelude.{ℕ, zero, suc, ◌+◌, ◌-◌, ◌*◌, List, [], ◌∷◌, ◌++◌, leb}
use Rattle.geometry.specs.Address.{is_block}
use Rattle.geometry.specs.Questions.{Question, ask}
use Rattle.model.specs.declared.command.Listed.{Listed}
use Rattle.model.specs.declared.command.Listed.TheVariants.{Closed, Open}
use Rattle.rules.specs.Drive.{held_by}
use Rattle.rules.specs.LogPages.{descriptor_of, end_mark}
use Rattle.scan.specs.Listing.{byte_told, index_told, number_told}
use Rattle.scan.specs.declared.summary.Summary.{Summary}

-- What Page is asked, with room for so many bytes.
abbrev pub page_questions : Summary → ℕ → ℕ → ℕ → List Question
page_questions x d n room =
    ask 6 (is_block x.config n)
    ∷ ask 7 (leb 256 room)
    ∷ ask 9 (held_by d x.block)
    ∷ []

-- How many blocks are listed, and how many bytes that fills.
abbrev pub count_seen : Summary → Listed → ℕ
count_seen x Open = x.opened
count_seen x Closed = x.held - x.opened

abbrev pub length_seen : Summary → Listed → ℕ
length_seen x which = 8 * (count_seen x which + 1)

-- The descriptors of the first so many blocks that the marks tell of, ..
unfoldable pub descriptors_to : List ℕ → ℕ → List ℕ
descriptors_to marks zero = []
descriptors_to marks (suc i) = descriptors_to marks i ++ descriptor_of (number_told marks i) (index_told marks i) (byte_told marks i)

-- .. and the end mark.
abbrev pub told_bytes : List ℕ → ℕ → List ℕ
told_bytes marks count = descriptors_to marks count ++ end_mark
