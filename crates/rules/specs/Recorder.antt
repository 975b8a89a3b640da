-- Document 02, Wish 1: the van recorder, a product above the manager. It appends a sample to a domain, and reads the latest ones.
use Rattle.std.specs.Prelude.{ℕ, zero, suc, ◌-◌, Bool, ◌&&◌, cond, List, [], ◌∷◌, ◌++◌, eqb, leb, ltb, drop, length, take}
use Rattle.std.proofs.Math.Option.{Option, none, some}
use Rattle.geometry.specs.Questions.{Question, ask, first_no}
use Rattle.geometry.specs.Shape.{adus}
use Rattle.geometry.specs.declared.shape.Adus.{Adus}
use Rattle.model.specs.declared.command.Command.{Command}
use Rattle.model.specs.declared.command.Command.TheVariants.{WriteByPlacement}
use Rattle.model.specs.declared.table.Domain.{Domain}
use Rattle.model.specs.declared.table.Table.{Table}
use Rattle.rules.specs.Blocks.{Written, freed_at, user_addresses, written_by_placement}
use Rattle.rules.specs.Calls.{Call, Lengths, command}
use Rattle.rules.specs.Drive.{Drive, block_at, by_serial, closed_of, domain_at, entries_of, size}
use Rattle.rules.specs.Questions.{first_questions, is_count, later_questions, placement_questions}

-- "one placement in a domain whose quota equals its reservation of at least 2 blocks"
abbrev pub has_recorder_shape : Domain → Bool
has_recorder_shape r = eqb r.placements 1 && eqb r.reserved r.quota && leb 2 r.quota

-- ---- Appending

-- "A sample is one user address, appended by a Write by placement": of one ADU, to placement 0.
abbrev pub sample_write : ℕ → ℕ → Command
sample_write d sample = WriteByPlacement d 0 sample (adus 1)

-- "When that would get 13": 13 is the first no of the whole write, with these lengths lent.
abbrev pub gets_thirteen : ℕ → ℕ → Drive → Lengths → Bool
gets_thirteen d sample v lent =
    let write : Call = record { asks = command (sample_write d sample); lent = lent } in
    eqb (first_no (first_questions v write ++ later_questions (sample_write d sample) v write)) 13

-- "the Closed block with the least serial": of the blocks below n, a later one is taken only where its serial is less.
abbrev pub older : Table → ℕ → ℕ → Option ℕ → Option ℕ
older t d n none = cond (closed_of d (block_at t n)) (some n) none
older t d n (some m) = cond (closed_of d (block_at t n) && ltb (block_at t n).serial (block_at t m).serial) (some n) (some m)

unfoldable pub oldest_to : Table → ℕ → ℕ → Option ℕ
oldest_to t d zero = none
oldest_to t d (suc n) = older t d n (oldest_to t d n)

abbrev pub oldest_closed : Table → ℕ → Option ℕ
oldest_closed t d = oldest_to t d (size t)

-- "it frees the Closed block with the least serial"; "with no Closed block" the drive stays as it was.
abbrev pub freed_if_any : Option ℕ → Drive → Drive
freed_if_any none v = v
freed_if_any (some n) v = record { table = freed_at n v.table; store = v.store }

-- The drive in which the sample is written: the drive itself, unless the write would get 13 there.
unfoldable pub after_freeing : ℕ → ℕ → Drive → Lengths → Drive
after_freeing d sample v lent = cond (gets_thirteen d sample v lent) (freed_if_any (oldest_closed v.table d) v) v

-- "6 for a domain of another shape". The other questions are those of the write, put to the drive in which the sample is written: so
-- "with no Closed block 13 is the answer".
abbrev pub append_questions : ℕ → ℕ → Drive → Call → List Question
append_questions d sample v k =
    placement_questions (has_recorder_shape (domain_at v.table d)) d 0 sample (adus 1) (after_freeing d sample v k.lent) k

abbrev pub appended : ℕ → ℕ → Drive → Lengths → Written
appended d sample v lent = written_by_placement d 0 (user_addresses sample 1) (after_freeing d sample v lent)

-- ---- Reading

-- "Kept are the domain's written ADUs, by rising serial, then offset".
abbrev pub written_in : Drive → ℕ → List ℕ
written_in v n = take (block_at v.table n).written.0 (entries_of v n)

abbrev pub kept : Drive → ℕ → List ℕ
kept v d = by_serial (written_in v) v.table d

-- The last n of a list, or all if it has fewer.
abbrev pub last_of : {A : Type 0} → ℕ → List A → List A
last_of n xs = drop (length xs - n) xs

-- "6 for a domain of another shape or an n out of range, 15 if fewer than n are kept"
abbrev pub latest_questions : ℕ → Adus → Drive → Call → List Question
latest_questions d count v k =
    ask 6 (has_recorder_shape (domain_at v.table d) && is_count count)
    ∷ ask 7 (leb count.0 k.lent.words)
    ∷ ask 15 (leb count.0 (length (kept v d)))
    ∷ []

-- "reading n, 1 to 256, gives the last n kept, oldest first"
abbrev pub latest_kept : ℕ → Adus → Drive → List ℕ
latest_kept d count v = last_of count.0 (kept v d)
