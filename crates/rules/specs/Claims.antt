-- What proofs/Laws.antt and proofs/Claims.antt say, where that takes a definition of its own.
use Rattle.std.specs.Prelude.{ℕ, ◌+◌, ◌-◌, ◌*◌, ◌≤◌, ◌<◌, min, Bool, true, false, ◌&&◌, cond, List, [], ◌∷◌, ◌++◌, ◌≡◌, leb, ltb, drop, get_or, length, take}
use Rattle.geometry.specs.Address.{fields_of}
use Rattle.geometry.specs.Bytes.{little_endian}
use Rattle.geometry.specs.Questions.{Question, refusal}
use Rattle.geometry.specs.Shape.{store_length}
use Rattle.model.specs.Blocks.{Change, all_changes, changed_by, opens_newly}
use Rattle.model.specs.declared.block.Block.{Block}
use Rattle.model.specs.declared.command.Listed.{Listed}
use Rattle.model.specs.declared.table.Table.{Table}
use Rattle.rules.specs.Blocks.{stored}
use Rattle.rules.specs.Calls.{Call}
use Rattle.rules.specs.Counting.{sum_to}
use Rattle.rules.specs.Domains.{covered}
use Rattle.rules.specs.Drive.{Drive, block_at, clear_domain, closed_of, domain_at, held_by, held_count, is_free, size}
use Rattle.rules.specs.Effects.{Served, effect, verdict}
use Rattle.rules.specs.LogPages.{Field, is_listed}
use Rattle.rules.specs.Recorder.{kept, written_in}
use Rattle.rules.specs.Soundness.{sound}

-- Questions whose numbers rise, from above the last one to at most 16.
unfoldable pub rising : ℕ → List Question → Bool
rising last [] = leb last 16
rising last (q ∷ qs) = ltb last q.number && rising q.number qs

-- A refusal: a number alone, and table, store, words and bytes as they were.
pub record Unchanged (v : Drive) (words bytes : List ℕ) (r : Served) : Type 0 where
  pub no_values : r.answer ≡ refusal r.answer.number
  pub same_drive : r.drive ≡ v
  pub same_words : r.words ≡ words
  pub same_bytes : r.bytes ≡ bytes

-- The Free block with the least P/E count among so many, the lowest number among equals.
pub record Chosen (t : Table) (among n : ℕ) : Type 0 where
  pub inside : n < among
  pub free : is_free (block_at t n) ≡ true
  pub least : (m : ℕ) → m < among → is_free (block_at t m) ≡ true → (block_at t n).erases ≤ (block_at t m).erases
  pub lowest : (m : ℕ) → m < n → is_free (block_at t m) ≡ true → (block_at t n).erases < (block_at t m).erases

-- The domain's Closed block with the least serial, among so many.
pub record Oldest (t : Table) (d among n : ℕ) : Type 0 where
  pub inside : n < among
  pub closed : closed_of d (block_at t n) ≡ true
  pub least : (m : ℕ) → m < among → closed_of d (block_at t m) ≡ true → (block_at t n).serial ≤ (block_at t m).serial

-- How many ADUs are written in the domain's blocks with these serials.
abbrev pub written_where : (ℕ → Bool) → Drive → ℕ → ℕ
written_where these v d =
    let b : ℕ → Block = λ n. block_at v.table n in
    sum_to (λ n. cond (held_by d (b n) && these (b n).serial) (b n).written.0 0) (size v.table)

-- The written ADUs of the domain's block n stand in what is kept, by their offsets, behind those of its blocks with lower serials.
pub record KeptAt (v : Drive) (d n : ℕ) : Type 0 where
  pub front : List ℕ
  pub rest : List ℕ
  pub stands : kept v d ≡ front ++ (written_in v n ++ rest)
  pub behind : length front ≡ written_where (λ serial. ltb serial (block_at v.table n).serial) v d

-- One call of a drive gets what another gets of another drive: the same number and, where both succeed, the same drive, values and words.
pub record Likewise (v : Drive) (k : Call) (w : Drive) (l : Call) : Type 0 where
  pub same_verdict : verdict v k ≡ verdict w l
  pub same_effect : effect v k ≡ effect w l

-- Each of these flash addresses holds its user address: what is stored there, one ADU long, is that.
abbrev pub Found : Drive → List ℕ → List ℕ → Type 0
Found v addresses users =
    (i : ℕ) → i < length addresses → stored v (fields_of v.table.config (get_or addresses i 0)) 1 ≡ get_or users i 0 ∷ []

-- A record that is reached from another by changes of a block's record, where opening is for the domain d, with a serial above
-- its last one and for this period.
abbrev pub Reached : ℕ → ℕ → ℕ → Block → Block → Type 0
Reached d last period b after =
    (xs : List Change) × (after ≡ changed_by xs b) × (all_changes (opens_newly d last period) xs ≡ true)

-- A domain that is gone: its record is clear, it holds no block, and the blocks of the others are as they were.
pub record Gone (d : ℕ) (t u : Table) : Type 0 where
  pub clear : domain_at u d ≡ clear_domain
  pub holds_nothing : (n : ℕ) → n < size t → held_by d (block_at u n) ≡ false
  pub others : (n : ℕ) → held_by d (block_at t n) ≡ false → block_at u n ≡ block_at t n

-- A block of the domain d that a List has.
abbrev pub ListedBlock : Table → ℕ → Listed → ℕ → Type 0
ListedBlock t d which n = (n < size t) × (held_by d (block_at t n) ≡ true) × (is_listed which (block_at t n) ≡ true)

-- The listed blocks in their order: each of them stands there, at one place alone, and nothing else does; their serials rise strictly, from
-- which `once` follows.
pub record ListsInOrder (t : Table) (d : ℕ) (which : Listed) (order : List ℕ) : Type 0 where
  pub each : (n : ℕ) → ListedBlock t d which n → (i : ℕ) × (i < length order) × (get_or order i 0 ≡ n)
  pub only : (i : ℕ) → i < length order → ListedBlock t d which (get_or order i 0)
  pub once : (i j : ℕ) → i < length order → j < length order → get_or order i 0 ≡ get_or order j 0 → i ≡ j
  pub rises : (i j : ℕ) → i < j → j < length order → (block_at t (get_or order i 0)).serial < (block_at t (get_or order j 0)).serial

-- The bytes from a place on.
abbrev pub bytes_at : ℕ → ℕ → List ℕ → List ℕ
bytes_at place width bytes = take width (drop place bytes)

-- Each field stands in its place: the bytes there, as many as it has, are its value.
unfoldable pub Layout : List Field → List ℕ → Type 0
Layout [] bytes = Unit {0}
Layout (f ∷ fs) bytes =
    (bytes_at f.place f.width bytes ≡ little_endian f.width f.value) × Layout fs bytes

-- How far apart two numbers are.
abbrev pub distance : ℕ → ℕ → ℕ
distance m n = (m - n) + (n - m)

-- i is the fraction n / d to the nearest whole, halves up: twice the distance between i and n / d is at most 1, and
-- where it is 1, i is above n / d. All of it is multiplied by d, so that no fraction stands here; for d = 0 there is
-- no such i.
pub record ToTheNearest (n d i : ℕ) : Type 0 where
  pub near : 2 * distance (i * d) n ≤ d
  pub half_up : 2 * distance (i * d) n ≡ d → n < i * d

-- 02, Wish 3: `rounded` is count × 200 / N to the nearest whole, halves up; no other number is; the index is
-- `rounded`, capped at 255.
pub record IndexToTheNearest (rated erases index : ℕ) : Type 0 where
  pub rounded : ℕ
  pub is_nearest : ToTheNearest (erases * 200) rated rounded
  pub alone : (i : ℕ) → ToTheNearest (erases * 200) rated i → i ≡ rounded
  pub capped : index ≡ min rounded 255

-- Covered means that the coverage rule holds; no quota is passed when no domain holds more blocks than its quota.
pub record Guaranteed (t : Table) : Type 0 where
  pub coverage : covered t ≡ true
  pub quotas : (d : ℕ) → 1 ≤ d → d ≤ 16 → held_count t d ≤ (domain_at t d).quota

-- A table has a record for each of the 16 domains and the 256 blocks.
pub record Shaped (t : Table) : Type 0 where
  pub domains : length t.domains ≡ 16
  pub blocks : length t.blocks ≡ 256

-- Where a call is lent S × C entries, the drive's store has as many: it is the one that is lent.
abbrev pub LentOwn : Drive → Call → Type 0
LentOwn v k =
    k.lent.store ≡ (store_length v.table.config).0 → length v.store ≡ (store_length v.table.config).0

-- What a call leaves of a drive with a sound table: another, of the same shape, and a store of as many entries.
pub record StillSound (v w : Drive) : Type 0 where
  pub still_sound : sound w.table ≡ true
  pub still_shaped : Shaped w.table
  pub same_length : length w.store ≡ length v.store
