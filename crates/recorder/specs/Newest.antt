-- The end of what a domain keeps, found by a row of plain numbers, a key for each of its blocks, and by how many ADUs of
-- each block are written.
use Rattle.std.specs.Prelude.{ℕ, ◌+◌, ◌-◌, ◌*◌, ◌%◌, ◌≤◌, ◌<◌, min, true, cond, List, [], ◌∷◌, ◌++◌, ◌≡◌, drop, get_or, length, map, set, take}
use Rattle.geometry.specs.Shape.{adus_per_block, within_limits}
use Rattle.geometry.specs.declared.shape.Adus.{Adus}
use Rattle.geometry.specs.declared.shape.Config.{Config}
use Rattle.model.specs.declared.block.Block.{Block}
use Rattle.rules.specs.Counting.{sum_to}
use Rattle.rules.specs.Drive.{clear_block, held_by, overwritten}
use Rattle.sorting.specs.Order.{in_order}
use Rattle.tables.specs.Keys.{keys_to}
use Rattle.recorder.specs.declared.newest.Gathered.{Gathered}

-- A block's serial and number in one number: keys are ordered as the serials are.
abbrev pub key_of : ℕ → ℕ → ℕ
key_of serial n = serial * 256 + n

-- One of some blocks.
abbrev pub record_at : List Block → ℕ → Block
record_at bs n = get_or bs n clear_block

-- The keys of the domain's blocks below n, by number.
abbrev pub held_keys : List Block → ℕ → ℕ → List ℕ
held_keys bs d n = keys_to (λ i. held_by d (record_at bs i)) (λ i. key_of (record_at bs i).serial i) n

-- How many ADUs of the domain's blocks below n are written.
abbrev pub written_to : List Block → ℕ → ℕ → ℕ
written_to bs d n = sum_to (λ i. cond (held_by d (record_at bs i)) (record_at bs i).written.0 0) n

-- How many ADUs of each of some blocks are written.
abbrev pub written_of : List Block → List ℕ
written_of bs = map (λ b. b.written.0) bs

-- What one block more makes of what was gathered.
pub record Notes (found : Gathered) (n : ℕ) (b : Block) (d : ℕ) (keys : List ℕ) (r : Gathered) (keys' : List ℕ) : Type 0 where
  pub as_many : r.keys ≡ found.keys + cond (held_by d b) 1 0
  pub adus : r.adus ≡ found.adus + cond (held_by d b) b.written.0 0
  pub keys_are : keys' ≡ cond (held_by d b) (set keys found.keys (key_of b.serial n)) keys

-- No block has more written than any block can take.
abbrev pub FewWritten : List Block → Type 0
FewWritten bs = (n : ℕ) → n < length bs → (record_at bs n).written.0 ≤ 1048576

-- What is gathered of the first n blocks.
pub record Gathers (bs : List Block) (d n : ℕ) (keys : List ℕ) (r : Gathered) (keys' : List ℕ) : Type 0 where
  pub as_many : r.keys ≡ length (held_keys bs d n)
  pub adus : r.adus ≡ written_to bs d n
  pub keys_are : keys' ≡ overwritten 0 (held_keys bs d n) keys
  pub as_long : length keys' ≡ length keys

-- The written ADUs of the block of a key, where each block has c entries of the store; and those of a row of keys.
abbrev pub part_of : ℕ → List ℕ → List ℕ → ℕ → List ℕ
part_of c store written key = take (get_or written (key % 256) 0) (drop (key % 256 * c) store)

unfoldable pub parts_of : ℕ → List ℕ → List ℕ → List ℕ → List ℕ
parts_of c store written [] = []
parts_of c store written (key ∷ keys) = part_of c store written key ++ parts_of c store written keys

-- Each of them lies within the store.
abbrev pub Within : ℕ → List ℕ → List ℕ → List ℕ → Type 0
Within c store written keys =
    (i : ℕ) → i < length keys → let n = get_or keys i 0 % 256 in n * c + get_or written n 0 ≤ length store

-- The last so many of the ADUs of these blocks can be filled in, under a configuration within limits.
pub record FillsFrom (config : Config) (keys : List ℕ) (bs : List Block) (count : Adus) (store words : List ℕ) : Type 0 where
  pub limits : within_limits config ≡ true
  pub rows : length bs ≡ 256
  pub within : Within (adus_per_block config).0 store (written_of bs) keys
  pub enough : count.0 ≤ length (parts_of (adus_per_block config).0 store (written_of bs) keys)
  pub room : count.0 ≤ length words

-- What the blocks that were gathered have written, by rising key.
abbrev pub gathered_parts : Config → Gathered → List ℕ → List Block → List ℕ → List ℕ
gathered_parts config found keys bs store =
    parts_of (adus_per_block config).0 store (written_of bs) (in_order (take found.keys keys))

-- It lies within the store, and there is as much of it as was counted.
pub record Fillable (config : Config) (found : Gathered) (keys : List ℕ) (bs : List Block) (store : List ℕ) : Type 0 where
  pub limits : within_limits config ≡ true
  pub many : length keys ≡ 256
  pub few : found.keys ≤ 256
  pub rows : length bs ≡ 256
  pub within : Within (adus_per_block config).0 store (written_of bs) (in_order (take found.keys keys))
  pub adus : found.adus ≡ length (gathered_parts config found keys bs store)

-- So many of the last written ADUs of a block are put into the end of the words that are left to fill.
pub record PutsBlock (key : ℕ) (written : List ℕ) (c left : ℕ) (store words : List ℕ) (r : ℕ) (words' : List ℕ) : Type 0 where
  pub left_then : r ≡ left - min (get_or written (key % 256) 0) left
  pub words_are : let part = min (get_or written (key % 256) 0) left in
      words' ≡ overwritten r (take part (drop (key % 256 * c + get_or written (key % 256) 0 - part) store)) words
  pub same_length : length words' ≡ length words
