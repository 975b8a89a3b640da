-- The oldest Closed block as it is found, block by block.
use Rattle.std.specs.Prelude.{ℕ, zero, suc, ◌&&◌, cond, List, ltb, get_or, ◌<◌}
use Rattle.model.specs.declared.block.Block.{Block}
use Rattle.rules.specs.Drive.{clear_block, closed_of}
use Rattle.recorder.specs.declared.choice.Oldest.{Oldest}

-- A block by its number and its serial; and none yet: a number that no drive has, and a serial above those of all blocks.
abbrev pub found : ℕ → ℕ → Oldest
found n serial = record { number = n; serial = serial }

abbrev pub none_found : Oldest
none_found = found 18446744073709551615 18446744073709551615

-- Block n, if it is Closed, the domain's and older than the one found before it; else that one.
unfoldable pub older_of : Oldest → ℕ → Block → ℕ → Oldest
older_of f n b d = cond (closed_of d b && ltb b.serial f.serial) (found n b.serial) f

-- What is found in the first n of some records.
unfoldable pub found_in : List Block → ℕ → ℕ → Oldest
found_in bs d zero = none_found
found_in bs d (suc n) = older_of (found_in bs d n) n (get_or bs n clear_block) d

-- The serials of the first n of some records have four bytes.
abbrev pub NarrowTo : List Block → ℕ → Type 0
NarrowTo bs n = (i : ℕ) → i < n → (get_or bs i clear_block).serial < 4294967296
