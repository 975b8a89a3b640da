-- What writes and reads are asked and need, and what they leave.
use Rattle.std.specs.Prelude.{ℕ, ◌+◌, ◌≤◌, ◌<◌, true, ◌&&◌, cond, List, [], ◌∷◌, ◌≡◌, eqb, leb, length}
use Rattle.geometry.specs.Address.{is_block, is_domain_id, is_offset, word_of}
use Rattle.geometry.specs.Questions.{Question, ask}
use Rattle.geometry.specs.Shape.{adus, adus_per_block, within_limits}
use Rattle.geometry.specs.declared.address.FlashAddress.{FlashAddress}
use Rattle.geometry.specs.declared.shape.Adus.{Adus}
use Rattle.geometry.specs.declared.shape.Config.{Config}
use Rattle.model.specs.Blocks.{written_on}
use Rattle.model.specs.declared.answer.Answer.{Answer}
use Rattle.model.specs.declared.answer.Answer.TheVariants.{Done, Refused}
use Rattle.model.specs.declared.answer.Refusal.TheVariants.{Mismatch}
use Rattle.model.specs.declared.block.Block.{Block}
use Rattle.rules.specs.Blocks.{Written, matches}
use Rattle.rules.specs.Counting.{row_to}
use Rattle.rules.specs.Drive.{Drive, block_adus, held_by, is_open_by_erase, overwritten}
use Rattle.rules.specs.Questions.{is_count, user_addresses_fit}
use Rattle.scan.specs.declared.summary.Summary.{Summary}

-- ---- The questions, of what is seen of the table

-- A Write by block: 6 and 7, with so many words lent, ..
unfoldable pub write_arguments : Summary → ℕ → ℕ → Adus → List Question
write_arguments x words n count =
    ask 6 (is_block x.config n && is_count count)
    ∷ ask 7 (leb count.0 words)
    ∷ []

-- .. and 8 to 15.
unfoldable pub write_state : Summary → ℕ → ℕ → Adus → List Question
write_state x d start count =
    ask 8 (user_addresses_fit start count.0)
    ∷ ask 9 (held_by d x.block)
    ∷ ask 10 (is_open_by_erase x.block)
    ∷ ask 15 (leb (x.block.written.0 + count.0) (adus_per_block x.config).0)
    ∷ []

-- A Read: 6 and 7, ..
unfoldable pub read_arguments : Summary → ℕ → FlashAddress → Adus → List Question
read_arguments x words a count =
    ask 6 (is_block x.config a.block && is_offset x.config a.offset && is_count count)
    ∷ ask 7 (leb count.0 words)
    ∷ []

-- .. and 8 to 15. Of a sound table no block has more written than it takes, so that the last test adds nothing to 15.
unfoldable pub read_state : Summary → ℕ → FlashAddress → Adus → ℕ → List Question
read_state x d a count expected =
    ask 8 (user_addresses_fit expected count.0)
    ∷ ask 9 (held_by d x.block && eqb a.domain d)
    ∷ ask 15 (leb (a.offset.0 + count.0) x.block.written.0 && leb (a.offset.0 + count.0) (block_adus x.config a.block).0)
    ∷ []

-- ---- Writes

-- What writing so many ADUs into block n needs, whose record is b.
pub record MayWriteIn (c : Config) (d n : ℕ) (b : Block) (count : ℕ) : Type 0 where
  pub limits : within_limits c ≡ true
  pub id : is_domain_id d ≡ true
  pub inside : n < c.blocks
  pub some_written : 1 ≤ count
  pub fits : b.written.0 + count ≤ (block_adus c n).0

-- The flash address of an ADU.
abbrev pub address_in : ℕ → ℕ → Adus → FlashAddress
address_in d n offset = record { domain = d; block = n; offset = offset }

-- User addresses into block n from its first unwritten ADU on, whose record is b: its new record, its stretch
-- afterwards, and the words with the flash addresses in front.
pub record WroteIn (c : Config) (d n : ℕ) (b : Block) (users stretch words : List ℕ) (new : Block) (left filled : List ℕ) : Type 0 where
  pub becomes : new ≡ written_on (adus (length users)) (block_adus c n) b
  pub leaves : left ≡ overwritten b.written.0 users stretch
  pub fills : filled ≡ overwritten 0 (row_to (λ i. word_of c (address_in d n (adus (b.written.0 + i)))) (length users)) words

-- A write as the rules have it: the drive after it, and the words with the flash addresses in front.
pub record Wrote (w : Written) (words : List ℕ) (v : Drive) (filled : List ℕ) : Type 0 where
  pub leaves : v ≡ w.drive
  pub fills : filled ≡ overwritten 0 w.addresses words

-- ---- Reads

-- Question 16 for a part of a block's stretch: it is given, or nothing is.
pub record ReadsStretch (expected : ℕ) (part words : List ℕ) (answer : Answer) (filled : List ℕ) : Type 0 where
  pub answers : answer ≡ cond (matches expected part) Done (Refused Mismatch)
  pub fills : filled ≡ cond (matches expected part) (overwritten 0 part words) words
