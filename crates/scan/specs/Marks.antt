-- The marks of the scan of the blocks: what each of its functions reads of them and leaves.
use Rattle.std.specs.Prelude.{ℕ, zero, suc, ◌+◌, ◌-◌, ◌%◌, Bool, true, not, ◌&&◌, cond, List, ◌≡◌, eqb, ltb, get_or, length, replicate, set}
use Rattle.model.specs.declared.block.Block.{Block}
use Rattle.rules.specs.Drive.{clear_block}

-- How many marks there are, and one of them.
abbrev pub mark_count : ℕ
mark_count = 800

abbrev pub mark : List ℕ → ℕ → ℕ
mark marks i = get_or marks i 0

abbrev pub no_marks : List ℕ
no_marks = replicate mark_count 0

-- ---- What changes

-- One of them is one more.
abbrev pub raised : ℕ → List ℕ → List ℕ
raised i marks = set marks i ((mark marks i + 1) % 65536)

-- A place is taken by block n, if no block has it.
pub record PlaceTaken (place n : ℕ) (new : Bool) (before after : List ℕ) : Type 0 where
  pub entries : length after ≡ length before
  pub first : new ≡ eqb (mark before (32 + place)) 0
  pub now_taken : new ≡ true → after ≡ set before (32 + place) (n + 1)

-- Block n is the last of its key; last is the one before it, counted from 1.
pub record Linked (n key last : ℕ) (before after : List ℕ) : Type 0 where
  pub entries : length after ≡ length before
  pub last_is : last ≡ mark before (288 + key)
  pub end : mark after (288 + key) ≡ n + 1
  pub link : mark after (544 + n) ≡ last
  pub others : (j : ℕ) → ¬ (j ≡ 288 + key) → ¬ (j ≡ 544 + n) → mark after j ≡ mark before j

-- ---- Chains

-- The block before one in its chain, counted from 1; a link that leads nowhere ends it.
abbrev pub chain_before : List ℕ → ℕ → ℕ
chain_before marks at = let before = mark marks (544 + (at - 1)) in cond (ltb before at) before 0

-- Two blocks that are held, with the same holder and the same serial.
abbrev pub same_serial : Block → Block → Bool
same_serial b other = eqb b.holder other.holder && eqb b.serial other.serial

-- No block of a chain has the serial of b; each leads to one with a smaller number. A number that no block has does not pass.
unfoldable pub chain_differs_in : ℕ → List Block → List ℕ → Block → ℕ → Bool
chain_differs_in zero bs marks b at = true
chain_differs_in (suc most) bs marks b at =
    cond (eqb at 0) true
    (not (ltb (length bs) at)
    && (not (same_serial b (get_or bs (at - 1) clear_block)) && chain_differs_in most bs marks b (chain_before marks at)))

abbrev pub chain_differs : List Block → List ℕ → Block → ℕ → Bool
chain_differs bs marks b at = chain_differs_in at bs marks b at
