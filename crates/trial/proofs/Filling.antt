-- Rows and lists that are filled one record after the other.
use Prim.Native.Nat.{ℕ, zero, suc, ◌+◌, ◌*◌, ◌≤◌, ◌<◌}
use mathlib.Core.List.{List, []}
use mathlib.Core.Path.{◌≡◌, refl, sym, ap, ◌∙◌}
use native.Mathlib.Nat.{mul-suc, mul-zero}
use native.Mathlib.Numerals.{add-one}
use native.Mathlib.Omega.{arith}
use lib.ListN.{get_or, length, length-append, set, take, take-append-drop}
use lib.Seq.{take_all, take-suc-set}
use Rattle.model.specs.declared.block.Block.{Block}
use Rattle.model.specs.declared.table.Domain.{Domain}
use Rattle.model.specs.declared.table.Table.{Table}
use Rattle.rules.proofs.Drive.{fill_then}
use Rattle.rules.specs.Drive.{block_at, clear_domain, overwritten}
use Rattle.trial.specs.Rows.{block_in, block_numbers, domain_in, domain_numbers, joined_to, records_to}

-- ---- Records

-- At first nothing is filled in.
pub records_none : {A : Type 0} (f : ℕ → A) → [] ≡ records_to f 0
unfolding records_to
records_none f = refl

-- One record more, behind the first n.
pub records_more : {A : Type 0} (f : ℕ → A) (l : List A) (n : ℕ) → n < length l → take n l ≡ records_to f n
    → take (n + 1) (set l n (f n)) ≡ records_to f (n + 1)
unfolding records_to
records_more f l n k e = rw (add-one, take-suc-set l n (f n) k, e)

-- In the end all stand.
pub records_all : {A : Type 0} (f : ℕ → A) (l : List A) (k n : ℕ) → k ≡ n → length l ≡ n → take k l ≡ records_to f k → l ≡ records_to f n
records_all f l k n all long e = sym (take_all k l (omega arith)) ∙ e ∙ ap (records_to f) all

-- ---- Rows

-- Records one behind the other: at first nothing is filled in.
pub joined_none : (f : ℕ → List ℕ) (at : ℕ) (row : List ℕ) → row ≡ overwritten at (joined_to f 0) row
unfolding joined_to overwritten
joined_none f at row = sym (take-append-drop at row)

-- Records of so many numbers each.
module _ (f : ℕ → List ℕ) (k : ℕ) (same : (i : ℕ) → length (f i) ≡ k) where
  length_joined : (n : ℕ) → length (joined_to f n) ≡ k * n
  unfolding joined_to
  length_joined zero = sym (mul-zero k)
  length_joined (suc n) = rw (length-append, length_joined n, same n) (sym (mul-suc k n))

  -- One record more, behind the first n.
  pub joined_more : (at n : ℕ) (row : List ℕ) → at ≤ length row
      → overwritten (at + k * n) (f n) (overwritten at (joined_to f n) row) ≡ overwritten at (joined_to f (n + 1)) row
  unfolding joined_to
  joined_more at n row l =
      rw (add-one, ← length_joined n) (fill_then at (joined_to f n) (f n) row l)

pub length_domain : (r : Domain) → length (domain_numbers r) ≡ 6
unfolding domain_numbers
length_domain r = refl

pub length_block : (b : Block) → length (block_numbers b) ≡ 7
unfolding block_numbers
length_block b = refl

-- ---- What the loops over a table go through

-- The row's domains, and its blocks.
abbrev pub domains_in : List ℕ → ℕ → Domain
domains_in row i = domain_in row (7 + 6 * i)

abbrev pub blocks_in : List ℕ → ℕ → Block
blocks_in row n = block_in row (103 + 7 * n)

-- A domain's numbers, and a block's.
abbrev pub domains_of : Table → ℕ → List ℕ
domains_of table i = domain_numbers (get_or table.domains i clear_domain)

abbrev pub blocks_of : Table → ℕ → List ℕ
blocks_of table n = block_numbers (block_at table n)
