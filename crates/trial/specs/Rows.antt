-- A table as a row of numbers: the configuration's seven, then six for each domain and seven for each block.
use Rattle.std.specs.Prelude.{ℕ, zero, suc, ◌+◌, ◌*◌, ◌%◌, not, cond, List, [], ◌∷◌, ◌++◌, eqb, get_or}
use Rattle.geometry.specs.Shape.{adus}
use Rattle.geometry.specs.declared.shape.Config.{Config}
use Rattle.model.specs.declared.block.Block.{Block}
use Rattle.model.specs.declared.block.State.{State}
use Rattle.model.specs.declared.block.State.TheVariants.{Closed, Free, Open}
use Rattle.model.specs.declared.block.Way.{Way}
use Rattle.model.specs.declared.block.Way.TheVariants.{Erase, Placement}
use Rattle.model.specs.declared.table.Domain.{Domain}
use Rattle.model.specs.declared.table.Table.{Table}
use Rattle.rules.specs.Drive.{block_at, clear_domain, overwritten}

-- How many numbers a row has.
abbrev pub row_length : ℕ
row_length = 1895

-- ---- From a row

abbrev pub number_in : List ℕ → ℕ → ℕ
number_in row i = get_or row i 0

-- A number's low bytes, as many as a field has.
abbrev pub one_byte : ℕ → ℕ
one_byte n = n % 256

abbrev pub four_bytes : ℕ → ℕ
four_bytes n = n % 4294967296

-- 1 and 3 are Open and Closed by Erase, 2 and 4 for Nameless Write.
abbrev pub state_of : ℕ → ℕ → State
state_of code p =
    cond (eqb code 1) (Open Erase)
    (cond (eqb code 2) (Open (Placement p))
    (cond (eqb code 3) (Closed Erase)
    (cond (eqb code 4) (Closed (Placement p)) Free)))

abbrev pub config_in : List ℕ → Config
config_in row = record {
  pages = number_in row 0;
  dies = number_in row 1;
  planes = number_in row 2;
  adus = number_in row 3;
  blocks = number_in row 4;
  rated = number_in row 5;
  period = number_in row 6;
}

unfoldable pub domain_in : List ℕ → ℕ → Domain
domain_in row at = record {
  exists = not (eqb (number_in row at) 0);
  reserved = four_bytes (number_in row (at + 1));
  quota = four_bytes (number_in row (at + 2));
  placements = one_byte (number_in row (at + 3));
  limit = four_bytes (number_in row (at + 4));
  last = four_bytes (number_in row (at + 5));
}

unfoldable pub block_in : List ℕ → ℕ → Block
block_in row at = record {
  state = state_of (number_in row at) (one_byte (number_in row (at + 1)));
  holder = one_byte (number_in row (at + 2));
  written = adus (number_in row (at + 3));
  left = four_bytes (number_in row (at + 4));
  erases = four_bytes (number_in row (at + 5));
  serial = four_bytes (number_in row (at + 6));
}

-- f 0, .., f (n - 1)
unfoldable pub records_to : {A : Type 0} → (ℕ → A) → ℕ → List A
records_to f zero = []
records_to f (suc n) = records_to f n ++ (f n ∷ [])

unfoldable pub table_in : List ℕ → Table
table_in row = record {
  config = config_in row;
  domains = records_to (λ i. domain_in row (7 + 6 * i)) 16;
  blocks = records_to (λ n. block_in row (103 + 7 * n)) 256;
}

-- ---- Into a row

abbrev pub state_code : State → ℕ
state_code Free = 0
state_code (Open Erase) = 1
state_code (Open (Placement p)) = 2
state_code (Closed Erase) = 3
state_code (Closed (Placement p)) = 4

abbrev pub way_placement : Way → ℕ
way_placement Erase = 0
way_placement (Placement p) = p

abbrev pub state_placement : State → ℕ
state_placement Free = 0
state_placement (Open way) = way_placement way
state_placement (Closed way) = way_placement way

abbrev pub config_numbers : Config → List ℕ
config_numbers c = c.pages ∷ c.dies ∷ c.planes ∷ c.adus ∷ c.blocks ∷ c.rated ∷ c.period ∷ []

unfoldable pub domain_numbers : Domain → List ℕ
domain_numbers r = cond r.exists 1 0 ∷ r.reserved ∷ r.quota ∷ r.placements ∷ r.limit ∷ r.last ∷ []

unfoldable pub block_numbers : Block → List ℕ
block_numbers b =
    state_code b.state ∷ state_placement b.state ∷ b.holder ∷ b.written.0 ∷ b.left ∷ b.erases ∷ b.serial ∷ []

-- f 0, .., f (n - 1), one behind the other
unfoldable pub joined_to : (ℕ → List ℕ) → ℕ → List ℕ
joined_to f zero = []
joined_to f (suc n) = joined_to f n ++ f n

-- The row with this table in it; what stands behind it stays.
unfoldable pub with_table : Table → List ℕ → List ℕ
with_table t row =
    overwritten 103 (joined_to (λ n. block_numbers (block_at t n)) 256)
    (overwritten 7 (joined_to (λ i. domain_numbers (get_or t.domains i clear_domain)) 16)
    (overwritten 0 (config_numbers t.config) row))
