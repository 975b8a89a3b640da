-- Document 01, "Blocks": Super Block Information (000, 6.4.4) and the two lists, byte by byte. Document 02: the order
-- of the lists (Wish 2) and the P/E index (Wish 3).
use Rattle.std.specs.Prelude.{ℕ, ◌+◌, ◌*◌, ◌/◌, min, Bool, cond, List, [], ◌∷◌, ◌++◌}
use Rattle.geometry.specs.Bytes.{little_endian}
use Rattle.geometry.specs.declared.shape.Config.{Config}
use Rattle.model.specs.declared.block.Block.{Block}
use Rattle.model.specs.declared.block.State.{State}
use Rattle.model.specs.declared.block.State.TheVariants.{Closed, Free, Open}
use Rattle.model.specs.declared.block.Way.{Way}
use Rattle.model.specs.declared.block.Way.TheVariants.{Erase, Placement}
use Rattle.model.specs.declared.command.Listed.{Listed}
use Rattle.model.specs.declared.command.Listed.TheVariants as listed
use Rattle.model.specs.declared.table.Table.{Table}
use Rattle.rules.specs.Drive.{block_adus, block_at, by_serial, closed_count, is_closed, is_open, open_count}

-- Open by erase 08h, its closed form 0Ah; by placement 04h and 06h. (Free is 01h in 000, but no Free block has a page.)
abbrev pub state_byte : State → ℕ
state_byte Free = 1
state_byte (Open Erase) = 8
state_byte (Closed Erase) = 10
state_byte (Open (Placement p)) = 4
state_byte (Closed (Placement p)) = 6

-- The placement, else FFFFh.
abbrev pub placement_of : Way → ℕ
placement_of Erase = 65535
placement_of (Placement p) = p

abbrev pub placement_field : State → ℕ
placement_field Free = 65535
placement_field (Open way) = placement_of way
placement_field (Closed way) = placement_of way

-- The fraction n / d to the nearest whole, halves up: n / d + 1/2, which is (2n + d) / 2d, rounded down; 0 where d is
-- 0.
abbrev pub nearest : ℕ → ℕ → ℕ
nearest n d = (2 * n + d) / (2 * d)

-- P/E index (02, Wish 3), of N and of the count: count × 200 / N to the nearest whole, halves up, and then capped at
-- 255.
abbrev pub wear_index : ℕ → ℕ → ℕ
wear_index rated erases = min (nearest (erases * 200) rated) 255

-- Integrity is 1 if Closed, else 0.
abbrev pub integrity : Block → ℕ
integrity b = cond (is_closed b) 1 0

-- ---- Super Block Information

-- A field of a log page: where it stands, how many bytes it has, and its value.
pub record Field : Type 0 where
  pub place : ℕ
  pub width : ℕ
  pub value : ℕ

abbrev pub field : ℕ → ℕ → ℕ → Field
field place width value = record { place = place; width = width; value = value }

-- The fields of block n with the record b, each by its place, its width and its value ("Page writes ..").
abbrev pub page_fields : Config → ℕ → Block → List Field
page_fields c n b =
    -- virtual device 1
    field 0 2 1
    -- 0
    ∷ field 2 1 0
    -- state
    ∷ field 3 1 (state_byte b.state)
    -- block number
    ∷ field 4 4 n
    -- placement, else FFFFh
    ∷ field 8 2 (placement_field b.state)
    -- domain
    ∷ field 10 2 b.holder
    -- P/E index
    ∷ field 12 1 (wear_index c.rated b.erases)
    -- integrity
    ∷ field 13 1 (integrity b)
    -- time left 0
    ∷ field 14 2 0
    -- C
    ∷ field 16 4 (block_adus c n).0
    -- written if open, else 0
    ∷ field 20 4 (cond (is_open b) b.written.0 0)
    -- serial
    ∷ field 24 4 b.serial
    -- the rest 0
    ∷ field 28 228 0
    ∷ []

-- The bytes of fields that follow one another.
unfoldable pub bytes_of : List Field → List ℕ
bytes_of [] = []
bytes_of (f ∷ fs) = little_endian f.width f.value ++ bytes_of fs

-- The page of block n with the record b, 256 bytes.
unfoldable pub page : Config → ℕ → Block → List ℕ
page c n b = bytes_of (page_fields c n b)

-- ---- Lists

-- An 8-byte descriptor: block number, index, one byte, two zero bytes.
abbrev pub descriptor_of : ℕ → ℕ → ℕ → List ℕ
descriptor_of n index byte = little_endian 4 n ++ little_endian 1 index ++ little_endian 1 byte ++ little_endian 2 0

-- That of block n with the record b.
abbrev pub descriptor : Config → (Block → ℕ) → ℕ → Block → List ℕ
descriptor c mark n b = descriptor_of n (wear_index c.rated b.erases) (mark b)

-- The end mark: FFFFFFFFh with zeros.
abbrev pub end_mark : List ℕ
end_mark = little_endian 4 4294967295 ++ little_endian 4 0

unfoldable pub list_of : Table → (Block → ℕ) → List ℕ → List ℕ
list_of t mark [] = end_mark
list_of t mark (n ∷ ns) = descriptor t.config mark n (block_at t n) ++ list_of t mark ns

-- As its argument says, a List has the domain's Closed blocks with integrity in the one byte, or its open blocks with the state.
abbrev pub is_listed : Listed → Block → Bool
is_listed listed.Open b = is_open b
is_listed listed.Closed b = is_closed b

abbrev pub list_mark : Listed → Block → ℕ
list_mark listed.Open b = state_byte b.state
list_mark listed.Closed b = integrity b

-- 02, Wish 2: the listed blocks by rising erase serial number, whatever their numbers.
abbrev pub if_listed : Table → Listed → ℕ → List ℕ
if_listed t which n = cond (is_listed which (block_at t n)) (n ∷ []) []

abbrev pub listed_blocks : Table → ℕ → Listed → List ℕ
listed_blocks t d which = by_serial (if_listed t which) t d

-- The bytes of a List.
unfoldable pub list : Table → ℕ → Listed → List ℕ
list t d which = list_of t (list_mark which) (listed_blocks t d which)

-- How many blocks are listed, and how many bytes that fills.
abbrev pub listed_count : Table → ℕ → Listed → ℕ
listed_count t d listed.Open = open_count t d
listed_count t d listed.Closed = closed_count t d

abbrev pub list_length : Table → ℕ → Listed → ℕ
list_length t d which = 8 * (listed_count t d which + 1)
