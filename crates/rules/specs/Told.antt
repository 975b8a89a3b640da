-- Outputs that A tells apart, though their block numbers have the same serial or none: a block that A holds is never read as one that it
-- does not, and of the end mark of a list every byte is kept. And lists that differ in their order, or in how often a block stands there:
-- a list is read descriptor by descriptor.
use Rattle.std.specs.Prelude.{ℕ, List, [], ◌∷◌, ◌++◌, ◌≡◌, length, replicate}
use Rattle.geometry.specs.Address.{word_of}
use Rattle.geometry.specs.Shape.{adus, planes}
use Rattle.model.specs.declared.command.Command.TheVariants.{Close, Create, Erase, List as Listing}
use Rattle.model.specs.declared.command.Listed.{Listed}
use Rattle.model.specs.declared.command.Listed.TheVariants as listed
use Rattle.rules.specs.Blocks.{any_block}
use Rattle.rules.specs.Calls.{list_bytes}
use Rattle.rules.specs.Drive.{Drive}
use Rattle.rules.specs.Example.{zeros}
use Rattle.rules.specs.LogPages.{descriptor_of, end_mark}
use Rattle.rules.specs.Observation as seen
use Rattle.rules.specs.Observation.{Descriptor, Observation, ReadBytes, Reply, address_of, descriptor_in, observed, read_bytes, read_page}
use Rattle.rules.specs.ProvedTable.{call, calls, small}
use Rattle.rules.specs.Runs.{run}

-- A (domain 1) and a neighbour (domain 2) each reserve a block and erase one: A has block 0 and the neighbour block 1, both with serial 1.
abbrev pub one_each : Drive
one_each =
    run (calls (Create 1 (planes 1) (planes 0) 1 0 ∷ Create 2 (planes 1) (planes 0) 1 0 ∷ Erase 1 any_block ∷ Erase 2 any_block ∷ [])) zeros

-- A reserves two blocks and erases both.
abbrev pub two : Drive
two = run (calls (Create 1 (planes 256) (planes 0) 1 0 ∷ Erase 1 any_block ∷ Erase 1 any_block ∷ [])) zeros

-- A descriptor of a block with this index, and the address of a block's first ADU.
abbrev pub descriptor_with : ℕ → ℕ → List ℕ
descriptor_with n index = n ∷ 0 ∷ 0 ∷ 0 ∷ index ∷ 0 ∷ 0 ∷ 0 ∷ []

abbrev pub address_in : ℕ → ℕ
address_in n = word_of small (record { domain = 1; block = n; offset = adus 0 })

-- The bytes of a list of these blocks, each with this byte, and the end mark.
unfoldable pub listing : ℕ → List ℕ → List ℕ
listing byte [] = end_mark
listing byte (n ∷ ns) = descriptor_of n 0 byte ++ listing byte ns

-- Open by erase has 8, Closed 1.
abbrev pub byte_of : Listed → ℕ
byte_of listed.Open = 8
byte_of listed.Closed = 1

-- What A's List of either kind tells it of a reply that lists these blocks.
abbrev pub list_told : Listed → List ℕ → Observation
list_told which ns =
    observed 1 two (call (Listing 1 which))
    (record { answer = record { number = 0; values = [] }; words = []; bytes = listing (byte_of which) ns })

-- The descriptors that A reads in the bytes of its List of either kind.
abbrev pub descriptors_in : ReadBytes → List Descriptor
descriptors_in (seen.plain bytes) = []
descriptors_in (seen.page front name middle rest) = []
descriptors_in (seen.list descriptors) = descriptors

abbrev pub list_read : ℕ → Drive → ℕ → Listed → List ℕ → List Descriptor
list_read a u d which bytes = descriptors_in (read_bytes (list_bytes d which) a u bytes)

-- Bytes that begin like a page of block n: virtual device, state and block number; the other eight are 0.
abbrev pub page_of : ℕ → List ℕ
page_of n = 1 ∷ 0 ∷ 0 ∷ 8 ∷ n ∷ 0 ∷ 0 ∷ 0 ∷ replicate 8 0

-- The answer of a block number.
abbrev pub block_reply : ℕ → Reply
block_reply n = record { answer = record { number = 0; values = n ∷ [] }; words = []; bytes = [] }

pub record ToldApart : Type 0 where
  -- The end mark, and a descriptor of the Free block 5.
  pub end_or_free : ¬ (descriptor_in 1 one_each end_mark ≡ descriptor_in 1 one_each (descriptor_with 5 0))
  -- The end mark, and the same with 77 in the place of an index.
  pub end_or_other : ¬ (descriptor_in 1 one_each end_mark ≡ descriptor_in 1 one_each (255 ∷ 255 ∷ 255 ∷ 255 ∷ 77 ∷ 0 ∷ 0 ∷ 0 ∷ []))
  -- A descriptor of A's block, and one of its neighbour's.
  pub own_or_neighbours : ¬ (descriptor_in 1 one_each (descriptor_with 0 0) ≡ descriptor_in 1 one_each (descriptor_with 1 0))
  -- An address in A's block, and one in its neighbour's.
  pub address : ¬ (address_of 1 one_each (address_in 0) ≡ address_of 1 one_each (address_in 1))
  -- A page of A's block, and one of its neighbour's.
  pub page : ¬ (read_page 1 one_each (page_of 0) ≡ read_page 1 one_each (page_of 1))
  -- The answers "block 0" and "block 1" to A's Close of block 0.
  pub answer : ¬ (observed 1 one_each (call (Close 1 0)) (block_reply 0) ≡ observed 1 one_each (call (Close 1 0)) (block_reply 1))
  -- The same two descriptors in one order and in the other.
  pub order : (which : Listed) → ¬ (list_told which (0 ∷ 1 ∷ []) ≡ list_told which (1 ∷ 0 ∷ []))
  -- A list with a block once, and one with it twice.
  pub twice : (which : Listed) → ¬ (list_told which (0 ∷ []) ≡ list_told which (0 ∷ 0 ∷ []))
  -- And whatever bytes a List fills: they are read eight by eight, each eight as a descriptor, and nothing else is.
  pub by_descriptor : (a : ℕ) (u : Drive) (d : ℕ) (which : Listed) (front rest : List ℕ) → length front ≡ 8
      → list_read a u d which (front ++ rest) ≡ descriptor_in a u front ∷ list_read a u d which rest
  pub nothing_else : (a : ℕ) (u : Drive) (d : ℕ) (which : Listed) → list_read a u d which [] ≡ []
  -- But of a block that A holds the index is left out.
  pub index_left_out : descriptor_in 1 one_each (descriptor_with 0 0) ≡ descriptor_in 1 one_each (descriptor_with 0 77)
