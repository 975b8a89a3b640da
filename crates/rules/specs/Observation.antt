-- Document 01, "Whole runs": what a domain can tell of a drive, of a call and of a reply. Block numbers and P/E counts are not in
-- it: a block that the domain holds goes by its serial.
use Rattle.std.specs.Prelude.{ℕ, zero, suc, ◌+◌, ◌*◌, ◌/◌, ◌<◌, Bool, true, ◌||◌, cond, List, [], ◌∷◌, map, ◌≡◌, eqb, drop, get_or, length, take}
use Rattle.std.proofs.Math.Option.{Option, none, some}
use Rattle.geometry.specs.Address.{fields_of, is_block}
use Rattle.geometry.specs.Questions.{Outcome}
use Rattle.geometry.specs.declared.shape.Adus.{Adus}
use Rattle.geometry.specs.declared.shape.Planes.{Planes}
use Rattle.model.specs.declared.block.State.{State}
use Rattle.model.specs.declared.command.Command.TheVariants.{ChangeCapacity, Close, Create, Delete, Erase, Free, List as Listing, Page, Pulse, Read}
use Rattle.model.specs.declared.command.Command.TheVariants.{WriteByBlock, WriteByPlacement}
use Rattle.model.specs.declared.command.Listed.{Listed}
use Rattle.rules.specs.Calls as calls
use Rattle.rules.specs.Calls.{Asked, BytesDue, Call, Lengths, Named, Values, WordsDue, is_pulse, own_domain, profile_of}
use Rattle.rules.specs.Calls.{address_words, block_in_address, blocks_after, blocks_before, counts, held_block, held_or_free, list_bytes}
use Rattle.rules.specs.Calls.{no_bytes, no_words, page_bytes, unnamed, user_words}
use Rattle.rules.specs.Drive.{Drive, block_at, entries_of, held_by, size}
use Rattle.rules.specs.Effects.{answer_to, bytes_filled, step, words_filled}

-- ---- What A holds

-- What a domain has of a block that it holds: its serial, its state with way of opening and placement, written, seconds left, and
-- the entry of each ADU.
pub record Holding : Type 0 where
  pub serial : ℕ
  pub state : State
  pub written : ℕ
  pub left : ℕ
  pub entries : List ℕ

abbrev pub serial_at : Drive → ℕ → ℕ
serial_at v n = (block_at v.table n).serial

abbrev pub holding_at : Drive → ℕ → Holding
holding_at v n =
    let b = block_at v.table n in
    record { serial = b.serial; state = b.state; written = b.written.0; left = b.left; entries = entries_of v n }

-- The domain a holds block n.
abbrev pub Holds : ℕ → Drive → ℕ → Type 0
Holds a v n = (n < size v.table) × (held_by a (block_at v.table n) ≡ true)

-- A's blocks have the same serials in two drives, and equal serials mean an equal holding.
pub record SameHoldings (a : ℕ) (v w : Drive) : Type 0 where
  pub there : (n : ℕ) → Holds a v n → (m : ℕ) × Holds a w m × (serial_at v n ≡ serial_at w m)
  pub back : (m : ℕ) → Holds a w m → (n : ℕ) × Holds a v n × (serial_at v n ≡ serial_at w m)
  pub equal : (n m : ℕ) → Holds a v n → Holds a w m → serial_at v n ≡ serial_at w m → holding_at v n ≡ holding_at w m

-- ---- What A sends

-- Calls whose own domain is A are A's; all others but Pulse are the neighbours'.
abbrev pub concerns : ℕ → Asked → Bool
concerns a x = is_pulse x || eqb (own_domain x) a

-- A block that is named: one that A holds is given by its serial; of any other block of the drive no more is said than that it
-- is one; and a number that is no block's (FFFFFFFFh is one) stays a number.
pub data Name : Type 0 where
  held : (serial : ℕ) → Name
  other : Name
  no_block : (number : ℕ) → Name

abbrev pub name_of : ℕ → Drive → ℕ → Name
name_of a v n =
    cond (is_block v.table.config n)
    (cond (held_by a (block_at v.table n)) (held (serial_at v n)) other)
    (no_block n)

-- A flash address, its block by name.
pub record Address : Type 0 where
  pub domain : ℕ
  pub block : Name
  pub offset : Adus

abbrev pub address_of : ℕ → Drive → ℕ → Address
address_of a v word =
    let f = fields_of v.table.config word in
    record { domain = f.domain; block = name_of a v f.block; offset = f.offset }

-- The block that a command names, as A knows it.
pub data Naming : Type 0 where
  names_nothing : Naming
  names_block : Name → Naming
  names_address : Address → Naming

abbrev pub naming_of : ℕ → Drive → Named → Naming
naming_of a v unnamed = names_nothing
naming_of a v (held_block n) = names_block (name_of a v n)
naming_of a v (held_or_free n) = names_block (name_of a v n)
naming_of a v (block_in_address word) = names_address (address_of a v word)

-- A call by kind and arguments; its own domain and the block that it names are left out.
pub data Request : Type 0 where
  create : (guarantee quota : Planes) (placements limit : ℕ) → Request
  change_capacity : (guarantee quota : Planes) → Request
  delete : Request
  erase : Request
  close : Request
  free : Request
  write_by_placement : (placement start : ℕ) (count : Adus) → Request
  write_by_block : (start : ℕ) (count : Adus) → Request
  read : (count : Adus) (expected : ℕ) → Request
  page : Request
  list : Listed → Request
  pulse : (seconds : ℕ) → Request
  append : (sample : ℕ) → Request
  latest : (count : Adus) → Request

unfoldable pub request_of : Asked → Request
request_of (calls.command (Create d guarantee quota placements limit)) = create guarantee quota placements limit
request_of (calls.command (ChangeCapacity d guarantee quota)) = change_capacity guarantee quota
request_of (calls.command (Delete d)) = delete
request_of (calls.command (Erase d n)) = erase
request_of (calls.command (Close d n)) = close
request_of (calls.command (Free d n)) = free
request_of (calls.command (WriteByPlacement d p start count)) = write_by_placement p start count
request_of (calls.command (WriteByBlock d n start count)) = write_by_block start count
request_of (calls.command (Read d address count expected)) = read count expected
request_of (calls.command (Page d n)) = page
request_of (calls.command (Listing d which)) = list which
request_of (calls.command (Pulse seconds)) = pulse seconds
request_of (calls.append d sample) = append sample
request_of (calls.latest d count) = latest count

-- What a call is to A (01: a place): kind, arguments, the block that is named, and the lent lengths; of a pulse not the lengths.
pub record Input : Type 0 where
  pub request : Request
  pub names : Naming
  pub lent : Option Lengths

abbrev pub input_of : ℕ → Drive → Call → Input
input_of a v k = record {
  request = request_of k.asks;
  names = naming_of a v (profile_of k.asks).names;
  lent = cond (is_pulse k.asks) none (some k.lent);
}

-- ---- What A is told

-- An answer, and the words and bytes that are filled with it.
pub record Reply : Type 0 where
  pub answer : Outcome
  pub words : List ℕ
  pub bytes : List ℕ

-- What the rules give as a reply.
pub record Replies (v : Drive) (k : Call) (r : Reply) : Type 0 where
  pub answers : r.answer ≡ answer_to v k
  pub fills_words : r.words ≡ words_filled v k
  pub fills_bytes : r.bytes ≡ bytes_filled v k

-- The values of an answer: counts as they are, block numbers by name. For Free a block is named as A held it before the call, else
-- as A holds it after the call.
pub data ReadValues : Type 0 where
  numbers : List ℕ → ReadValues
  blocks : List Name → ReadValues

abbrev pub read_values : Values → ℕ → Drive → Drive → List ℕ → ReadValues
read_values counts a before after values = numbers values
read_values blocks_after a before after values = blocks (map (name_of a after) values)
read_values blocks_before a before after values = blocks (map (name_of a before) values)

-- The words: user addresses as they are, flash addresses with their blocks by name.
pub data ReadWords : Type 0 where
  plain : List ℕ → ReadWords
  addresses : List Address → ReadWords

abbrev pub read_words : WordsDue → ℕ → Drive → List ℕ → ReadWords
read_words no_words a u words = ReadWords.plain words
read_words (user_words count) a u words = ReadWords.plain words
read_words (address_words count) a u words = addresses (map (address_of a u) words)

-- The number in little-endian bytes.
unfoldable pub number_in : List ℕ → ℕ
number_in [] = 0
number_in (b ∷ bs) = b + 256 * number_in bs

-- A descriptor of a list: the block in bytes 0 to 3 by name. The P/E index in byte 4 is left out (it reads 0), but not where no
-- block is named: of the end mark every byte is kept.
pub record Descriptor : Type 0 where
  pub block : Name
  pub index : ℕ
  pub mark : ℕ
  pub byte6 : ℕ
  pub byte7 : ℕ

abbrev pub descriptor_in : ℕ → Drive → List ℕ → Descriptor
descriptor_in a u bytes =
    let number = number_in (take 4 bytes) in
    record {
      block = name_of a u number;
      index = cond (is_block u.table.config number) 0 (get_or bytes 4 0);
      mark = get_or bytes 5 0;
      byte6 = get_or bytes 6 0;
      byte7 = get_or bytes 7 0;
    }

-- So many descriptors, of 8 bytes each.
unfoldable pub read_descriptors : ℕ → Drive → ℕ → List ℕ → List Descriptor
read_descriptors a u zero bytes = []
read_descriptors a u (suc k) bytes = descriptor_in a u (take 8 bytes) ∷ read_descriptors a u k (drop 8 bytes)

abbrev pub read_list : ℕ → Drive → List ℕ → List Descriptor
read_list a u bytes = read_descriptors a u (length bytes / 8) bytes

-- The bytes. A List by its descriptors, in their order (02, Wish 2). Of Super Block Information the block in bytes 4 to 7 by name, and the
-- P/E index in byte 12 left out.
pub data ReadBytes : Type 0 where
  plain : List ℕ → ReadBytes
  page : (front : List ℕ) → Name → (middle rest : List ℕ) → ReadBytes
  list : List Descriptor → ReadBytes

unfoldable pub read_page : ℕ → Drive → List ℕ → ReadBytes
read_page a u [] = ReadBytes.plain []
read_page a u (b ∷ bs) =
    let bytes = b ∷ bs in
    ReadBytes.page (take 4 bytes) (name_of a u (number_in (take 4 (drop 4 bytes)))) (take 4 (drop 8 bytes)) (drop 13 bytes)

abbrev pub read_bytes : BytesDue → ℕ → Drive → List ℕ → ReadBytes
read_bytes no_bytes a u bytes = ReadBytes.plain bytes
read_bytes (page_bytes n) a u bytes = read_page a u bytes
read_bytes (list_bytes d which) a u bytes = ReadBytes.list (read_list a u bytes)

-- What A observes of a reply: the refusal's number or 0, the values of the answer, and what is filled.
pub record Observation : Type 0 where
  pub number : ℕ
  pub values : ReadValues
  pub words : ReadWords
  pub bytes : ReadBytes

unfoldable pub observed : ℕ → Drive → Call → Reply → Observation
observed a v k r =
    let p = profile_of k.asks in
    let u = step k v in
    record {
      number = r.answer.number;
      values = read_values p.values a v u r.answer.values;
      words = read_words p.words a u r.words;
      bytes = read_bytes p.bytes a u r.bytes;
    }
