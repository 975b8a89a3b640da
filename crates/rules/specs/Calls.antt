-- A call, and what has to be known of each kind of call beside its own questions and its effect.
use Rattle.std.specs.Prelude.{ℕ, Bool, true, false, List, length}
use Rattle.geometry.specs.Shape.{adus}
use Rattle.geometry.specs.declared.shape.Adus.{Adus}
use Rattle.model.specs.declared.command.Command.{Command}
use Rattle.model.specs.declared.command.Command.TheVariants.{ChangeCapacity, Close, Create, Delete, Erase, Free, List as Listing, Page, Pulse, Read}
use Rattle.model.specs.declared.command.Command.TheVariants.{WriteByBlock, WriteByPlacement}
use Rattle.model.specs.declared.command.Listed.{Listed}

infixl 5 ◌asking◌ ◌for◌
-- The lengths of what is lent: entries of the store, words and bytes.
pub record Lengths : Type 0 where
  pub store : ℕ
  pub words : ℕ
  pub bytes : ℕ

-- What a call asks for: a command of the manager, or one of the recorder's two calls (02, Wish 1): append a sample to a domain, read
-- so many of its latest ones.
pub data Asked : Type 0 where
  command : Command → Asked
  append : (domain sample : ℕ) → Asked
  latest : (domain : ℕ) → Adus → Asked

-- What is asked for, and the lengths that are lent with it. In a run a store of S × C entries is the run's own, as the last call left it;
-- one of another length may be lent instead, which question 3 refuses and a command without question 3 never touches.
pub record Call : Type 0 where
  pub asks : Asked
  pub lent : Lengths

-- The same call for something else, and with this command.
abbrev pub ◌for◌ : Call → Asked → Call
k for x = record { asks = x; lent = k.lent }

abbrev pub ◌asking◌ : Call → Command → Call
k asking c = k for command c

-- What is asked for with the lengths that it is lent: entries of the store, words and bytes.
abbrev pub lending_for : Asked → ℕ → ℕ → ℕ → Call
lending_for x store words bytes = record { asks = x; lent = record { store = store; words = words; bytes = bytes } }

-- A command with these lengths.
abbrev pub lending : Command → ℕ → ℕ → ℕ → Call
lending c store words bytes = lending_for (command c) store words bytes

-- What is asked for with these buffers; so it is of a command.
abbrev pub calling_for : Asked → List ℕ → List ℕ → List ℕ → Call
calling_for x store words bytes = lending_for x (length store) (length words) (length bytes)

abbrev pub calling : Command → List ℕ → List ℕ → List ℕ → Call
calling c store words bytes = calling_for (command c) store words bytes

-- ---- Kinds of call

-- The domain that a command names as its own: one that exists or, for Create, one that does not yet. Pulse names none.
pub data Own : Type 0 where
  existing : (domain : ℕ) → Own
  missing : (domain : ℕ) → Own
  nobody : Own

-- The block that it names: one that question 9 wants held, for Erase held or Free (FFFFFFFFh names none), or the one inside a flash
-- address.
pub data Named : Type 0 where
  unnamed : Named
  held_block : (block : ℕ) → Named
  held_or_free : (block : ℕ) → Named
  block_in_address : (word : ℕ) → Named

-- What the values of its answer are: block numbers, of blocks as they are after the call or, for Free, before it; else counts, if there are
-- any.
pub data Values : Type 0 where
  counts : Values
  blocks_after : Values
  blocks_before : Values

-- The words that success fills: so many user addresses or flash addresses.
pub data WordsDue : Type 0 where
  no_words : WordsDue
  user_words : Adus → WordsDue
  address_words : Adus → WordsDue

-- The bytes that success fills: Super Block Information of a block, or a list of a domain's blocks.
pub data BytesDue : Type 0 where
  no_bytes : BytesDue
  page_bytes : (block : ℕ) → BytesDue
  list_bytes : (domain : ℕ) → Listed → BytesDue

pub record Profile : Type 0 where
  pub own : Own
  -- whether it is asked question 3
  pub store : Bool
  pub names : Named
  -- those of Pulse
  pub seconds : ℕ
  pub values : Values
  pub words : WordsDue
  pub bytes : BytesDue

-- A kind of call in a line: own domain, whether it is asked 3, the block that it names, the seconds that pass, and what
-- the values, words and bytes of its answer are.
abbrev pub kind : Own → Bool → Named → ℕ → Values → WordsDue → BytesDue → Profile
kind own store names seconds values words bytes = record {
  own = own;
  store = store;
  names = names;
  seconds = seconds;
  values = values;
  words = words;
  bytes = bytes;
}

abbrev pub profile : Command → Profile
profile (Create d guarantee quota placements limit) = kind (missing d) false unnamed 0 counts no_words no_bytes
profile (ChangeCapacity d guarantee quota) = kind (existing d) false unnamed 0 counts no_words no_bytes
profile (Delete d) = kind (existing d) false unnamed 0 counts no_words no_bytes
profile (Erase d n) = kind (existing d) true (held_or_free n) 0 blocks_after no_words no_bytes
profile (Close d n) = kind (existing d) false (held_block n) 0 blocks_after no_words no_bytes
profile (Free d n) = kind (existing d) false (held_block n) 0 blocks_before no_words no_bytes
profile (WriteByPlacement d p start count) = kind (existing d) true unnamed 0 counts (address_words count) no_bytes
profile (WriteByBlock d n start count) = kind (existing d) true (held_block n) 0 counts (address_words count) no_bytes
profile (Read d address count expected) = kind (existing d) true (block_in_address address) 0 counts (user_words count) no_bytes
profile (Page d n) = kind (existing d) false (held_block n) 0 counts no_words (page_bytes n)
profile (Listing d which) = kind (existing d) false unnamed 0 counts no_words (list_bytes d which)
profile (Pulse seconds) = kind nobody false unnamed seconds counts no_words no_bytes

-- The profile of each kind of call: a command's own, and those of the recorder's two.
abbrev pub profile_of : Asked → Profile
profile_of (command c) = profile c
profile_of (append d sample) = kind (existing d) true unnamed 0 counts (address_words (adus 1)) no_bytes
profile_of (latest d count) = kind (existing d) true unnamed 0 counts (user_words count) no_bytes

-- How many words success fills.
abbrev pub word_count : WordsDue → ℕ
word_count no_words = 0
word_count (user_words count) = count.0
word_count (address_words count) = count.0

-- The domain that a call names as its own; 0 is no domain's ID.
abbrev pub domain_of : Own → ℕ
domain_of (existing d) = d
domain_of (missing d) = d
domain_of nobody = 0

abbrev pub own_domain : Asked → ℕ
own_domain x = domain_of (profile_of x).own

-- Pulse concerns every domain.
abbrev pub is_nobodys : Own → Bool
is_nobodys (existing d) = false
is_nobodys (missing d) = false
is_nobodys nobody = true

abbrev pub is_pulse : Asked → Bool
is_pulse x = is_nobodys (profile_of x).own
