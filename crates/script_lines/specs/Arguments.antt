-- The arguments of a line, one after the other.
use Rattle.std.specs.Prelude.{ℕ, ◌+◌, cond, List, [], ◌∷◌, Option, Some, None, Result, Ok, Err, ltb, length, set}
use Rattle.std.specs.Option.{ok_or, option_and_then, option_map}
use Rattle.std.specs.Str.{bytes_eq}
use Rattle.model.specs.declared.command.Listed.{Listed}
use Rattle.model.specs.declared.command.Listed.TheVariants.{Closed, Open}
use Rattle.script_lines.specs.Keywords.{form}
use Rattle.script_lines.specs.Numbers.{number_of}
use Rattle.script_lines.specs.Words.{ascii, first, part}
use Rattle.script_lines.specs.declared.arguments.Arguments.{Arguments}
use Rattle.script_lines.specs.declared.arguments.Buffer.{Buffer}
use Rattle.script_lines.specs.declared.arguments.Buffer.TheVariants.{Bytes, Store, Words}
use Rattle.script_lines.specs.declared.arguments.Fault.{Fault}
use Rattle.script_lines.specs.declared.arguments.Length.{Length}
use Rattle.script_lines.specs.declared.arguments.Length.TheVariants.{Entries, Full}
use Rattle.script_lines.specs.declared.arguments.Way.{Way}
use Rattle.script_lines.specs.declared.arguments.Way.TheVariants.{Block, Placement}
use Rattle.script_lines.specs.declared.keywords.Expected.{Expected}
use Rattle.script_lines.specs.declared.keywords.Expected.TheVariants as expected
use Rattle.script_lines.specs.declared.keywords.Keyword.{Keyword}
use Rattle.script_lines.specs.declared.words.Mark.TheVariants as mark

-- The value of a name, where the word is that name.
abbrev pub named : {T : Type 0} → List ℕ → List ℕ → T → Option T → Option T
named text name value otherwise = cond (bytes_eq text name) (Some value) otherwise

-- `auto` is the block number FFFFFFFFh.
abbrev pub block_of : List ℕ → Option ℕ
block_of text = named text (ascii "auto") 4294967295 (number_of text)

abbrev pub way_of : List ℕ → Option Way
way_of text = named text (ascii "placement") Placement (named text (ascii "block") Block None)

abbrev pub listed_of : List ℕ → Option Listed
listed_of text = named text (ascii "open") Open (named text (ascii "closed") Closed None)

abbrev pub buffer_of : List ℕ → Option Buffer
buffer_of text =
    named text (ascii "store") Store (named text (ascii "words") Words (named text (ascii "bytes") Bytes None))

-- Any number but the largest is a length.
abbrev pub entries_of : ℕ → Option Length
entries_of n = cond (ltb n 18446744073709551615) (Some (Entries n)) None

abbrev pub length_of : List ℕ → Option Length
length_of text = named text (ascii "full") Full (option_and_then entries_of (number_of text))

abbrev pub with_number : Arguments → ℕ → ℕ → Arguments
with_number read i n = record read { numbers = set read.numbers i n }

-- The arguments with what a word stands for as argument i, where this is expected.
abbrev pub taken : Arguments → ℕ → Expected → List ℕ → Option Arguments
taken read i expected.Keyword text = None
taken read i expected.Number text = option_map (with_number read i) (number_of text)
taken read i expected.Block text = option_map (with_number read i) (block_of text)
taken read i expected.Way text = option_map (λ way. record read { way = way }) (way_of text)
taken read i expected.Listed text = option_map (λ listed. record read { listed = listed }) (listed_of text)
taken read i expected.Buffer text = option_map (λ buffer. record read { buffer = buffer }) (buffer_of text)
taken read i expected.Length text = option_map (λ length. record read { length = length }) (length_of text)
taken read i expected.LineEnd text = None

-- What follows a success; a fault stays.
abbrev pub follows : {A B : Type 0} → Result A Fault → (A → Result B Fault) → Result B Fault
follows (Ok x) next = next x
follows (Err fault) next = Err fault

abbrev pub fault_at : Expected → ℕ → Fault
fault_at expected at = record { expected = expected; at = at }

-- Arguments of these kinds behind an index of the line, put to i that were read before: each is the next word, and behind
-- the last there is no word. The first that is not what is expected there is the fault.
unfoldable pub read_on : List Expected → List ℕ → ℕ → ℕ → Arguments → Result Arguments Fault
read_on [] line at i read =
    cond (ltb (first mark.Word line at) (length line))
    (Err (fault_at expected.LineEnd (first mark.Word line at)))
    (Ok read)
read_on (kind ∷ rest) line at i read =
    follows
    (ok_or
    (taken read i kind (part line (first mark.Word line at) (first mark.Blank line (first mark.Word line at))))
    (fault_at kind (first mark.Word line at)))
    (λ more. read_on rest line (first mark.Blank line (first mark.Word line at)) (i + 1) more)

-- What stands where nothing is read.
abbrev pub unread : Arguments
unread = record {
  numbers = 0 ∷ 0 ∷ 0 ∷ 0 ∷ 0 ∷ 0 ∷ 0 ∷ [];
  way = Placement;
  listed = Open;
  buffer = Store;
  length = Full;
}

-- The arguments of a keyword that ends at an index.
abbrev pub arguments_of : List ℕ → Keyword → ℕ → Result Arguments Fault
arguments_of line keyword at = read_on (form keyword) line at 0 unread
