-- What a line of a script asks for.
use Rattle.std.specs.Prelude.{ℕ, cond, List, Result, Ok, Err, eqb, get_or, length, take}
use Rattle.std.specs.Option.{ok_or}
use Rattle.geometry.specs.Shape.{adus, planes}
use Rattle.geometry.specs.declared.shape.Config.{Config}
use Rattle.geometry.specs.declared.address.Elements.{Elements}
use Rattle.model.specs.declared.command.Command.{Command}
use Rattle.model.specs.declared.command.Command.TheVariants as command
use Rattle.script_lines.specs.Arguments.{arguments_of, fault_at, follows}
use Rattle.script_lines.specs.Keywords.{keyword_of}
use Rattle.script_lines.specs.Words.{first, part}
use Rattle.script_lines.specs.declared.arguments.Arguments.{Arguments}
use Rattle.script_lines.specs.declared.arguments.Fault.{Fault}
use Rattle.script_lines.specs.declared.arguments.Way.{Way}
use Rattle.script_lines.specs.declared.arguments.Way.TheVariants.{Block, Placement}
use Rattle.script_lines.specs.declared.keywords.Expected.TheVariants as expected
use Rattle.script_lines.specs.declared.keywords.Keyword.{Keyword}
use Rattle.script_lines.specs.declared.keywords.Keyword.TheVariants as keyword
use Rattle.script_lines.specs.declared.lines.Line.{Line}
use Rattle.script_lines.specs.declared.lines.Line.TheVariants.{Append, Latest, Lend, Make, Nothing, Serve}
use Rattle.script_lines.specs.declared.lines.Line.TheVariants.{Show, Start, Take, Wrong}
use Rattle.script_lines.specs.declared.words.Mark.TheVariants as mark

-- Argument i, counted from 0.
abbrev pub nth : List ℕ → ℕ → ℕ
nth v i = get_or v i 0

abbrev pub config_of : List ℕ → Config
config_of v = record {
  pages = nth v 0;
  dies = nth v 1;
  planes = nth v 2;
  adus = nth v 3;
  blocks = nth v 4;
  rated = nth v 5;
  period = nth v 6;
}

-- The elements of an address stand behind its domain and its block.
abbrev pub elements_of : List ℕ → Elements
elements_of v = record { page = nth v 2; die = nth v 3; plane = nth v 4; adu = nth v 5 }

-- The way is said between the domain and the target.
abbrev pub write_of : Way → List ℕ → Command
write_of Placement v = command.WriteByPlacement (nth v 0) (nth v 2) (nth v 3) (adus (nth v 4))
write_of Block v = command.WriteByBlock (nth v 0) (nth v 2) (nth v 3) (adus (nth v 4))

-- What a keyword asks for with these numbers, which follow it in this order, and the others of its arguments.
abbrev pub meaning_of : Keyword → List ℕ → Arguments → Line
meaning_of keyword.Start v read = Start (config_of v)
meaning_of keyword.Create v read =
    Serve (command.Create (nth v 0) (planes (nth v 1)) (planes (nth v 2)) (nth v 3) (nth v 4))
meaning_of keyword.Change v read = Serve (command.ChangeCapacity (nth v 0) (planes (nth v 1)) (planes (nth v 2)))
meaning_of keyword.Delete v read = Serve (command.Delete (nth v 0))
meaning_of keyword.Erase v read = Serve (command.Erase (nth v 0) (nth v 1))
meaning_of keyword.Close v read = Serve (command.Close (nth v 0) (nth v 1))
meaning_of keyword.Free v read = Serve (command.Free (nth v 0) (nth v 1))
meaning_of keyword.Write v read = Serve (write_of read.way v)
meaning_of keyword.Read v read = Serve (command.Read (nth v 0) (nth v 1) (adus (nth v 2)) (nth v 3))
meaning_of keyword.Page v read = Serve (command.Page (nth v 0) (nth v 1))
meaning_of keyword.List v read = Serve (command.List (nth v 0) read.listed)
meaning_of keyword.Pulse v read = Serve (command.Pulse (nth v 0))
meaning_of keyword.Make v read = Make (nth v 0) (nth v 1) (elements_of v)
meaning_of keyword.Take v read = Take (nth v 0)
meaning_of keyword.Lend v read = Lend read.buffer read.length
meaning_of keyword.Show v read = Show
meaning_of keyword.Append v read = Append (nth v 0) (nth v 1)
meaning_of keyword.Latest v read = Latest (nth v 0) (adus (nth v 1))

-- What a keyword asks for with its arguments.
abbrev pub meaning : Keyword → Arguments → Line
meaning k read = meaning_of k read.numbers read

-- A keyword that ends at an index, with what follows it.
abbrev pub keyword_line : List ℕ → Keyword → ℕ → Result Line Fault
keyword_line text k end = follows (arguments_of text k end) (λ read. Ok (meaning k read))

-- A line without its comment: it begins with a keyword.
abbrev pub text_line : List ℕ → Result Line Fault
text_line text =
    let begin = first mark.Word text 0 in
    let end = first mark.Blank text begin in
    cond (eqb begin (length text))
    (Ok Nothing)
    (follows
    (ok_or (keyword_of (part text begin end)) (fault_at expected.Keyword begin))
    (λ k. keyword_line text k end))

-- What is asked for, or what was expected and where.
abbrev pub asked_or_wrong : Result Line Fault → Line
asked_or_wrong (Ok asked) = asked
asked_or_wrong (Err fault) = Wrong fault.expected fault.at

-- The whole line.
abbrev pub line_of : List ℕ → Line
line_of line = asked_or_wrong (text_line (take (first mark.Comment line 0) line))
