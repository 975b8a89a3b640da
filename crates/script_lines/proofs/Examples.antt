-- The language as it is written, computed on lines: lines that ask for something, and lines that go wrong, with what was expected behind
-- how many bytes.
use mathlib.Core.Path.{◌≡◌, refl}
use Rattle.geometry.specs.Shape.{adus, planes}
use Rattle.model.specs.declared.command.Command.TheVariants as command
use Rattle.model.specs.declared.command.Listed.TheVariants as listed
use Rattle.script_lines.specs.Arguments.{read_on}
use Rattle.script_lines.specs.Keywords.{keyword_of, looked_up}
use Rattle.script_lines.specs.Lines.{line_of}
use Rattle.script_lines.specs.Numbers.{continued, number_in}
use Rattle.script_lines.specs.Words.{ascii}
use Rattle.script_lines.specs.declared.keywords.Expected.TheVariants as expected
use Rattle.script_lines.specs.declared.arguments.Buffer.TheVariants as buffer
use Rattle.script_lines.specs.declared.arguments.Length.TheVariants as length
use Rattle.script_lines.specs.declared.lines.Line.TheVariants.{Append, Latest, Lend, Nothing, Serve, Show, Take, Wrong}

asked :
    (line_of (ascii "create 1 300 0xC8 2 1") ≡ Serve (command.Create 1 (planes 300) (planes 200) 2 1))
    × (line_of (ascii "erase 2 auto") ≡ Serve (command.Erase 2 4294967295))
    × (line_of (ascii "\twrite 1 placement 0 256 4\r") ≡ Serve (command.WriteByPlacement 1 0 256 (adus 4)))
    × (line_of (ascii "write 1 block 3 0x100 4") ≡ Serve (command.WriteByBlock 1 3 256 (adus 4)))
    × (line_of (ascii "list 16 closed#comment") ≡ Serve (command.List 16 listed.Closed))
    × (line_of (ascii "take 18446744073709551615") ≡ Take 18446744073709551615)
    × (line_of (ascii "lend store full") ≡ Lend buffer.Store length.Full)
    × (line_of (ascii "lend words 007") ≡ Lend buffer.Words (length.Entries 7))
    × (line_of (ascii "show") ≡ Show)
    × (line_of (ascii "append 3 0xffffffffffffffff") ≡ Append 3 18446744073709551615)
    × (line_of (ascii "latest 3 16") ≡ Latest 3 (adus 16))
    × (line_of (ascii "  # create 1 300 200 2 1") ≡ Nothing)
unfolding read_on keyword_of looked_up continued number_in
asked = (refl, refl, refl, refl, refl, refl, refl, refl, refl, refl, refl, refl)

wrong :
    (line_of (ascii "  creat 1") ≡ Wrong expected.Keyword 2)
    × (line_of (ascii "erase 2 atuo") ≡ Wrong expected.Block 8)
    × (line_of (ascii "take 18446744073709551616") ≡ Wrong expected.Number 5)
    × (line_of (ascii "take 0x") ≡ Wrong expected.Number 5)
    × (line_of (ascii "delete") ≡ Wrong expected.Number 6)
    × (line_of (ascii "delete 1 2") ≡ Wrong expected.LineEnd 9)
    × (line_of (ascii "append 3") ≡ Wrong expected.Number 8)
    × (line_of (ascii "latest 3 16 1") ≡ Wrong expected.LineEnd 12)
unfolding read_on keyword_of looked_up continued number_in
wrong = (refl, refl, refl, refl, refl, refl, refl, refl)
