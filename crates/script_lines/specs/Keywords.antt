-- The words that begin a line, and what is to follow each.
use Rattle.std.specs.Prelude.{ℕ, cond, List, [], ◌∷◌, Option, Some, None}
use Rattle.std.specs.Str.{bytes_eq}
use Rattle.script_lines.specs.Words.{ascii}
use Rattle.script_lines.specs.declared.keywords.Expected.{Expected}
use Rattle.script_lines.specs.declared.keywords.Expected.TheVariants.{Block, Buffer, Length, Listed, Number, Way}
use Rattle.script_lines.specs.declared.keywords.Keyword.{Keyword}
use Rattle.script_lines.specs.declared.keywords.Keyword.TheVariants.{Append, Change, Close, Create, Delete, Erase}
use Rattle.script_lines.specs.declared.keywords.Keyword.TheVariants.{Free, Latest, Lend, List as Listing, Make, Page}
use Rattle.script_lines.specs.declared.keywords.Keyword.TheVariants.{Pulse, Read, Show, Start, Take, Write}

-- A keyword and its name.
pub record Entry : Type 0 where
  pub name : List ℕ
  pub keyword : Keyword

abbrev pub entry : List ℕ → Keyword → Entry
entry name keyword = record { name = name; keyword = keyword }

abbrev pub entries : List Entry
entries =
    entry (ascii "start") Start
    ∷ entry (ascii "create") Create
    ∷ entry (ascii "change") Change
    ∷ entry (ascii "delete") Delete
    ∷ entry (ascii "erase") Erase
    ∷ entry (ascii "close") Close
    ∷ entry (ascii "free") Free
    ∷ entry (ascii "write") Write
    ∷ entry (ascii "read") Read
    ∷ entry (ascii "page") Page
    ∷ entry (ascii "list") Listing
    ∷ entry (ascii "pulse") Pulse
    ∷ entry (ascii "make") Make
    ∷ entry (ascii "take") Take
    ∷ entry (ascii "lend") Lend
    ∷ entry (ascii "show") Show
    ∷ entry (ascii "append") Append
    ∷ entry (ascii "latest") Latest
    ∷ []

-- The first keyword with that name.
unfoldable pub looked_up : List Entry → List ℕ → Option Keyword
looked_up [] text = None
looked_up (e ∷ es) text = cond (bytes_eq text e.name) (Some e.keyword) (looked_up es text)

-- The keyword that a word is.
unfoldable pub keyword_of : List ℕ → Option Keyword
keyword_of text = looked_up entries text

-- What follows a keyword, in this order, and then nothing more.
abbrev pub form : Keyword → List Expected
form Start = Number ∷ Number ∷ Number ∷ Number ∷ Number ∷ Number ∷ Number ∷ []
form Create = Number ∷ Number ∷ Number ∷ Number ∷ Number ∷ []
form Change = Number ∷ Number ∷ Number ∷ []
form Delete = Number ∷ []
form Erase = Number ∷ Block ∷ []
form Close = Number ∷ Number ∷ []
form Free = Number ∷ Number ∷ []
form Write = Number ∷ Way ∷ Number ∷ Number ∷ Number ∷ []
form Read = Number ∷ Number ∷ Number ∷ Number ∷ []
form Page = Number ∷ Number ∷ []
form Listing = Number ∷ Listed ∷ []
form Pulse = Number ∷ []
form Make = Number ∷ Number ∷ Number ∷ Number ∷ Number ∷ Number ∷ []
form Take = Number ∷ []
form Lend = Buffer ∷ Length ∷ []
form Show = []
form Append = Number ∷ Number ∷ []
form Latest = Number ∷ Number ∷ []
