-- The line for an answer, with its end of line.
use Rattle.std.specs.Prelude.{ℕ, ◌/◌, cond, List, [], ◌++◌, ◌≡◌, eqb, leb, drop, length, take}
use Rattle.answer_lines.specs.Texts.{bytes_text, decimal, descriptor_count, descriptors_text, spaced, words_text}
use Rattle.geometry.specs.declared.shape.Adus.{Adus}
use Rattle.model.specs.Answers.{number_of}
use Rattle.model.specs.declared.answer.Answer.{Answer}
use Rattle.model.specs.declared.answer.Answer.TheVariants.{Block, Done, Refused}
use Rattle.model.specs.declared.command.Command.{Command}
use Rattle.model.specs.declared.command.Command.TheVariants.{ChangeCapacity, Close, Create, Delete, Erase, Free, List as Listing, Page, Pulse, Read}
use Rattle.model.specs.declared.command.Command.TheVariants.{WriteByBlock, WriteByPlacement}
use Rattle.script_lines.specs.Words.{ascii}

abbrev pub ok_line : List ℕ → List ℕ
ok_line output = ascii "ok" ++ (output ++ ascii "\n")

abbrev pub number_line : List ℕ → ℕ → List ℕ
number_line name n = name ++ (decimal n ++ ascii "\n")

abbrev pub refused_line : ℕ → List ℕ
refused_line number = number_line (ascii "refused ") number

-- So many of the words, as text.
abbrev pub counted_words : Adus → List ℕ → List ℕ
counted_words count words = words_text (take count.0 words)

-- The descriptors of a list up to its end mark and with it, as text.
abbrev pub listed_text : List ℕ → List ℕ
listed_text bytes = descriptors_text (descriptor_count (length bytes / 8) bytes) bytes

-- What success fills, as text: the words of writes and of Read, the 256 bytes of Page, the descriptors of List with the end mark.
abbrev pub filled_text : Command → List ℕ → List ℕ → List ℕ
filled_text (Create d guarantee quota placements limit) words bytes = []
filled_text (ChangeCapacity d guarantee quota) words bytes = []
filled_text (Delete d) words bytes = []
filled_text (Erase d n) words bytes = []
filled_text (Close d n) words bytes = []
filled_text (Free d n) words bytes = []
filled_text (WriteByPlacement d p start count) words bytes = counted_words count words
filled_text (WriteByBlock d n start count) words bytes = counted_words count words
filled_text (Read d address count expected) words bytes = counted_words count words
filled_text (Page d n) words bytes = spaced (bytes_text (take 256 bytes))
filled_text (Listing d listed) words bytes = listed_text bytes
filled_text (Pulse seconds) words bytes = []

-- Success with what it fills, success with a block number, or a refusal with its number.
abbrev pub outcome_line : Answer → List ℕ → List ℕ
outcome_line Done filled = ok_line filled
outcome_line (Block n) filled = number_line (ascii "ok block ") n
outcome_line (Refused reason) filled = refused_line (number_of reason)

abbrev pub answer_line : Command → Answer → List ℕ → List ℕ → List ℕ
answer_line c answer words bytes = outcome_line answer (filled_text c words bytes)

-- An answer to a call that fills so many words: `append` the flash address of its sample, `latest` the samples.
abbrev pub samples_line : Answer → Adus → List ℕ → List ℕ
samples_line answer count words = outcome_line answer (counted_words count words)

-- An answer to making or taking apart an address, which fills so many bytes.
abbrev pub address_line : ℕ → ℕ → List ℕ → List ℕ
address_line number filled bytes = cond (eqb number 0) (ok_line (spaced (bytes_text (take filled bytes)))) (refused_line number)

-- A line at the front of a buffer, and its length; a buffer that is too short for it stays as it was, and the length is 0.
pub record Prints (text before : List ℕ) (r : ℕ) (after : List ℕ) : Type 0 where
  pub counted : r ≡ cond (leb (length text) (length before)) (length text) 0
  pub filled : after ≡ cond (leb (length text) (length before)) (text ++ drop (length text) before) before
