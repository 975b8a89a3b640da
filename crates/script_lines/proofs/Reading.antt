-- Arguments are read one after the other.
use Rattle.std.proofs.Common.{◌≡◌, ℕ, ◌+◌, ◌<◌, ◌≤◌, List, Result, Ok, Err, drop, length, get_or}
use Rattle.std.proofs.Common.{drop-cons, add-one, le-ltb, lt-ltb}
use Rattle.std.specs.Option.{ok_or}
use Rattle.std.proofs.Math.ListN.{drop_of_length-le}
use Rattle.script_lines.specs.Arguments.{fault_at, read_on, taken}
use Rattle.script_lines.specs.Words.{first, part}
use Rattle.script_lines.specs.declared.arguments.Arguments.{Arguments}
use Rattle.script_lines.specs.declared.arguments.Fault.{Fault}
use Rattle.script_lines.specs.declared.keywords.Expected.TheVariants.{Keyword as AKeyword, LineEnd}
use Rattle.script_lines.specs.declared.keywords.Expected.{Expected}
use Rattle.script_lines.specs.declared.words.Mark.TheVariants as mark

module _ (forms : List Expected) (line : List ℕ) (at i : ℕ) (read : Arguments) where
  -- The next word is argument i ..
  module _ {begin end : ℕ} (l : i < length forms) (b : begin ≡ first mark.Word line at)
      (e : end ≡ first mark.Blank line begin) where
    abbrev kind : Expected
    kind = get_or forms i AKeyword

    abbrev word : Result Arguments Fault
    word = ok_or (taken read i kind (part line begin end)) (fault_at kind begin)

    -- .. with what it stands for ..
    pub word_read : (more : Arguments) → word ≡ Ok more
        → read_on (drop i forms) line at i read ≡ read_on (drop (i + 1) forms) line end (i + 1) more
    unfolding read_on
    word_read more v = rw (drop-cons forms i AKeyword l, ← b, ← e, v, add-one)

    -- .. or the fault.
    pub word_fault : (fault : Fault) → word ≡ Err fault → read_on (drop i forms) line at i read ≡ Err fault
    unfolding read_on
    word_fault fault v = rw (drop-cons forms i AKeyword l, ← b, ← e, v)

  -- Behind the last argument ..
  module _ {rest : ℕ} (l : length forms ≤ i) (b : rest ≡ first mark.Word line at) where
    -- .. there may be one word too many ..
    pub rest_read : rest < length line → read_on (drop i forms) line at i read ≡ Err (fault_at LineEnd rest)
    unfolding read_on
    rest_read m = rw (drop_of_length-le forms l, ← b, lt-ltb rest (length line) m)

    -- .. or none.
    pub all_read : length line ≤ rest → read_on (drop i forms) line at i read ≡ Ok read
    unfolding read_on
    all_read m = rw (drop_of_length-le forms l, ← b, le-ltb rest (length line) m)
