-- What a list tells: a key for each listed block, the keys in order, and what they tell in the marks.
use Rattle.std.specs.Prelude.{ℕ, zero, suc, ◌+◌, ◌*◌, ◌/◌, ◌%◌, Bool, ◌&&◌, cond, List, [], ◌∷◌, ◌++◌, ltb, get_or, length, set}
use Rattle.model.specs.declared.block.Block.{Block}
use Rattle.model.specs.declared.command.Listed.{Listed}
use Rattle.rules.specs.Drive.{held_by}
use Rattle.rules.specs.LogPages.{is_listed, list_mark, wear_index}
use Rattle.scan.specs.Marks.{mark}
use Rattle.scan.specs.declared.scan.Subject.{Subject}
use Rattle.sorting.specs.Order.{in_order}

-- A block of the subject's domain that is listed.
abbrev pub is_listed_for : Subject → Listed → Block → Bool
is_listed_for s which b = held_by s.domain b && is_listed which b

-- Its serial, number, P/E index and byte in one number: keys are ordered as the serials are, and the last three are below 256.
abbrev pub list_key : Subject → Listed → ℕ → Block → ℕ
list_key s which n b = b.serial * 16777216 + n * 65536 + wear_index s.rated b.erases * 256 + list_mark which b

abbrev pub number_in : ℕ → ℕ
number_in key = key / 65536 % 256

abbrev pub index_in : ℕ → ℕ
index_in key = key / 256 % 256

abbrev pub byte_in : ℕ → ℕ
byte_in key = key % 256

-- ---- The keys

-- With block n, if it is listed, behind the keys that there are, of which there are at most 256.
unfoldable pub noted_with : Subject → Listed → ℕ → Block → List ℕ → List ℕ
noted_with s which n b keys =
    cond (is_listed_for s which b && ltb (length keys) 256) (keys ++ list_key s which n b ∷ []) keys

-- Every block of bs from number n on.
unfoldable pub noted_from : Subject → Listed → ℕ → List Block → List ℕ → List ℕ
noted_from s which n [] keys = keys
noted_from s which n (b ∷ bs) keys = noted_from s which (n + 1) bs (noted_with s which n b keys)

-- ---- The keys in order

-- What a key tells, at place i of the marks; and the first i of a row of keys.
abbrev pub told_with : ℕ → ℕ → List ℕ → List ℕ
told_with i key marks = set (set (set marks (32 + i) (number_in key)) (288 + i) (byte_in key)) (544 + i) (index_in key)

unfoldable pub told_to : List ℕ → ℕ → List ℕ → List ℕ
told_to keys zero marks = marks
told_to keys (suc i) marks = told_with i (get_or keys i 0) (told_to keys i marks)

-- By rising serial.
abbrev pub order_told : List ℕ → List ℕ → List ℕ
order_told keys marks = told_to (in_order keys) (length keys) marks

-- What the marks then tell of the listed block at place i.
abbrev pub number_told : List ℕ → ℕ → ℕ
number_told marks i = mark marks (32 + i)

abbrev pub byte_told : List ℕ → ℕ → ℕ
byte_told marks i = mark marks (288 + i)

abbrev pub index_told : List ℕ → ℕ → ℕ
index_told marks i = mark marks (544 + i)

-- ---- A list of blocks, from number n on, in the marks.
unfoldable pub listed_from : Subject → Listed → ℕ → List Block → List ℕ → List ℕ
listed_from s which n bs marks = order_told (noted_from s which n bs []) marks
