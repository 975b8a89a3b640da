-- Document 01, "Where a builder goes astray": a row for each line that the table of P1 to P12 does not show already,
-- and one each for the order of the lists and the P/E index (02, Wishes 2 and 3).
use Rattle.std.specs.Prelude.{ℕ, List, [], ◌∷◌, ◌++◌, drop, take}
use Rattle.geometry.specs.Answers.{config_of}
use Rattle.geometry.specs.Questions.{Outcome}
use Rattle.geometry.specs.Shape.{adus, planes}
use Rattle.model.specs.declared.command.Command.{Command}
use Rattle.model.specs.declared.command.Command.TheVariants.{Close, Create, Erase, Free, List as Listing, Page, Pulse, WriteByBlock}
use Rattle.model.specs.declared.command.Listed.TheVariants as listed
use Rattle.rules.specs.Blocks.{any_block}
use Rattle.rules.specs.Counting.{count_to}
use Rattle.rules.specs.Drive.{block_at, is_free, size}
use Rattle.rules.specs.Effects.{bytes_filled}
use Rattle.rules.specs.LogPages.{list, listed_blocks, wear_index}
use Rattle.rules.specs.ProvedTable.{Row, ◌are◌, ◌is◌, after, call, calls, domain1, fresh_store, left_of, numbers_got, small}
use Rattle.rules.specs.Runs.{answers, begun, reference}

-- The values that the commands of a list are answered, one after the other.
unfoldable pub values_of : List Outcome → List ℕ
values_of [] = []
values_of (o ∷ os) = o.values ++ values_of os

abbrev pub values_got : List Command → List ℕ
values_got cs = values_of (answers (calls cs) (begun small fresh_store))

-- A domain without a guarantee that may take every block.
abbrev pub guest : ℕ → Command
guest d = Create d (planes 0) (planes 1024) 1 256

-- Seconds left stay on a write and a failed Erase, and a Close takes them away; a second Close changes nothing.
abbrev pub kept_seconds : Row
kept_seconds =
    let pulse = domain1 ∷ Erase 1 any_block ∷ Pulse 10 ∷ [] in
    let write = pulse ++ (WriteByBlock 1 0 0 (adus 5) ∷ []) in
    let fail = write ++ (Erase 1 0 ∷ []) in
    let close = fail ++ (Close 1 0 ∷ []) in
    let again = close ++ (Close 1 0 ∷ []) in
    (numbers_got again are 0 ∷ 0 ∷ 0 ∷ 0 ∷ 10 ∷ 0 ∷ 0 ∷ [])
    ∷ (left_of (after pulse) 0 is 50)
    ∷ (left_of (after write) 0 is 50)
    ∷ (left_of (after fail) 0 is 50)
    ∷ (left_of (after close) 0 is 0)
    ∷ (left_of (after again) 0 is 0)
    ∷ []

-- Each offset element has no bits of its own: P12.

-- A guest takes the five blocks that nobody reserved and no sixth, though three are Free (P3 is the same with none to take).
abbrev pub reserved_stay : Row
reserved_stay =
    let erase = Erase 3 any_block in
    let cs = domain1 ∷ guest 3 ∷ erase ∷ erase ∷ erase ∷ erase ∷ erase ∷ erase ∷ [] in
    let t = (after cs).table in
    (numbers_got cs are 0 ∷ 0 ∷ 0 ∷ 0 ∷ 0 ∷ 0 ∷ 0 ∷ 14 ∷ [])
    ∷ (count_to (λ n. is_free (block_at t n)) (size t) is 3)
    ∷ []

-- A freed block is given out again, once those with fewer erases have been.
abbrev pub erase_and_free : ℕ → List Command
erase_and_free n = Erase 1 any_block ∷ Free 1 n ∷ []

abbrev pub freed_again : Row
freed_again =
    let half = erase_and_free 0 ++ erase_and_free 1 ++ erase_and_free 2 ++ erase_and_free 3 in
    let other = erase_and_free 4 ++ erase_and_free 5 ++ erase_and_free 6 ++ erase_and_free 7 in
    let got = values_got (domain1 ∷ half ++ other ++ (Erase 1 any_block ∷ [])) in
    (take 8 got are 0 ∷ 0 ∷ 1 ∷ 1 ∷ 2 ∷ 2 ∷ 3 ∷ 3 ∷ [])
    ∷ (drop 8 got are 4 ∷ 4 ∷ 5 ∷ 5 ∷ 6 ∷ 6 ∷ 7 ∷ 7 ∷ 0 ∷ [])
    ∷ []

-- No spare block is opened when the last ADU exactly fills one: P4 and P5.

-- Each domain counts its own serials.
abbrev pub own_serials : Row
own_serials =
    let erase1 = Erase 1 any_block in
    let erase2 = Erase 2 any_block in
    let t = (after (domain1 ∷ guest 2 ∷ erase1 ∷ erase1 ∷ erase2 ∷ erase1 ∷ [])).table in
    ((block_at t 0).serial is 1)
    ∷ ((block_at t 1).serial is 2)
    ∷ ((block_at t 2).serial is 1)
    ∷ ((block_at t 3).serial is 3)
    ∷ []

-- 02, Wish 2: lists come by rising serial, whatever the block numbers; a block that is erased again comes last.
abbrev pub lists_by_serial : Row
lists_by_serial =
    let four = guest 1 ∷ Erase 1 3 ∷ Erase 1 1 ∷ Erase 1 7 ∷ Erase 1 0 ∷ [] in
    let closes = four ++ (Close 1 7 ∷ Close 1 1 ∷ []) in
    let again = four ++ (Close 1 3 ∷ Erase 1 3 ∷ []) in
    (listed_blocks (after four).table 1 listed.Open are 3 ∷ 1 ∷ 7 ∷ 0 ∷ [])
    ∷ (listed_blocks (after closes).table 1 listed.Open are 3 ∷ 0 ∷ [])
    ∷ (listed_blocks (after again).table 1 listed.Open are 1 ∷ 7 ∷ 0 ∷ 3 ∷ [])
    ∷ (take 8 (list (after closes).table 1 listed.Closed) are 1 ∷ 0 ∷ 0 ∷ 0 ∷ 0 ∷ 1 ∷ 0 ∷ 0 ∷ [])
    ∷ (drop 8 (list (after closes).table 1 listed.Closed) are 7 ∷ 0 ∷ 0 ∷ 0 ∷ 0 ∷ 1 ∷ 0 ∷ 0 ∷ 255 ∷ 255 ∷ 255 ∷ 255 ∷ 0 ∷ 0 ∷ 0 ∷ 0 ∷ [])
    ∷ []

-- 02, Wish 3: the P/E index goes to the nearest whole, halves up. Of 400, count 3 is exactly 1.5 and has 2, where it
-- had 1; count 1 has 1, where it had 0. 3 of 401, just below 1.5, has 1, and 1 of 399, just above 0.5, has 1. 254.5
-- has 255, and so has 255.5, by the cap, and the largest count of the largest N. The Page and both lists show it: 2
-- for block 5 with 3 erases, open and then Closed.
abbrev pub rounded_index : Row
rounded_index =
    let rated400 = config_of 128 1 1 1 8 400 60 in
    let erases = guest 1 ∷ Erase 1 5 ∷ Close 1 5 ∷ Erase 1 5 ∷ Close 1 5 ∷ Erase 1 5 ∷ [] in
    let opened = reference rated400 fresh_store (calls erases) in
    let closed = reference rated400 fresh_store (calls (erases ++ (Close 1 5 ∷ []))) in
    (wear_index 400 3 is 2)
    ∷ (wear_index 400 1 is 1)
    ∷ (wear_index 400 0 is 0)
    ∷ (wear_index 401 3 is 1)
    ∷ (wear_index 399 1 is 1)
    ∷ (wear_index 400 508 is 254)
    ∷ (wear_index 400 509 is 255)
    ∷ (wear_index 400 511 is 255)
    ∷ (wear_index 1 1 is 200)
    ∷ (wear_index 65535 4294967295 is 255)
    ∷ ((block_at closed.table 5).erases is 3)
    ∷ (take 1 (drop 12 (bytes_filled opened (call (Page 1 5)))) are 2 ∷ [])
    ∷ (take 1 (drop 12 (bytes_filled closed (call (Page 1 5)))) are 2 ∷ [])
    ∷ (take 1 (drop 4 (bytes_filled opened (call (Listing 1 listed.Open)))) are 2 ∷ [])
    ∷ (take 1 (drop 4 (bytes_filled closed (call (Listing 1 listed.Closed)))) are 2 ∷ [])
    ∷ []

abbrev pub wrong_turns : List Row
wrong_turns = kept_seconds ∷ reserved_stay ∷ freed_again ∷ own_serials ∷ lists_by_serial ∷ rounded_index ∷ []
