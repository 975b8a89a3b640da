-- Document 01, "Proved table": P1 to P12 as rows of facts, each with what the rules give and what 01 says.
use Rattle.std.specs.Prelude.{ℕ, ◌+◌, ◌-◌, ◌*◌, ◌^◌, Bool, true, false, ◌&&◌, List, [], ◌∷◌, ◌++◌, map, eqb, get_or, length, replicate}
use Rattle.geometry.specs.Address.{offset_bits, offset_of}
use Rattle.geometry.specs.Answers.{config_of, create_answer, elements_given, parse_answer}
use Rattle.geometry.specs.Questions.{Outcome}
use Rattle.geometry.specs.Shape.{adus, planes, planes_per_block}
use Rattle.geometry.specs.declared.shape.Config.{Config}
use Rattle.model.specs.declared.command.Command.{Command}
use Rattle.model.specs.declared.command.Command.TheVariants.{Create, Erase, Pulse, WriteByPlacement}
use Rattle.rules.specs.Blocks.{any_block}
use Rattle.rules.specs.Calls.{Call, lending}
use Rattle.rules.specs.Counting.{numbers_to}
use Rattle.rules.specs.Drive.{Drive, block_at, closed_of, domain_at, held_by, open_of, size}
use Rattle.rules.specs.Effects.{words_filled}
use Rattle.rules.specs.LogPages.{wear_index}
use Rattle.rules.specs.Runs.{answers, begun, reference}

infix 4 ◌is◌ ◌are◌
-- What the rules give, and what 01 says.
pub record Fact : Type 0 where
  pub computed : List ℕ
  pub said : List ℕ

abbrev pub ◌are◌ : List ℕ → List ℕ → Fact
computed are said = record { computed = computed; said = said }

abbrev pub ◌is◌ : ℕ → ℕ → Fact
computed is said = (computed ∷ []) are (said ∷ [])

abbrev pub Row : Type 0
Row = List Fact

-- Drive small, a store for it, and calls that lend it with enough words and bytes.
abbrev pub small : Config
small = config_of 128 1 1 1 8 1000 60

abbrev pub call : Command → Call
call c = lending c 1024 256 256

abbrev pub calls : List Command → List Call
calls cs = map call cs

abbrev pub fresh_store : List ℕ
fresh_store = replicate 1024 0

-- What a list of commands leaves, the number that each gets, and the words that one command fills after it.
abbrev pub after : List Command → Drive
after cs = reference small fresh_store (calls cs)

abbrev pub numbers_got : List Command → List ℕ
numbers_got cs = map (λ (o : Outcome). o.number) (answers (calls cs) (begun small fresh_store))

abbrev pub words_of : List Command → Command → List ℕ
words_of cs c = words_filled (after cs) (call c)

-- The blocks of domain 1, and those of them that are open and Closed.
abbrev pub held_in : Drive → List ℕ
held_in v = numbers_to (λ n. held_by 1 (block_at v.table n)) (size v.table)

abbrev pub open_in : Drive → List ℕ
open_in v = numbers_to (λ n. open_of 1 (block_at v.table n)) (size v.table)

abbrev pub closed_in : Drive → List ℕ
closed_in v = numbers_to (λ n. closed_of 1 (block_at v.table n)) (size v.table)

abbrev pub left_of : Drive → ℕ → ℕ
left_of v n = (block_at v.table n).left

abbrev pub written_of : Drive → ℕ → ℕ
written_of v n = (block_at v.table n).written.0

-- Domain 1 has guarantee 300, quota 200, 2 placement IDs, open limit 1. P4 to P7 each start with it alone, and so do P8
-- and P9 here.
abbrev pub domain1 : Command
domain1 = Create 1 (planes 300) (planes 200) 2 1

-- Domain 1 writes so many ADUs by its placement 0, from a user address on.
abbrev pub write : ℕ → Command
write count = WriteByPlacement 1 0 0 (adus count)

abbrev pub write_from : ℕ → ℕ → Command
write_from start count = WriteByPlacement 1 0 start (adus count)

-- P1. It reserves 3 blocks, quota 384 planes, open limit 4.
abbrev pub p1 : Row
p1 =
    let r = domain_at (after (domain1 ∷ [])).table 1 in
    (numbers_got (domain1 ∷ []) are 0 ∷ [])
    ∷ (r.reserved is 3)
    ∷ (r.quota * (planes_per_block small).0 is 384)
    ∷ (r.limit is 4)
    ∷ []

-- P2, after P1. Domain 2 with guarantee 640, quota 0 is accepted; domain 3 with guarantee 1 then gets 14.
abbrev pub up_to_p2 : List Command
up_to_p2 = domain1 ∷ Create 2 (planes 640) (planes 0) 1 0 ∷ Create 3 (planes 1) (planes 0) 1 0 ∷ []

abbrev pub p2 : Row
p2 = (numbers_got up_to_p2 are 0 ∷ 0 ∷ 14 ∷ []) ∷ []

-- P3, after P2. Domain 3 with guarantee 0, quota 1,024: created; its Erase gets 14.
abbrev pub p3 : Row
p3 =
    let cs = up_to_p2 ++ (Create 3 (planes 0) (planes 1024) 1 0 ∷ Erase 3 any_block ∷ []) in
    (numbers_got cs are 0 ∷ 0 ∷ 14 ∷ 0 ∷ 14 ∷ []) ∷ []

-- P4. Write 256 fresh: blocks 0 and 1, both Closed; the 129th address is 0001000000000080h.
abbrev pub p4 : Row
p4 =
    let cs = domain1 ∷ write 256 ∷ [] in
    (numbers_got cs are 0 ∷ 0 ∷ [])
    ∷ (held_in (after cs) are 0 ∷ 1 ∷ [])
    ∷ (closed_in (after cs) are 0 ∷ 1 ∷ [])
    ∷ (length (words_of (domain1 ∷ []) (write 256)) is 256)
    ∷ (get_or (words_of (domain1 ∷ []) (write 256)) 128 0 is 2 ^ 48 + 128)
    ∷ []

-- P5. Write 100, then 28: Closed, none open. Then 1: block 1.
abbrev pub p5 : Row
p5 =
    let two = domain1 ∷ write 100 ∷ write 28 ∷ [] in
    let three = two ++ (write 1 ∷ []) in
    (numbers_got three are 0 ∷ 0 ∷ 0 ∷ 0 ∷ [])
    ∷ (closed_in (after two) are 0 ∷ [])
    ∷ (open_in (after two) are [])
    ∷ (open_in (after three) are 1 ∷ [])
    ∷ (words_of two (write 1) are (2 ^ 48 + 128) ∷ [])
    ∷ []

-- P6. Write 100, then 30: the second block has 2.
abbrev pub p6 : Row
p6 =
    let cs = domain1 ∷ write 100 ∷ write 30 ∷ [] in
    (numbers_got cs are 0 ∷ 0 ∷ 0 ∷ [])
    ∷ (closed_in (after cs) are 0 ∷ [])
    ∷ (open_in (after cs) are 1 ∷ [])
    ∷ (written_of (after cs) 1 is 2)
    ∷ []

-- P7. Write 1; Pulse 59 leaves 1 second; write 1; Pulse 1 closes.
abbrev pub p7 : Row
p7 =
    let one = domain1 ∷ write 1 ∷ [] in
    let two = one ++ (Pulse 59 ∷ []) in
    let three = two ++ (write 1 ∷ []) in
    let four = three ++ (Pulse 1 ∷ []) in
    (numbers_got four are 0 ∷ 0 ∷ 0 ∷ 0 ∷ 0 ∷ [])
    ∷ (left_of (after one) 0 is 60)
    ∷ (left_of (after two) 0 is 1)
    ∷ (left_of (after three) 0 is 1)
    ∷ (open_in (after three) are 0 ∷ [])
    ∷ (written_of (after three) 0 is 2)
    ∷ (left_of (after four) 0 is 0)
    ∷ (open_in (after four) are [])
    ∷ (closed_in (after four) are 0 ∷ [])
    ∷ []

-- P8. LBA 2^40 − 1, meta 0: one ADU passes, two get 8.
abbrev pub p8 : Row
p8 =
    let start = 2 ^ 40 - 1 in
    (numbers_got (domain1 ∷ write_from start 1 ∷ []) are 0 ∷ 0 ∷ [])
    ∷ (numbers_got (domain1 ∷ write_from start 2 ∷ []) are 0 ∷ 8 ∷ [])
    ∷ []

-- P9. Meta FFFFFFh, LBA 2^40 − 2: one passes, two get 8.
abbrev pub p9 : Row
p9 =
    let start = (2 ^ 24 - 1) * 2 ^ 40 + (2 ^ 40 - 2) in
    (numbers_got (domain1 ∷ write_from start 1 ∷ []) are 0 ∷ 0 ∷ [])
    ∷ (numbers_got (domain1 ∷ write_from start 2 ∷ []) are 0 ∷ 8 ∷ [])
    ∷ []

-- P10. P/E 7 gives index 1; 1,277 and 1,300 give 255.
abbrev pub p10 : Row
p10 =
    (wear_index small.rated 7 is 1)
    ∷ (wear_index small.rated 1277 is 255)
    ∷ (wear_index small.rated 1300 is 255)
    ∷ []

-- P11. G 128, S 8, D 2, L 2, K 4: page 3, die 1, plane 0, ADU 2 is offset 58; domain 5, block 3: 000500000000183Ah.
abbrev pub p11 : Row
p11 =
    let c = config_of 128 2 2 4 8 1000 60 in
    let e = elements_given 3 1 0 2 in
    ((offset_of c e).0 is 58)
    ∷ ((create_answer c 5 3 e).number is 0)
    ∷ ((create_answer c 5 3 e).values are (5 * 2 ^ 48 + 6202) ∷ [])
    ∷ []

-- P12. G 128, S 8, D 3, L 2, K 1: page 1, die 2, plane 1 is offset 11; b is 10; a word with offset 768 gets 6.
abbrev pub p12 : Row
p12 =
    let c = config_of 128 3 2 1 8 1000 60 in
    ((offset_of c (elements_given 1 2 1 0)).0 is 11)
    ∷ (offset_bits c is 10)
    ∷ ((parse_answer c (2 ^ 48 + 768)).number is 6)
    ∷ []

abbrev pub proved_table : List Row
proved_table = p1 ∷ p2 ∷ p3 ∷ p4 ∷ p5 ∷ p6 ∷ p7 ∷ p8 ∷ p9 ∷ p10 ∷ p11 ∷ p12 ∷ []

-- In every row the rules give what 01 says.
unfoldable pub same_numbers : List ℕ → List ℕ → Bool
same_numbers [] [] = true
same_numbers [] (y ∷ ys) = false
same_numbers (x ∷ xs) [] = false
same_numbers (x ∷ xs) (y ∷ ys) = eqb x y && same_numbers xs ys

unfoldable pub agrees : Row → Bool
agrees [] = true
agrees (f ∷ facts) = same_numbers f.computed f.said && agrees facts

unfoldable pub all_agree : List Row → Bool
all_agree [] = true
all_agree (r ∷ rows) = agrees r && all_agree rows
