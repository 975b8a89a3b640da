-- An example for Noninterference.antt: two lists of calls with the same requests of domain 1, named A here, and with neighbours
-- that differ in all they do. In one list they leave A nearly alone; in the other they fill the drive, are refused, delete
-- themselves and come back.
use Rattle.std.specs.Prelude.{ℕ, ◌*◌, ◌^◌, true, List, [], ◌∷◌, ◌++◌, map, ◌≡◌, replicate}
use Rattle.std.proofs.Math.Option.{none, some}
use Rattle.geometry.specs.Address.{word_of}
use Rattle.geometry.specs.Questions.{Outcome}
use Rattle.geometry.specs.Shape.{adus, planes}
use Rattle.model.specs.declared.command.Command.{Command}
use Rattle.model.specs.declared.command.Command.TheVariants.{ChangeCapacity, Close, Create, Delete, Erase, Free, List as Listing, Page, Pulse, Read}
use Rattle.model.specs.declared.command.Command.TheVariants.{WriteByBlock, WriteByPlacement}
use Rattle.model.specs.declared.command.Listed.TheVariants as listed
use Rattle.rules.specs.Blocks.{any_block}
use Rattle.rules.specs.Calls.{Call, lending}
use Rattle.rules.specs.Drive.{Drive}
use Rattle.rules.specs.LogPages.{listed_blocks}
use Rattle.rules.specs.Noninterference.{fully_reserved, inputs}
use Rattle.rules.specs.Observation.{Input, Name, Naming, Request, serial_at}
use Rattle.rules.specs.ProvedTable.{call, calls, domain1, fresh_store, held_in, small}
use Rattle.rules.specs.Runs.{answers, begun, run}
use Rattle.rules.specs.WrongTurns.{guest}

-- ---- A's requests

-- With a store that is one entry short, and with an output for 27 words.
abbrev pub with_short_store : Command → Call
with_short_store c = lending c 1023 256 256

abbrev pub with_short_output : Command → Call
with_short_output c = lending c 1024 27 256

-- A Delete that comes too early (5); A reserves 3 blocks and may hold no more; an Erase, and one with a short store (3).
abbrev pub begins : List Call
begins =
    call (Delete 1)
    ∷ call domain1
    ∷ call (Erase 1 any_block)
    ∷ with_short_store (Erase 1 any_block)
    ∷ []

-- Writes into the erased block, which is block n1 in this run, and by placement into another, n2.
abbrev pub writes : ℕ → List Call
writes n1 = calls (WriteByBlock 1 n1 5 (adus 10) ∷ WriteByPlacement 1 0 100 (adus 100) ∷ [])

-- A write that fills n2 and goes on in a third block, n3; an Erase that passes the quota (13); a pulse of 59 seconds, with which
-- the two lists lend buffers of other lengths.
abbrev pub writes_on : Call → List Call
writes_on pulse = calls (WriteByPlacement 1 0 200 (adus 30) ∷ Erase 1 any_block ∷ []) ++ (pulse ∷ [])

-- The 28 ADUs of that write in n2 are read, and once more with a short output (7); a Change Capacity that alters nothing, and
-- one to the whole drive (14); Close of n1, and of a block that A does not hold (9); Super Block Information and the open list.
abbrev pub looks : ℕ → ℕ → ℕ → List Call
looks n1 n2 foreign =
    let read = Read 1 (word_of small (record { domain = 1; block = n2; offset = adus 100 })) (adus 28) 200 in
    call read
    ∷ with_short_output read
    ∷ call (ChangeCapacity 1 (planes 0) (planes 0))
    ∷ call (ChangeCapacity 1 (planes 1024) (planes 0))
    ∷ call (Close 1 n1)
    ∷ call (Close 1 foreign)
    ∷ call (Page 1 n1)
    ∷ call (Listing 1 listed.Open)
    ∷ []

-- The last second of n3 passes and all three are Closed; n2 is erased again and filled at once, n3 is freed.
abbrev pub renews : ℕ → ℕ → List Call
renews n2 n3 =
    call (Pulse 1)
    ∷ call (Listing 1 listed.Closed)
    ∷ call (Erase 1 n2)
    ∷ call (WriteByBlock 1 n2 (3 * 2 ^ 40) (adus 128))
    ∷ call (Free 1 n3)
    ∷ []

-- An Erase in place of n3, and a Create of the domain that is there already (5).
abbrev pub ends : List Call
ends = calls (Erase 1 any_block ∷ domain1 ∷ [])

-- ---- With few neighbours

-- Domain 2 reserves a block, without which A could reserve the whole drive.
abbrev pub quiet_half : List Call
quiet_half = call (Create 2 (planes 1) (planes 0) 1 0) ∷ begins ++ writes 0 ++ writes_on (call (Pulse 59))

abbrev pub quiet : List Call
quiet = quiet_half ++ looks 0 1 7 ++ renews 1 2 ++ ends

-- ---- With many

-- Domain 2 takes 5 blocks before A comes.
abbrev pub comes_first : List Call
comes_first =
    call (Create 2 (planes 0) (planes 640) 1 256)
    ∷ call (WriteByPlacement 2 0 0 (adus 256))
    ∷ call (WriteByPlacement 2 0 0 (adus 256))
    ∷ call (Erase 2 any_block)
    ∷ []

-- Domain 3 gets no guarantee (14) and, as a guest, no block (14), and domain 2 gets no sixth one (13). Domain 2 deletes itself,
-- which leaves its blocks Free with an erase more than the others, and the guest takes one of those others.
abbrev pub gives_way : List Call
gives_way =
    call (Create 3 (planes 1) (planes 1024) 1 256)
    ∷ call (guest 3)
    ∷ call (Erase 3 any_block)
    ∷ call (WriteByPlacement 2 0 0 (adus 1))
    ∷ call (Delete 2)
    ∷ call (Erase 3 any_block)
    ∷ []

-- The guest takes another, and would free one of A's (9).
abbrev pub reaches_out : List Call
reaches_out = calls (WriteByPlacement 3 0 0 (adus 1) ∷ Free 3 5 ∷ [])

-- Domain 2 is back for two blocks and no third (13), the guest takes the last one, and then its write gets none (14).
abbrev pub fills_up : List Call
fills_up =
    call (Create 2 (planes 0) (planes 256) 1 256)
    ∷ call (WriteByPlacement 2 0 0 (adus 256))
    ∷ call (Erase 2 any_block)
    ∷ call (Erase 3 any_block)
    ∷ call (WriteByPlacement 3 0 0 (adus 128))
    ∷ []

-- Domain 3 deletes itself and is back with a guarantee.
abbrev pub comes_back : List Call
comes_back = calls (Delete 3 ∷ Create 3 (planes 128) (planes 0) 1 256 ∷ Erase 3 any_block ∷ [])

abbrev pub busy_half : List Call
busy_half = comes_first ++ begins ++ gives_way ++ writes 5 ++ reaches_out ++ writes_on (lending (Pulse 59) 0 1 2) ++ fills_up

abbrev pub busy : List Call
busy = busy_half ++ looks 5 7 2 ++ renews 7 1 ++ comes_back ++ ends

-- ---- What is the same and what is not

-- Drive small, with a store of zeros and with one of sevens.
abbrev pub zeros : Drive
zeros = begun small fresh_store

abbrev pub sevens : Drive
sevens = begun small (replicate 1024 7)

-- A's inputs, the same in both lists.
abbrev pub input : Request → Naming → Input
input request names = record { request = request; names = names; lent = some (call (Delete 1)).lent }

abbrev pub named : Name → Naming
named name = Naming.names_block name

abbrev pub unnamed : Naming
unnamed = Naming.names_nothing

abbrev pub any : Naming
any = named (Name.no_block 4294967295)

abbrev pub second : Naming
second = Naming.names_address (record { domain = 1; block = Name.held 2; offset = adus 100 })

abbrev pub pulsing : ℕ → Input
pulsing seconds = record { request = Request.pulse seconds; names = unnamed; lent = none }

abbrev pub same_inputs : List Input
same_inputs =
    input Request.delete unnamed
    ∷ input (Request.create (planes 300) (planes 200) 2 1) unnamed
    ∷ input Request.erase any
    ∷ record { request = Request.erase; names = any; lent = some (with_short_store (Delete 1)).lent }
    ∷ input (Request.write_by_block 5 (adus 10)) (named (Name.held 1))
    ∷ input (Request.write_by_placement 0 100 (adus 100)) unnamed
    ∷ input (Request.write_by_placement 0 200 (adus 30)) unnamed
    ∷ input Request.erase any
    ∷ pulsing 59
    ∷ input (Request.read (adus 28) 200) second
    ∷ record { request = Request.read (adus 28) 200; names = second; lent = some (with_short_output (Delete 1)).lent }
    ∷ input (Request.change_capacity (planes 0) (planes 0)) unnamed
    ∷ input (Request.change_capacity (planes 1024) (planes 0)) unnamed
    ∷ input Request.close (named (Name.held 1))
    ∷ input Request.close (named Name.other)
    ∷ input Request.page (named (Name.held 1))
    ∷ input (Request.list listed.Open) unnamed
    ∷ pulsing 1
    ∷ input (Request.list listed.Closed) unnamed
    ∷ input Request.erase (named (Name.held 2))
    ∷ input (Request.write_by_block (3 * 2 ^ 40) (adus 128)) (named (Name.held 4))
    ∷ input Request.free (named (Name.held 3))
    ∷ input Request.erase any
    ∷ input (Request.create (planes 300) (planes 200) 2 1) unnamed
    ∷ []

-- The number that each call gets.
abbrev pub numbers_told : List Call → Drive → List ℕ
numbers_told ks v = map (λ (o : Outcome). o.number) (answers ks v)

-- What document 01 says they are, part by part as the lists are put together.
abbrev pub quiet_numbers : List ℕ
quiet_numbers =
    (0 ∷ [])
    ++ (5 ∷ 0 ∷ 0 ∷ 3 ∷ [])
    ++ (0 ∷ 0 ∷ [])
    ++ (0 ∷ 13 ∷ 0 ∷ [])
    ++ (0 ∷ 7 ∷ 0 ∷ 14 ∷ 0 ∷ 9 ∷ 0 ∷ 0 ∷ [])
    ++ (0 ∷ 0 ∷ 0 ∷ 0 ∷ 0 ∷ [])
    ++ (0 ∷ 5 ∷ [])

abbrev pub busy_numbers : List ℕ
busy_numbers =
    -- domain 2 takes 5 blocks
    (0 ∷ 0 ∷ 0 ∷ 0 ∷ [])
    ++ (5 ∷ 0 ∷ 0 ∷ 3 ∷ [])
    -- no guarantee, a guest without a block, no sixth block
    ++ (14 ∷ 0 ∷ 14 ∷ 13 ∷ 0 ∷ 0 ∷ [])
    ++ (0 ∷ 0 ∷ [])
    -- not the guest's block
    ++ (0 ∷ 9 ∷ [])
    ++ (0 ∷ 13 ∷ 0 ∷ [])
    -- no third block, and none at all
    ++ (0 ∷ 0 ∷ 13 ∷ 0 ∷ 14 ∷ [])
    ++ (0 ∷ 7 ∷ 0 ∷ 14 ∷ 0 ∷ 9 ∷ 0 ∷ 0 ∷ [])
    ++ (0 ∷ 0 ∷ 0 ∷ 0 ∷ 0 ∷ [])
    -- gone and back
    ++ (0 ∷ 0 ∷ 0 ∷ [])
    ++ (0 ∷ 5 ∷ [])

-- A's blocks, ascending, each by its number and its serial.
abbrev pub blocks_of : Drive → List (ℕ × ℕ)
blocks_of v = map (λ (n : ℕ). (n, serial_at v n)) (held_in v)

-- Both lists are as noninterference asks, and A's inputs in them are the same; each call gets its number, so the neighbours are
-- refused where the drive is full; and under the same serials A holds blocks of other numbers, and in another order, halfway and in the
-- end. Where A asks for its Closed blocks they come by rising serial in both.
pub record NotEmpty : Type 0 where
  pub quiet_reserved : fully_reserved 1 quiet zeros ≡ true
  pub busy_reserved : fully_reserved 1 busy sevens ≡ true
  pub quiet_inputs : inputs 1 quiet zeros ≡ same_inputs
  pub busy_inputs : inputs 1 busy sevens ≡ same_inputs
  pub quiet_numbers_lem : numbers_told quiet zeros ≡ quiet_numbers
  pub busy_numbers_lem : numbers_told busy sevens ≡ busy_numbers
  pub quiet_halfway : blocks_of (run quiet_half zeros) ≡ (0, 1) ∷ (1, 2) ∷ (2, 3) ∷ []
  pub busy_halfway : blocks_of (run busy_half sevens) ≡ (1, 3) ∷ (5, 1) ∷ (7, 2) ∷ []
  pub quiet_listed : listed_blocks (run (quiet_half ++ looks 0 1 7 ++ (call (Pulse 1) ∷ [])) zeros).table 1 listed.Closed ≡ 0 ∷ 1 ∷ 2 ∷ []
  pub busy_listed : listed_blocks (run (busy_half ++ looks 5 7 2 ++ (call (Pulse 1) ∷ [])) sevens).table 1 listed.Closed ≡ 5 ∷ 7 ∷ 1 ∷ []
  pub quiet_end : blocks_of (run quiet zeros) ≡ (0, 1) ∷ (1, 4) ∷ (3, 5) ∷ []
  pub busy_end : blocks_of (run busy sevens) ≡ (0, 5) ∷ (5, 1) ∷ (7, 4) ∷ []
