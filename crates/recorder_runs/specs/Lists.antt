-- Two lists of calls with a recorder as domain 1, named A here. A creates its domain, appends 260 samples and reads the latest. Its quota is 2
-- blocks of 128 ADUs, so the last 4 samples need a block that is freed. In one list the neighbours leave A alone; in the other they
-- fill the drive.
use Rattle.std.specs.Prelude.{ℕ, ◌+◌, List, [], ◌∷◌, ◌++◌, map}
use Rattle.std.proofs.Math.Option.{some}
use Rattle.geometry.specs.Shape.{adus, planes}
use Rattle.model.specs.declared.command.Command.TheVariants.{Create, Delete, Erase, Pulse, WriteByPlacement}
use Rattle.rules.specs.Blocks.{any_block}
use Rattle.rules.specs.Calls.{Asked, Call, append, latest, lending_for}
use Rattle.rules.specs.Counting.{row_to}
use Rattle.rules.specs.Example.{pulsing, unnamed}
use Rattle.rules.specs.Observation as observed
use Rattle.rules.specs.Observation.{Input}
use Rattle.rules.specs.ProvedTable.{call, calls}
use Rattle.rules.specs.WrongTurns.{guest}

-- ---- A's calls

-- The recorder is lent a store and words.
abbrev pub lending_words : Asked → Call
lending_words x = lending_for x 1024 256 0

-- A reserves 2 blocks, and has one placement ID.
abbrev pub creates : Call
creates = call (Create 1 (planes 256) (planes 0) 1 0)

-- first, first + 1, ..: so many samples.
abbrev pub numbers_from : ℕ → ℕ → List ℕ
numbers_from first n = row_to (λ i. first + i) n

abbrev pub appends : ℕ → ℕ → List Call
appends first n = map (λ (sample : ℕ). lending_words (append 1 sample)) (numbers_from first n)

-- The last 128, and one more than is kept (15).
abbrev pub reads : List Call
reads = lending_words (latest 1 (adus 128)) ∷ lending_words (latest 1 (adus 133)) ∷ []

-- ---- With no neighbours

abbrev pub quiet_rest : List Call
quiet_rest = appends 1 100 ++ (call (Pulse 20) ∷ []) ++ appends 101 160 ++ reads

abbrev pub quiet : List Call
quiet = creates ∷ quiet_rest

-- ---- With many

-- Domain 2 takes 4 blocks before A comes. It has the recorder's shape and appends a sample itself, so that its oldest block gives way, and
-- reads it.
abbrev pub comes_first : List Call
comes_first =
    call (Create 2 (planes 512) (planes 0) 1 0)
    ∷ call (WriteByPlacement 2 0 0 (adus 256))
    ∷ call (WriteByPlacement 2 0 0 (adus 256))
    ∷ lending_words (append 2 7)
    ∷ lending_words (latest 2 (adus 1))
    ∷ []

-- A guest takes the two blocks that nobody reserved, and no third (14); it cannot record (6).
abbrev pub fills_up : List Call
fills_up =
    calls (guest 3 ∷ Erase 3 any_block ∷ Erase 3 any_block ∷ Erase 3 any_block ∷ []) ++ (lending_words (append 3 7) ∷ [])

-- Domain 2 deletes itself, and the guest takes two of the blocks that it leaves.
abbrev pub gives_way : List Call
gives_way = calls (Delete 2 ∷ WriteByPlacement 3 0 0 (adus 256) ∷ [])

abbrev pub busy_first : List Call
busy_first = comes_first ++ (creates ∷ [])

abbrev pub busy_rest : List Call
busy_rest = appends 1 100 ++ fills_up ++ (call (Pulse 20) ∷ []) ++ appends 101 150 ++ gives_way ++ appends 251 10 ++ reads

abbrev pub busy : List Call
busy = busy_first ++ busy_rest

-- ---- A's inputs, the same in both

abbrev pub input : observed.Request → Input
input request = record { request = request; names = unnamed; lent = some (lending_words (append 1 0)).lent }

abbrev pub append_inputs : ℕ → ℕ → List Input
append_inputs first n = map (λ (sample : ℕ). input (observed.Request.append sample)) (numbers_from first n)

abbrev pub same_inputs : List Input
same_inputs =
    (record { request = observed.Request.create (planes 256) (planes 0) 1 0; names = unnamed; lent = some creates.lent } ∷ [])
    ++ append_inputs 1 100
    ++ (pulsing 20 ∷ [])
    ++ append_inputs 101 160
    ++ (input (observed.Request.latest (adus 128)) ∷ input (observed.Request.latest (adus 133)) ∷ [])
