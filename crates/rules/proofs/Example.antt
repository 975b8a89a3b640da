-- The example is as it says, and every list of calls has replies.
use mathlib.Core.Bool.{true}
use mathlib.Core.List.{List, [], ◌∷◌, ◌++◌}
use mathlib.Core.Path.{◌≡◌, refl, ap}
use Rattle.rules.specs.Calls.{Call}
use Rattle.rules.specs.Drive.{Drive}
use Rattle.rules.specs.Effects.{answer_to, bytes_filled, step, words_filled}
use Rattle.model.specs.declared.command.Command.TheVariants.{Pulse}
use Rattle.model.specs.declared.command.Listed.TheVariants as listed
use Rattle.rules.specs.Example.{NotEmpty, blocks_of, busy, busy_half, busy_numbers, looks, numbers_told, quiet, quiet_half, quiet_numbers, same_inputs, sevens, zeros}
use Rattle.rules.specs.Noninterference.{Exchange, Replied, calls, fully_reserved, inputs}
use Rattle.rules.specs.Observation.{Reply, request_of}
use Rattle.rules.specs.LogPages.{listed_blocks}
use Rattle.rules.specs.ProvedTable.{call}
use Rattle.rules.specs.Runs.{run}
use Rattle.rules.proofs.Machine.{machine}

-- ---- The two lists

quiet_reserved : fully_reserved 1 quiet zeros ≡ true
unfolding machine fully_reserved
quiet_reserved = refl

busy_reserved : fully_reserved 1 busy sevens ≡ true
unfolding machine fully_reserved
busy_reserved = refl

quiet_inputs : inputs 1 quiet zeros ≡ same_inputs
unfolding machine inputs request_of
quiet_inputs = refl

busy_inputs : inputs 1 busy sevens ≡ same_inputs
unfolding machine inputs request_of
busy_inputs = refl

quiet_halfway : blocks_of (run quiet_half zeros) ≡ (0, 1) ∷ (1, 2) ∷ (2, 3) ∷ []
unfolding machine
quiet_halfway = refl

busy_halfway : blocks_of (run busy_half sevens) ≡ (1, 3) ∷ (5, 1) ∷ (7, 2) ∷ []
unfolding machine
busy_halfway = refl

quiet_listed : listed_blocks (run (quiet_half ++ looks 0 1 7 ++ (call (Pulse 1) ∷ [])) zeros).table 1 listed.Closed ≡ 0 ∷ 1 ∷ 2 ∷ []
unfolding machine
quiet_listed = refl

busy_listed : listed_blocks (run (busy_half ++ looks 5 7 2 ++ (call (Pulse 1) ∷ [])) sevens).table 1 listed.Closed ≡ 5 ∷ 7 ∷ 1 ∷ []
unfolding machine
busy_listed = refl

quiet_end : blocks_of (run quiet zeros) ≡ (0, 1) ∷ (1, 4) ∷ (3, 5) ∷ []
unfolding machine
quiet_end = refl

busy_end : blocks_of (run busy sevens) ≡ (0, 5) ∷ (5, 1) ∷ (7, 4) ∷ []
unfolding machine
busy_end = refl

quiet_numbers_lem : numbers_told quiet zeros ≡ quiet_numbers
unfolding machine
quiet_numbers_lem = refl

busy_numbers_lem : numbers_told busy sevens ≡ busy_numbers
unfolding machine
busy_numbers_lem = refl

pub not_empty : NotEmpty
not_empty = record {
  quiet_reserved = quiet_reserved;
  busy_reserved = busy_reserved;
  quiet_inputs = quiet_inputs;
  busy_inputs = busy_inputs;
  quiet_halfway = quiet_halfway;
  busy_halfway = busy_halfway;
  quiet_listed = quiet_listed;
  busy_listed = busy_listed;
  quiet_end = quiet_end;
  busy_end = busy_end;
  quiet_numbers_lem = quiet_numbers_lem;
  busy_numbers_lem = busy_numbers_lem;
}

-- ---- Every list of calls has replies.

pub exchanged : (ks : List Call) (v : Drive) → (xs : List Exchange) × (calls xs ≡ ks) × Replied xs v
unfolding Replied
exchanged [] v = ([], refl, tt)
exchanged (k ∷ ks) v =
    let rest = exchanged ks (step k v) in
    let reply : Reply = record { answer = answer_to v k; words = words_filled v k; bytes = bytes_filled v k } in (
      record { call = k; reply = reply } ∷ rest.0,
      ap (λ (ls : List Call). k ∷ ls) rest.1,
      (record { answers = refl; fills_words = refl; fills_bytes = refl }, rest.2),
    )
