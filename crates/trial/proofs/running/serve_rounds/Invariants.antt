-- After so many turns as many commands were served, the next one begins within the row, and the sum is small.
use Rattle.std.proofs.Common.{ℕ, List, ◌+◌, ◌≤◌, ◌<◌, length}
use Rattle.trial.specs.Trials.{Calls, lending}
use Rattle.trial.proofs.running.serve_rounds.Given as goal

abbrev pub invariant-loop : goal.invariant-loop
invariant-loop l = record {
  within : l.at + 6 ≤ length l.commands;
  small : l.sum < 4294967296;
  calls : (row : List ℕ)
      → Calls l.commands l.counter 0 0 l.initial.changed
      (lending row l.initial.store l.initial.words l.initial.bytes)
      l.at l.sum l.changed (lending row l.store l.words l.bytes);
}
