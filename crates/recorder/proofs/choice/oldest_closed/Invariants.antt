-- After n turns the oldest of the first n records is found, and each of their serials has four bytes.
use Rattle.std.proofs.Common.{◌≡◌}
use Rattle.recorder.specs.Choice.{NarrowTo, found_in}
use Rattle.recorder.proofs.choice.oldest_closed.Given as goal

abbrev pub invariant-loop-n : goal.invariant-loop-n
invariant-loop-n l = record {
  found : l.found ≡ found_in l.blocks l.domain l.n;
  narrow : NarrowTo l.blocks l.n;
}
