-- After i turns the first i entries stand at the start, and the rest is as it was.
use Rattle.std.proofs.Common.{◌≡◌, ◌+◌, ◌++◌, drop}
use Rattle.rules.specs.Counting.{row_to}
use Rattle.buffers.proofs.fills.put_rising.Given as goal

abbrev pub invariant-loop-i : goal.invariant-loop-i
invariant-loop-i l = l.part ≡ row_to (λ i. l.first + i) l.i ++ drop l.i l.initial.part
