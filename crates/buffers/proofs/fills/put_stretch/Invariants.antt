-- After i turns the first i entries are copied, and the rest is as it was.
use Rattle.std.proofs.Common.{◌≡◌, ◌++◌, drop, take}
use Rattle.buffers.proofs.fills.put_stretch.Given as goal

abbrev pub invariant-loop-i : goal.invariant-loop-i
invariant-loop-i l = l.row ≡ take l.i l.part ++ drop l.i l.initial.row
