-- After i turns the first i numbers stand at the start, and the rest is as it was.
use mathlib.Core.Path.{◌≡◌}
use Rattle.geometry.proofs.Laws.Bytes.{filled_to}
use Rattle.geometry.proofs.bytes.put_numbers.Given as goal

abbrev pub invariant-loop-i : goal.invariant-loop-i
invariant-loop-i l = l.out ≡ filled_to l.values l.i l.initial.out
