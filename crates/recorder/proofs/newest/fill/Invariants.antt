-- Block by block, from the last key back: `Filled` holds.
use Rattle.recorder.specs.Newest.{written_of}
use Rattle.recorder.proofs.Filling.{Filled}
use Rattle.recorder.proofs.newest.fill.Given as goal

abbrev pub invariant-loop-i : goal.invariant-loop-i
invariant-loop-i l = Filled l.keys (written_of l.blocks) l.capacity l.count l.store l.initial.words l.words l.left l.i
