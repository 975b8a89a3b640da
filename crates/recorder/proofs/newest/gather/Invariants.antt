-- After n turns the first n records are gathered.
use Rattle.recorder.specs.Newest.{Gathers}
use Rattle.recorder.proofs.newest.gather.Given as goal

abbrev pub invariant-loop-n : goal.invariant-loop-n
invariant-loop-n l = Gathers l.blocks l.domain l.n l.initial.keys l.found l.keys
