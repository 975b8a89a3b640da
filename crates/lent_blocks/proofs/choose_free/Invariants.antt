-- What is chosen among the other blocks, from the best so far on, is chosen among all.
use Rattle.std.proofs.Common.{drop}
use Rattle.scan.specs.Free.{Chosen, no_candidate}
use Rattle.scan.specs.declared.free.Candidate.{Candidate}
use Rattle.lent_blocks.proofs.choose_free.Given as goal

abbrev pub invariant-loop-n : goal.invariant-loop-n
invariant-loop-n l = (r : Candidate) → Chosen l.n (drop l.n l.blocks) l.best r → Chosen 0 l.blocks no_candidate r
