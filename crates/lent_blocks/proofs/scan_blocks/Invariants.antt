-- Whatever the walk over the other blocks tells and leaves, the walk over all of them does.
use Rattle.std.proofs.Common.{ℕ, Bool, List, drop}
use Rattle.scan.specs.Scan.{Walked}
use Rattle.lent_blocks.proofs.scan_blocks.Given as goal

abbrev pub invariant-loop-n : goal.invariant-loop-n
invariant-loop-n l = (ok : Bool) (marks : List ℕ) → Walked l.subject l.domains l.blocks l.n (drop l.n l.blocks) ok l.marks.row marks
    → Walked l.subject l.domains l.blocks 0 l.blocks ok l.initial.marks.row marks
