-- What the blocks passed so far leave to tell is told by the chain from here on.
use Rattle.std.proofs.Common.{◌≡◌}
use Rattle.scan.specs.Marks.{chain_differs}
use Rattle.lent_blocks.proofs.chain_differs.Given as goal

abbrev pub invariant-loop-at : goal.invariant-loop-at
invariant-loop-at l = chain_differs l.blocks l.marks.row l.block l.last ≡ chain_differs l.blocks l.marks.row l.block l.at

abbrev pub decreases-loop-at : goal.decreases-loop-at
decreases-loop-at l = l.at
