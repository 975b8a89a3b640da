-- The records before the index are as they are to be, and those from it on as they were.
use Rattle.std.proofs.Common.{◌≡◌, ◌++◌, map, take, drop}
use Rattle.rules.specs.Domains.{freed_if_held}
use Rattle.lent_blocks.proofs.free_held.Given as goal

abbrev pub invariant-loop-block : goal.invariant-loop-block
invariant-loop-block l =
    let bs = l.initial.blocks in
    l.blocks ≡ map (freed_if_held l.domain) (take l.block-index bs) ++ drop l.block-index bs
