-- The records before the index have counted down, and those from it on are as they were.
use Rattle.std.proofs.Common.{◌≡◌, ◌++◌, map, take, drop}
use Rattle.model.specs.Blocks.{counted_down}
use Rattle.countdown.proofs.count_down.Given as goal

abbrev pub invariant-loop-block : goal.invariant-loop-block
invariant-loop-block l =
    let bs = l.initial.blocks in
    l.blocks ≡ map (counted_down l.seconds) (take l.block-index bs) ++ drop l.block-index bs
