-- Block by block, from the last key back: `Filled` holds.
use Rattle.std.proofs.Common.{◌<◌, arith}
use Rattle.recorder.specs.Newest.{written_of}
use Rattle.recorder.proofs.Filling.{block_filled, nothing_filled}
use Rattle.recorder.proofs.newest.fill.Goals as goal

pub loop-i-init : goal.loop-i-init
loop-i-init c =
    let z = c.args in
    nothing_filled z.keys.now (written_of z.blocks.now) z.capacity z.count z.store.now z.words.now

pub loop-i-preserved : goal.loop-i-preserved
loop-i-preserved c =
    let z = c.args in
    let count = c.requires.count_in_bounds in
    let some_left : 0 < c.loop-i.left = omega arith in
    block_filled z.keys.now (written_of z.blocks.now) z.capacity z.count z.store.now z.words.now c.loop-i.invariant _ _
    some_left count.0 count.1 c.requires.capacity_bound.2 c.put_block-left.ensures
