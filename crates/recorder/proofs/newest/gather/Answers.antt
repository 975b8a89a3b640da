-- Nothing is gathered before the first record, and one record more is one step more.
use Rattle.std.proofs.Common.{add-one, arith}
use Rattle.recorder.proofs.Gathering.{gathered_few, nothing_gathered, one_gathered}
use Rattle.recorder.proofs.newest.gather.Goals as goal

pub loop-n-init : goal.loop-n-init
loop-n-init c = nothing_gathered c.args.blocks.now c.args.domain c.args.keys.now

pub noted-found-requires : goal.noted-found-requires
noted-found-requires c =
    let z = c.args in
    let l = c.loop-n in
    let here = c.loop-n-test.true in
    let few = gathered_few z.blocks.now z.domain z.keys.now c.requires.1 here c.requires.0 l.invariant in
    (omega arith, omega (arith, few), omega arith, c.requires.1 l.n here, few.1)

pub loop-n-preserved : goal.loop-n-preserved
loop-n-preserved c =
    let z = c.args in
    let one = one_gathered z.blocks.now z.domain z.keys.now (omega arith) in
    rw add-one (one c.loop-n.invariant c.noted-found.ensures)
