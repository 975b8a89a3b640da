-- As many are kept as were counted, and the rows in order tell where they stand.
use native.Mathlib.Omega.{arith}
use Rattle.recorder.specs.Newest.{gathered_parts}
use Rattle.recorder.proofs.Keeping.{too_few}
use Rattle.recorder.proofs.reading.fill_latest.Goals as goal

pub returns-then-found-count : goal.returns-then-found-count
returns-then-found-count c = let z = c in let y = z.args in
    too_few (gathered_parts y.lent.config y.found y.keys.now y.lent.blocks.now y.lent.store.now) y.count y.words.now (omega (arith, c.if-found-count.true, z.requires.0.adus))
