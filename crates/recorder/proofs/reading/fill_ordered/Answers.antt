-- The row is in order, and what its blocks have written is filled in.
use Rattle.recorder.proofs.Keeping.{may_fill}
use Rattle.sorting.specs.Order.{in_order}
use Rattle.recorder.proofs.reading.fill_ordered.Goals as goal

pub fill-requires : goal.fill-requires
fill-requires c =
    let y = c.args in
    let may = may_fill y.lent.config (in_order y.keys.now) y.lent.blocks.now y.count y.lent.store.now y.words.now c.adus_per_block-capacity.result.0
    c.requires.fills_from c.adus_per_block-capacity.ensures c.sort.new.row c.sort.ensures in
    record { capacity_bound = may.0; count_in_bounds = may.1 }
