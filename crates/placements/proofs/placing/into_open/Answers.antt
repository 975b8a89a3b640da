-- The block's record, where there is one, or nothing.
use native.Mathlib.Omega.{arith}
use Rattle.buffers.proofs.Stretches.{Stretch, stretch}
use Rattle.placements.proofs.Placed.{into_none, into_one}
use Rattle.rules.specs.Blocks.{user_addresses}
use Rattle.transfers.proofs.Written.{wrote_back}
use Rattle.placements.proofs.placing.into_open.Goals as goal

pub overflow_add-end : goal.overflow_add-end
overflow_add-end c =
    let cut_out : let z = c.args in Stretch z.summary.config z.store.now c.in-Some.n c.stretch_start-first.result.0 c.adus_per_block.result.0 =
    let z = c in let a = z.args in let may = z.requires.may_fill.writes c.in-Some.n c.in-Some.is in
    stretch a.summary.config a.store.now c.in-Some.n c.stretch_start-first.result c.adus_per_block.result may.limits may.inside z.requires.may_fill.all_entries c.stretch_start-first.ensures c.adus_per_block.ensures in
    omega (arith, cut_out.most)

pub offset_bounds-store-first : goal.offset_bounds-store-first
offset_bounds-store-first c =
    let cut_out : let z = c.args in Stretch z.summary.config z.store.now c.in-Some.n c.stretch_start-first.result.0 c.adus_per_block.result.0 =
    let z = c in let a = z.args in let may = z.requires.may_fill.writes c.in-Some.n c.in-Some.is in
    stretch a.summary.config a.store.now c.in-Some.n c.stretch_start-first.result c.adus_per_block.result may.limits may.inside z.requires.may_fill.all_entries c.stretch_start-first.ensures c.adus_per_block.ensures in
    omega (arith, cut_out.most)

pub slice_bounds-stretch-end : goal.slice_bounds-stretch-end
slice_bounds-stretch-end c =
    let cut_out : let z = c.args in Stretch z.summary.config z.store.now c.in-Some.n c.stretch_start-first.result.0 c.adus_per_block.result.0 =
    let z = c in let a = z.args in let may = z.requires.may_fill.writes c.in-Some.n c.in-Some.is in
    stretch a.summary.config a.store.now c.in-Some.n c.stretch_start-first.result c.adus_per_block.result may.limits may.inside z.requires.may_fill.all_entries c.stretch_start-first.ensures c.adus_per_block.ensures in
    omega (arith, cut_out.inside)

pub returns-in-None : goal.returns-in-None
returns-in-None c = λ t o e s. let z = c in
    into_none z.args.domain z.args.summary o (user_addresses z.args.start z.args.put.0) c.clear_block.result t z.args.store.now z.args.words.now
    z.requires.may_fill.whole s c.in-None.is

pub returns-in-Some : goal.returns-in-Some
returns-in-Some c =
    let cut_out : let z = c.args in Stretch z.summary.config z.store.now c.in-Some.n c.stretch_start-first.result.0 c.adus_per_block.result.0 =
    let z = c in let a = z.args in let may = z.requires.may_fill.writes c.in-Some.n c.in-Some.is in
    stretch a.summary.config a.store.now c.in-Some.n c.stretch_start-first.result c.adus_per_block.result may.limits may.inside z.requires.may_fill.all_entries c.stretch_start-first.ensures c.adus_per_block.ensures in
    λ t o e s. let z = c in let a = z.args in let w = c.written_into in
    into_one a.domain c.in-Some.n a.summary o (user_addresses a.start a.put.0) w.result t a.store.now _ a.words.now _ z.requires.may_fill.whole s c.in-Some.is
    (λ same. wrote_back a.summary.config t a.domain c.in-Some.n a.start a.put.0 _ _ a.summary.block w.result a.store.now w.new.stretch a.words.now _
    cut_out e same (z.requires.may_fill.writes c.in-Some.n c.in-Some.is) z.requires.may_fill.all_entries w.auto.stretch w.ensures)
