-- A no, or the write into the block.
use mathlib.Core.Path.{sym, ◌∙◌}
use Prim.Native.Nat.{◌<◌}
use native.Mathlib.Omega.{arith}
use lib.ListN.{length}
use Rattle.model.specs.declared.command.Command.TheVariants.{WriteByBlock}
use Rattle.rules.specs.Drive.{size}
use Rattle.scan.proofs.Outcomes.{begun_limits, begun_sound, then_outcome}
use Rattle.transfers.proofs.Accepted.{write_done, write_fits, writes_cut}
use Rattle.transfers.proofs.Asked.{write_asked}
use Rattle.transfers.proofs.Written.{wrote_back}
use Rattle.transfers.proofs.writes.write_by_block.Goals as goal

pub write_verdict-requires : goal.write_verdict-requires
write_verdict-requires c = let a = c.args in
    begun_limits (WriteByBlock a.domain a.block a.start a.count) (length a.store.now) a.summary c.requires.0 c.requires.1

pub overflow_add-end : goal.overflow_add-end
overflow_add-end c = let a = c.args in
    let w = writes_cut a.summary a.domain a.block a.start a.count a.store.now (length a.words.now) c.stretch_start-first.result c.adus_per_block.result
    c.requires.0 c.requires.1 (sym c.in_ok-write_verdict.ensures) c.stretch_start-first.ensures c.adus_per_block.ensures in
    omega (arith, w.cut_out.most)

pub offset_bounds-store-first : goal.offset_bounds-store-first
offset_bounds-store-first c = let a = c.args in
    let w = writes_cut a.summary a.domain a.block a.start a.count a.store.now (length a.words.now) c.stretch_start-first.result c.adus_per_block.result
    c.requires.0 c.requires.1 (sym c.in_ok-write_verdict.ensures) c.stretch_start-first.ensures c.adus_per_block.ensures in
    omega (arith, w.cut_out.most)

pub slice_bounds-stretch-end : goal.slice_bounds-stretch-end
slice_bounds-stretch-end c = let a = c.args in
    let w = writes_cut a.summary a.domain a.block a.start a.count a.store.now (length a.words.now) c.stretch_start-first.result c.adus_per_block.result
    c.requires.0 c.requires.1 (sym c.in_ok-write_verdict.ensures) c.stretch_start-first.ensures c.adus_per_block.ensures in
    omega (arith, w.cut_out.inside)

pub written_into-new-requires : goal.written_into-new-requires
written_into-new-requires c = let a = c.args in
    let w = writes_cut a.summary a.domain a.block a.start a.count a.store.now (length a.words.now) c.stretch_start-first.result c.adus_per_block.result
    c.requires.0 c.requires.1 (sym c.in_ok-write_verdict.ensures) c.stretch_start-first.ensures c.adus_per_block.ensures in
    let fits = write_fits a.summary (length a.words.now) a.domain a.block a.start a.count (sym c.in_ok-write_verdict.ensures) in
    record { may_write_in = w.may; count_value = fits.0; stretch_len = (w.cut_out.long, fits.1) }

pub returns-in_err-write_verdict : goal.returns-in_err-write_verdict
returns-in_err-write_verdict c = let z = c.args in let k = WriteByBlock z.domain z.block z.start z.count in λ t bytes s b.
    let n = length z.store.now in
    then_outcome t k c.from_residual.result c.in_err-write_verdict.field-0.0 z.store.now z.words.now bytes (c.requires.1 t s)
    (c.in_err-write_verdict.ensures
    ∙ write_asked t z.store.now n (length z.words.now) (length bytes) z.domain z.block z.start z.count z.summary s b (begun_sound k n z.summary (t, s) c.requires.1))
    c.from_residual.ensures.1

pub returns : goal.returns
returns c = let z = c.args in let k = WriteByBlock z.domain z.block z.start z.count in λ t bytes s b.
    let n = length z.store.now in
    let whole = begun_sound k n z.summary (t, s) c.requires.1 in
    let w = writes_cut z.summary z.domain z.block z.start z.count z.store.now (length z.words.now) c.stretch_start-first.result c.adus_per_block.result
    c.requires.0 c.requires.1 (sym c.in_ok-write_verdict.ensures) c.stretch_start-first.ensures c.adus_per_block.ensures in
    let new = c.written_into-new in
    let l : z.block < size t = rw s.same_config at w.may.inside in
    rw c.block_change.ensures
    (write_done t z.store.now z.words.now bytes z.domain z.block z.start z.count new.result _ new.new.words
    (c.requires.1 t s) l
    (sym (write_asked t z.store.now n (length z.words.now) (length bytes) z.domain z.block z.start z.count z.summary s b whole) ∙ sym c.in_ok-write_verdict.ensures)
    (wrote_back z.summary.config t z.domain z.block z.start z.count.0 _ _ z.summary.block new.result z.store.now new.new.stretch z.words.now _
    w.cut_out (sym s.same_config) (sym (b.same_block whole l)) w.may w.entries new.auto.stretch new.ensures))
