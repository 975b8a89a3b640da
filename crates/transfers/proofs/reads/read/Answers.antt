-- A no, or what the stretch of the store is answered.
use mathlib.Core.Path.{◌≡◌, sym, ap, ◌∙◌}
use native.Mathlib.Omega.{arith}
use lib.ListN.{length}
use Rattle.buffers.proofs.Stretches.{read_within}
use Rattle.geometry.specs.Address.{fields_of}
use Rattle.geometry.specs.declared.shape.Config.{Config}
use Rattle.model.specs.declared.command.Command.TheVariants.{Read}
use Rattle.rules.specs.Calls.{calling}
use Rattle.scan.proofs.Outcomes.{begun_limits, begun_sound}
use Rattle.tables.proofs.Answering.{refused_by}
use Rattle.tables.specs.Serving.{drive}
use Rattle.transfers.proofs.Accepted.{read_no, reads_cut, stretch_read}
use Rattle.transfers.proofs.Asked.{read_asked}
use Rattle.transfers.proofs.reads.read.Goals as goal

pub read_verdict-requires : goal.read_verdict-requires
read_verdict-requires c = let a = c.args in
    begun_limits (Read a.domain a.address a.count a.expected) (length a.store.now) a.summary c.requires.0 c.requires.1

pub overflow_add-end : goal.overflow_add-end
overflow_add-end c = let z = c.args in
    let r = reads_cut z.summary z.domain z.address z.count z.expected c.word_fields-a.result z.store.now (length z.words.now) c.stretch_start-first.result c.adus_per_block.result
    c.requires.0 c.requires.1 (sym c.in_ok-read_verdict.ensures) c.stretch_start-first.ensures c.adus_per_block.ensures in
    omega (arith, r.cut_out.most)

pub offset_bounds-store-first : goal.offset_bounds-store-first
offset_bounds-store-first c = let z = c.args in
    let r = reads_cut z.summary z.domain z.address z.count z.expected c.word_fields-a.result z.store.now (length z.words.now) c.stretch_start-first.result c.adus_per_block.result
    c.requires.0 c.requires.1 (sym c.in_ok-read_verdict.ensures) c.stretch_start-first.ensures c.adus_per_block.ensures in
    omega (arith, r.cut_out.most)

pub slice_bounds-read_stretch-end : goal.slice_bounds-read_stretch-end
slice_bounds-read_stretch-end c = let z = c.args in
    let r = reads_cut z.summary z.domain z.address z.count z.expected c.word_fields-a.result z.store.now (length z.words.now) c.stretch_start-first.result c.adus_per_block.result
    c.requires.0 c.requires.1 (sym c.in_ok-read_verdict.ensures) c.stretch_start-first.ensures c.adus_per_block.ensures in
    omega (arith, r.cut_out.inside)

pub read_stretch-requires : goal.read_stretch-requires
read_stretch-requires c = let z = c.args in
    let r = reads_cut z.summary z.domain z.address z.count z.expected c.word_fields-a.result z.store.now (length z.words.now) c.stretch_start-first.result c.adus_per_block.result
    c.requires.0 c.requires.1 (sym c.in_ok-read_verdict.ensures) c.stretch_start-first.ensures c.adus_per_block.ensures in
    record { count_in_bounds = (omega (arith, r.cut_out.long, r.may.extent), r.may.enough); count_value = r.may.fits }

pub returns-in_err-read_verdict : goal.returns-in_err-read_verdict
returns-in_err-read_verdict c = let z = c.args in let k = Read z.domain z.address z.count z.expected in λ t bytes s b.
    let n = length z.store.now in
    let within = begun_limits k n z.summary c.requires.0 c.requires.1 in
    let fields_read : c.word_fields-a.result ≡ fields_of z.summary.config z.address = c.word_fields-a.ensures ∙ rw within in
    let reason = c.in_err-read_verdict.field-0.0 in
    refused_by (drive t z.store.now) (calling k z.store.now z.words.now bytes) z.words.now bytes c.from_residual.result reason c.from_residual.ensures.1
    (read_no (drive t z.store.now) z.words.now bytes z.domain z.address z.count z.expected (c.requires.1 t s) reason
    (c.in_err-read_verdict.ensures
    ∙ rw (fields_read ∙ ap (λ (shape : Config). fields_of shape z.address) s.same_config)
    (read_asked t z.store.now n (length z.words.now) (length bytes) z.domain z.address z.count z.expected z.summary s b (begun_sound k n z.summary (t, s) c.requires.1))))

pub returns : goal.returns
returns c = let z = c.args in let k = Read z.domain z.address z.count z.expected in λ t bytes s b.
    let n = length z.store.now in
    let within = begun_limits k n z.summary c.requires.0 c.requires.1 in
    let fields_read : c.word_fields-a.result ≡ fields_of z.summary.config z.address = c.word_fields-a.ensures ∙ rw within in
    let cut = reads_cut z.summary z.domain z.address z.count z.expected c.word_fields-a.result z.store.now (length z.words.now) c.stretch_start-first.result c.adus_per_block.result
    c.requires.0 c.requires.1 (sym c.in_ok-read_verdict.ensures) c.stretch_start-first.ensures c.adus_per_block.ensures in
    let r = c.read_stretch in
    let a = c.word_fields-a.result in
    let within-it = read_within z.summary.config a.block a.offset.0 z.count.0 z.store.now cut.may.extent in
    let asked = rw (fields_read ∙ ap (λ (shape : Config). fields_of shape z.address) s.same_config) at c.in_ok-read_verdict.ensures in
    stretch_read (drive t z.store.now) z.words.now bytes z.domain z.address z.count z.expected (c.requires.1 t s)
    (sym (read_asked t z.store.now n (length z.words.now) (length bytes) z.domain z.address z.count z.expected z.summary s b (begun_sound k n z.summary (t, s) c.requires.1)) ∙ sym asked)
    _ r.new.words
    (rw (cut.cut_out.lent, within-it, fields_read, s.same_config) at r.ensures)
