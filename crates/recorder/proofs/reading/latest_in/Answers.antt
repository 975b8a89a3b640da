-- Where a write of no samples is refused by its range alone, what the domain keeps is gathered and its end given.
use Rattle.std.proofs.Common.{◌≡◌, ◌≤◌, ◌∙◌, refl, sym, arith, length-take-le}
use Rattle.geometry.proofs.Laws.Shape.{is_between}
use Rattle.rules.specs.Drive.{size}
use Rattle.recorder.specs.Steps.{given, refused}
use Rattle.recorder.proofs.Contracts.{latest_served, readable}
use Rattle.recorder.proofs.Gathering.{gathered_lent}
use Rattle.recorder.proofs.Keeping.{few_are_all, gathered_fillable, gathered_given, may_gather}
use Rattle.tables.specs.Serving.{answering}
use Rattle.recorder.proofs.reading.latest_in.Goals as goal

pub gather-found-requires : goal.gather-found-requires
gather-found-requires c =
    let t = c.args.table.now in
    let d = c.args.domain in
    let first = c.serve_words-answer in
    let u = first.new.table in
    let served = rw c.no_samples-asked.ensures at first.ensures in
    let ready = readable t d c.args.store.now c.args.words.now (answering u first.result) first.new.store first.new.words served
    (sym c.is_out_of_range.ensures ∙ c.if-is_out_of_range.true) in
    let shape = c.show_shape.ensures in
    let all : c.records_of-records.result ≡ size u = c.records_of-records.ensures ∙ few_are_all u d first.new.store ready shape in
    let few : c.records_of-records.result ≤ 256 = omega (arith, c.records_of-records.ensures) in (
      omega (arith, few, length-take-le c.records_of-records.result u.blocks (omega (arith, few, shape.blocks))),
      rw all (may_gather u d first.new.store ready shape),
      refl,
    )

pub overflow_sub-domain : goal.overflow_sub-domain
overflow_sub-domain c =
    let t = c.args.table.now in
    let d = c.args.domain in
    let first = c.serve_words-answer in
    let u = first.new.table in
    let served = rw c.no_samples-asked.ensures at first.ensures in
    let ready = readable t d c.args.store.now c.args.words.now (answering u first.result) first.new.store first.new.words served
    (sym c.is_out_of_range.ensures ∙ c.if-is_out_of_range.true) in
    (is_between 1 16 d ready.id).least

pub give_latest-requires : goal.give_latest-requires
give_latest-requires c =
    let t = c.args.table.now in
    let d = c.args.domain in
    let first = c.serve_words-answer in
    let u = first.new.table in
    let served = rw c.no_samples-asked.ensures at first.ensures in
    let ready = readable t d c.args.store.now c.args.words.now (answering u first.result) first.new.store first.new.words served
    (sym c.is_out_of_range.ensures ∙ c.if-is_out_of_range.true) in
    let shape = c.show_shape.ensures in
    let all : c.records_of-records.result ≡ size u = c.records_of-records.ensures ∙ few_are_all u d first.new.store ready shape in
    let few : c.records_of-records.result ≤ 256 = omega (arith, c.records_of-records.ensures) in
    let g = c.gather-found in
    let gathers = rw all at (gathered_lent u.blocks d c.records_of-records.result _ g.result g.new.keys
    (omega (arith, few, shape.blocks)) g.ensures) in
    gathered_fillable u d first.new.store ready shape _ g.result g.new.keys gathers refl

pub returns-then-is_out_of_range : goal.returns-then-is_out_of_range
returns-then-is_out_of_range c =
    let t = c.args.table.now in
    let d = c.args.domain in
    let first = c.serve_words-answer in
    let u = first.new.table in
    let served = rw c.no_samples-asked.ensures at first.ensures in
    let ready = readable t d c.args.store.now c.args.words.now (answering u first.result) first.new.store first.new.words served
    (sym c.is_out_of_range.ensures ∙ c.if-is_out_of_range.true) in
    let shape = c.show_shape.ensures in
    let all : c.records_of-records.result ≡ size u = c.records_of-records.ensures ∙ few_are_all u d first.new.store ready shape in
    let few : c.records_of-records.result ≤ 256 = omega (arith, c.records_of-records.ensures) in
    let g = c.gather-found in
    let gathers = rw all at (gathered_lent u.blocks d c.records_of-records.result _ g.result g.new.keys
    (omega (arith, few, shape.blocks)) g.ensures) in
    let gives = rw c.domain_at-owner.ensures at c.give_latest.ensures in
    latest_served t d c.args.count c.args.store.now c.args.words.now (answering u c.give_latest.result) _ _
    (given (answering u first.result) first.new.words served (sym c.is_out_of_range.ensures ∙ c.if-is_out_of_range.true)
    (gathered_given u d first.new.store ready shape _ g.result g.new.keys gathers c.args.count first.new.words c.give_latest.result _ gives)
    refl)

pub returns : goal.returns
returns c =
    let t = c.args.table.now in
    let d = c.args.domain in
    let first = c.serve_words-answer in
    let u = first.new.table in
    let served = rw c.no_samples-asked.ensures at first.ensures in
    latest_served t d c.args.count c.args.store.now c.args.words.now (answering u first.result) _ _
    (refused served (sym c.is_out_of_range.ensures ∙ c.if-is_out_of_range.false))
