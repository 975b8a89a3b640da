-- A no, or the page filled in.
use mathlib.Core.Bool.{true}
use mathlib.Core.Path.{refl, sym, ◌∙◌, ◌≡◌}
use native.Mathlib.Omega.{arith}
use lib.ListN.{length}
use Rattle.geometry.specs.Questions.{first_no}
use Rattle.log_pages.proofs.Filling.{fill_parts}
use Rattle.log_pages.proofs.Asked.{page_asked, page_inside, page_room}
use Rattle.log_pages.specs.LogPages.{page_questions}
use Rattle.model.specs.declared.command.Command.TheVariants.{Page}
use Rattle.rules.proofs.Drive.{overwritten_nothing}
use Rattle.rules.proofs.LogPages.{page_length}
use Rattle.rules.specs.Calls.{calling}
use Rattle.rules.specs.Drive.{block_at}
use Rattle.rules.specs.Effects.{effect}
use Rattle.rules.specs.LogPages.{page}
use Rattle.scan.proofs.Outcomes.{begun_limits, begun_sound}
use Rattle.tables.proofs.Answering.{accepted_call, refused_by, then_refused, then_verdict}
use Rattle.tables.specs.Serving.{drive}
use Rattle.log_pages.proofs.pages.page.Goals as goal

pub put_identity-requires : goal.put_identity-requires
put_identity-requires c =
    let passed : let a = c.args in first_no (page_questions a.summary a.domain a.block (length a.bytes.now)) ≡ 0 =
    sym c.in_ok-page_verdict.ensures in
    let a = c.args in
    page_room a.summary a.domain a.block (length a.bytes.now) passed

pub put_counts-requires : goal.put_counts-requires
put_counts-requires c =
    let passed : let a = c.args in first_no (page_questions a.summary a.domain a.block (length a.bytes.now)) ≡ 0 =
    sym c.in_ok-page_verdict.ensures in
    let z = c in let a = z.args in
    let long = c.bytes-1.given in
    let room = page_room a.summary a.domain a.block (length a.bytes.now) passed in
    record { in_bounds = omega (arith, long, room); config_value = begun_limits (Page a.domain a.block) 0 a.summary z.requires.0 z.requires.1 }

pub returns-in_err-page_verdict : goal.returns-in_err-page_verdict
returns-in_err-page_verdict c =
    let whole : c.args.summary.sound ≡ true =
    begun_sound (Page c.args.domain c.args.block) 0 c.args.summary c.requires.0 c.requires.1 in
    let reason = c.in_err-page_verdict.field-0.0 in
    let z = c in let a = z.args in λ t store words s b.
    let call = calling (Page a.domain a.block) store words a.bytes.now in
    refused_by (drive t store) call words a.bytes.now c.from_residual.result reason c.from_residual.ensures.1
    (then_refused (drive t store) call words a.bytes.now reason (z.requires.1 t s)
    (c.in_err-page_verdict.ensures ∙ page_asked t a.domain a.block (length a.bytes.now) a.summary store (length store) (length words) s b whole))

pub returns : goal.returns
unfolding effect
returns c =
    let whole : c.args.summary.sound ≡ true =
    begun_sound (Page c.args.domain c.args.block) 0 c.args.summary c.requires.0 c.requires.1 in
    let passed : let a = c.args in first_no (page_questions a.summary a.domain a.block (length a.bytes.now)) ≡ 0 =
    sym c.in_ok-page_verdict.ensures in
    let z = c in let a = z.args in λ t store words s b.
    let v = drive t store in
    let room = length a.bytes.now in
    let told = passed in
    let same = b.same_block whole (rw (← s.same_config) (page_inside a.summary a.domain a.block room told)) in
    let call = calling (Page a.domain a.block) store words a.bytes.now in
    accepted_call v call words a.bytes.now _ (page t.config a.block (block_at t a.block))
    (then_verdict v call (z.requires.1 t s)
    ∙ sym (page_asked t a.domain a.block room a.summary store (length store) (length words) s b whole)
    ∙ told)
    refl refl (sym (overwritten_nothing words)) refl
    (c.put_counts.ensures a.block
    ∙ rw (c.put_identity.ensures a.summary.config)
    (fill_parts 12 (page a.summary.config a.block a.summary.block) a.bytes.now (rw page_length (omega arith))
    ∙ rw (s.same_config, same)))
