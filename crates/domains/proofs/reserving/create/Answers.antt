-- A number out of range, or the new record put to the coverage rule.
use mathlib.Core.Bool.{true}
use mathlib.Core.Path.{◌≡◌, refl, sym, ◌∙◌}
use Rattle.domains.proofs.Reservations.{create_range_lem, reserving_outcome}
use Rattle.domains.specs.Reserving.{create_range}
use Rattle.geometry.specs.Address.{is_domain_id}
use Rattle.geometry.specs.Questions.{first_no}
use Rattle.geometry.specs.Shape.{within_limits}
use Rattle.model.specs.declared.answer.Refusal.TheVariants.{Range}
use Rattle.model.specs.declared.command.Command.{Command}
use Rattle.model.specs.declared.command.Command.TheVariants.{Create}
use Rattle.rules.specs.Domains.{created_domain}
use Rattle.rules.specs.Effects.{effect}
use Rattle.scan.proofs.Outcomes.{begun_limits, begun_sound, begun_yes, then_outcome}
use Rattle.tables.proofs.Answering.{asked_no, asked_yes}
use Rattle.domains.proofs.reserving.create.Goals as goal

pub in_range-requires : goal.in_range-requires
in_range-requires c =
    let asks : Command =
    let a = c.args in Create a.domain a.guarantee a.quota a.placements a.limit in
    let within : within_limits c.args.summary.config ≡ true =
    begun_limits asks 0 c.args.summary c.requires.0 c.requires.1 in
    within

pub created_domain-new-requires : goal.created_domain-new-requires
created_domain-new-requires c =
    let asks : Command =
    let a = c.args in Create a.domain a.guarantee a.quota a.placements a.limit in
    let within : within_limits c.args.summary.config ≡ true =
    begun_limits asks 0 c.args.summary c.requires.0 c.requires.1 in
    let in_range : let a = c.args in c.in_range.result ≡ true → create_range a.summary.config a.guarantee a.quota a.placements a.limit ≡ true =
    λ e. sym c.in_range.ensures ∙ e in
    let z = c in let a = z.args in
    let ranges = create_range_lem a.summary.config a.guarantee a.quota a.placements a.limit (in_range (asked_yes c.in_range.result Range c.in_ok-ask.ensures)) in
    record { config_value = within; quota_value = ranges.0; placements_bound = ranges.1 }

pub reserved-requires : goal.reserved-requires
reserved-requires c =
    let asks : Command =
    let a = c.args in Create a.domain a.guarantee a.quota a.placements a.limit in
    let whole : c.args.summary.sound ≡ true =
    begun_sound asks 0 c.args.summary c.requires.0 c.requires.1 in
    let known-id : is_domain_id c.args.domain ≡ true =
    let p = c.requires in begun_yes 4 p.0.0 asks 0 (p.1 p.0.0 p.0.1) in
    let z = c in record { seen = (z.requires.0, whole); domain_value = known-id }

pub returns : goal.returns
unfolding effect
returns c =
    let asks : Command =
    let a = c.args in Create a.domain a.guarantee a.quota a.placements a.limit in
    let known-id : is_domain_id c.args.domain ≡ true =
    let p = c.requires in begun_yes 4 p.0.0 asks 0 (p.1 p.0.0 p.0.1) in
    let in_range : let a = c.args in c.in_range.result ≡ true → create_range a.summary.config a.guarantee a.quota a.placements a.limit ≡ true =
    λ e. sym c.in_range.ensures ∙ e in
    let z = c in let a = z.args in λ t store words bytes s.
    rw (c.reserved.ensures t s, c.created_domain-new.ensures, s.same_config)
    (reserving_outcome t a.domain asks (created_domain t.config a.guarantee a.quota a.placements a.limit) store words bytes
    known-id (z.requires.1 t s) (rw (← s.same_config, in_range (asked_yes c.in_range.result Range c.in_ok-ask.ensures))) refl refl)

pub returns-in_err-ask : goal.returns-in_err-ask
unfolding first_no
returns-in_err-ask c =
    let asks : Command =
    let a = c.args in Create a.domain a.guarantee a.quota a.placements a.limit in
    let no = asked_no c.in_range.result c.in_err-ask.field-0.0 Range c.in_err-ask.ensures in
    let z = c in λ t store words bytes s.
    then_outcome t asks c.from_residual.result c.in_err-ask.field-0.0 store words bytes (z.requires.1 t s)
    (rw (← s.same_config, sym c.in_range.ensures ∙ no.0) no.1) c.from_residual.ensures.1
