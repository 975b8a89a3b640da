-- The sample is written at once, or again once the oldest block is freed.
use Rattle.std.proofs.Common.{◌≡◌, ℕ, ◌∙◌, ap, get_or, sym}
use Rattle.model.specs.declared.table.Domain.{Domain}
use Rattle.rules.specs.Drive.{clear_domain, domain_at}
use Rattle.recorder.specs.Samples.{sample_command}
use Rattle.recorder.specs.Steps.{at_once, again}
use Rattle.recorder.proofs.Contracts.{append_served}
use Rattle.tables.specs.Serving.{answering}
use Rattle.recorder.proofs.appending.append_in.Goals as goal

pub returns-then-is_over_quota : goal.returns-then-is_over_quota
returns-then-is_over_quota c =
    let t = c.args.table.now in
    let d = c.args.domain in
    let first = c.serve_words-answer in
    let owner = c.domain_at-owner.ensures ∙ ap (λ (n : ℕ). get_or t.domains n clear_domain) c.place_of-place.ensures in
    let command : c.sample_command-command.result ≡ sample_command (domain_at t d) d c.args.sample =
    c.sample_command-command.ensures ∙ ap (λ (r : Domain). sample_command r d c.args.sample) owner in
    append_served t d c.args.sample c.args.store.now c.args.words.now c.show_shape.ensures (answering c.write_again.new.table c.write_again.result) _ _
    (again (answering first.new.table first.result) first.new.store first.new.words (rw command at first.ensures)
    (sym c.is_over_quota.ensures ∙ c.if-is_over_quota.true) (rw command at c.write_again.ensures))

pub returns : goal.returns
returns c =
    let t = c.args.table.now in
    let d = c.args.domain in
    let first = c.serve_words-answer in
    let owner = c.domain_at-owner.ensures ∙ ap (λ (n : ℕ). get_or t.domains n clear_domain) c.place_of-place.ensures in
    let command : c.sample_command-command.result ≡ sample_command (domain_at t d) d c.args.sample =
    c.sample_command-command.ensures ∙ ap (λ (r : Domain). sample_command r d c.args.sample) owner in
    append_served t d c.args.sample c.args.store.now c.args.words.now c.show_shape.ensures (answering first.new.table first.result) _ _
    (at_once (rw command at first.ensures) (sym c.is_over_quota.ensures ∙ c.if-is_over_quota.false))
