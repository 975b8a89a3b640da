-- The table is summarized, the command answered and its change put into the records; what is left is written, and the table is
-- then as the command's contract has it.
use Rattle.std.proofs.Common.{◌≡◌, length, drop, ap, ◌∙◌, rules, take_at, drop_at}
use Rattle.manager.proofs.Dispatches.{may_go_on, new_record, serves, summarized}
use Rattle.manager.proofs.Seeing.{looked_summary}
use Rattle.manager.proofs.serving.serve_in.Goals as goal

pub dispatch-partial-requires : goal.dispatch-partial-requires
dispatch-partial-requires c =
    let t = c.args.table.now in
    let all : length t.blocks ≡ 256 = search rules in
    let counted = c.present_blocks-blocks.ensures.0 in
    let looked = rw (c.subject_of-subject.ensures, counted, c.new-marks.ensures) at c.summarize-summary.ensures in
    summarized t c.args.command c.summarize-summary.result _ (looked_summary t c.args.command c.summarize-summary.result _ all looked)

pub write_onwards-new-requires : goal.write_onwards-new-requires
write_onwards-new-requires c =
    let t = c.args.table.now in
    let all : length t.blocks ≡ 256 = search rules in
    let counted = c.present_blocks-blocks.ensures.0 in
    let looked = rw (c.subject_of-subject.ensures, counted, c.new-marks.ensures) at c.summarize-summary.ensures in
    let seen = looked_summary t c.args.command c.summarize-summary.result _ all looked in
    let long : length c.change_blocks.new.blocks ≡ c.present_blocks-blocks.result = search rules in (
      may_go_on t c.args.command c.summarize-summary.result _ _ _ _ c.dispatch-partial.result _ _ _ seen c.dispatch-partial.ensures,
      ap length (take_at c.change_blocks.new.blocks _ _ long) ∙ long ∙ counted,
    )

pub returns : goal.returns
returns c =
    let t = c.args.table.now in
    let all : length t.blocks ≡ 256 = search rules in
    let sixteen : length t.domains ≡ 16 = search rules in
    let counted = c.present_blocks-blocks.ensures.0 in
    let looked = rw (c.subject_of-subject.ensures, counted, c.new-marks.ensures) at c.summarize-summary.ensures in
    let seen = looked_summary t c.args.command c.summarize-summary.result _ all looked in
    let long : length c.change_blocks.new.blocks ≡ c.present_blocks-blocks.result = search rules in
    let kept = take_at c.change_blocks.new.blocks (drop c.present_blocks-blocks.result t.blocks) c.present_blocks-blocks.result long in
    let went = rw (kept, c.change_blocks.ensures, counted) at c.write_onwards-new.ensures in
    let behind = drop_at c.change_blocks.new.blocks (drop c.present_blocks-blocks.result t.blocks) c.present_blocks-blocks.result long in
    let placed = new_record c.dispatch-partial.result.outcome.change c.write_onwards-new.result t.domains sixteen in
    rw (c.put_record.ensures, c.changed_place-place.ensures, placed, behind, counted)
    (serves t c.args.command c.summarize-summary.result _ _ _ _ c.dispatch-partial.result _ _ _ _ c.write_onwards-new.result _ _ seen sixteen
    c.dispatch-partial.ensures went)
