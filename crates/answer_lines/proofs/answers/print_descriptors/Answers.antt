use Rattle.std.proofs.Common.{◌≡◌, ◌/◌, flat_map, length, take, arith}
use Rattle.answer_lines.specs.Lines.{listed_text}
use Rattle.answer_lines.specs.Texts.{spaced_bytes}
use Rattle.answer_lines.proofs.Descriptors.{listed_groups, wide_groups}
use Rattle.answer_lines.proofs.answers.print_descriptors.Goals as goal

pub list_line-requires-clause-width : goal.list_line-requires-clause-width
list_line-requires-clause-width c =
    let bytes = c.args.bytes.now in
    rw c.as_chunks.ensures.front (wide_groups (length bytes / 8) bytes (omega arith) c.descriptor_count-n.result)

pub returns : goal.returns
returns c =
    let bytes = c.args.bytes.now in
    let text : flat_map spaced_bytes (take c.descriptor_count-n.result c.as_chunks.result.0.now) ≡ listed_text bytes =
    rw (c.descriptor_count-n.ensures, c.as_chunks.ensures.front) (listed_groups (length bytes / 8) bytes) in
    rw text at c.list_line.ensures
