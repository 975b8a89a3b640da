-- The part is filled, and what stands before and behind it is as it was.
use Rattle.buffers.proofs.Rows.{length_bytes, length_part, part_end}
use Rattle.rules.specs.Drive.{overwritten}
use Rattle.buffers.proofs.fills.put_field.Goals as goal

pub returns : goal.returns
unfolding overwritten
returns c = let z = c in
    rw (c.put_bytes.ensures, length_part z.args.bytes.now z.args.at z.args.width z.requires, part_end z.args.at z.args.width, length_bytes)
