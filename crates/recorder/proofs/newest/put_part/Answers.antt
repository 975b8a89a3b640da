-- The part is copied, and what stands before and behind it is as it was.
use Rattle.recorder.proofs.Rows.{length_stretch, part_end}
use Rattle.rules.specs.Drive.{overwritten}
use Rattle.recorder.proofs.newest.put_part.Goals as goal

pub returns : goal.returns
unfolding overwritten
returns c =
    let z = c.args in
    rw (
      c.copy.ensures,
      part_end z.to z.count,
      part_end z.from z.count,
      length_stretch z.store.now z.from z.count c.requires.1,
    )
