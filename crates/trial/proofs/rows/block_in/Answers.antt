-- The seven numbers that stand in the row from `at` on make the block's record.
use Rattle.trial.specs.Rows.{block_in}
use Rattle.trial.proofs.rows.block_in.Goals as goal

pub returns : goal.returns
unfolding block_in
returns c =
    let p = c in
    let q = p in
    let s = q in
    rw (
      s.state_of.ensures,
      s.one_byte.ensures,
      q.one_byte-2.ensures,
      p.four_bytes.ensures,
      c.four_bytes-2.ensures,
      c.four_bytes-3.ensures,
    )
