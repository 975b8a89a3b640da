-- The six numbers that stand in the row from `at` on make the domain's record.
use Rattle.trial.specs.Rows.{domain_in}
use Rattle.trial.proofs.rows.domain_in.Goals as goal

pub returns : goal.returns
unfolding domain_in
returns c =
    let p = c in
    let q = p in
    rw (
      q.four_bytes.ensures,
      p.four_bytes-2.ensures,
      p.one_byte.ensures,
      c.four_bytes-3.ensures,
      c.four_bytes-4.ensures,
    )
