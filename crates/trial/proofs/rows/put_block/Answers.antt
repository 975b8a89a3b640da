-- The block's seven numbers are filled in.
use Rattle.trial.specs.Rows.{block_numbers}
use Rattle.trial.proofs.rows.put_block.Goals as goal

pub returns : goal.returns
unfolding block_numbers
returns c =
    let p = c in
    let q = p in
    rw (p.put_numbers.ensures, q.state_code.ensures, q.state_placement.ensures)
