-- The numbers are copied, and what stands before and behind them is as it was.
use Rattle.std.proofs.Common.{◌≡◌, ◌+◌, ◌-◌, length, arith}
use Rattle.rules.specs.Drive.{overwritten}
use Rattle.trial.proofs.rows.put_numbers.Goals as goal

pub returns : goal.returns
unfolding overwritten
returns c =
    let z = c.args in
    let k = length z.numbers.now in
    let end : z.at + k - z.at ≡ k = omega arith in
    rw (c.copy_from_slice.ensures.after, end)
