-- The part is filled with user addresses, which rise by one or are all ones; before and behind it the stretch is as it
-- was.
use Rattle.std.proofs.Common.{arith, ne_eqb}
use Rattle.buffers.proofs.Rows.{length_part, part_end}
use Rattle.buffers.proofs.UserAddresses.{fit_end}
use Rattle.rules.proofs.Counting.{length_row}
use Rattle.rules.specs.Blocks.{all_ones}
use Rattle.rules.specs.Drive.{overwritten}
use Rattle.transfers.proofs.Addresses.{users_ones, users_rise}
use Rattle.transfers.proofs.writes.put_user_addresses.Goals as goal

pub put_rising-requires : goal.put_rising-requires
put_rising-requires c =
    let z = c in
    let a = z.args in
    let rises = ne_eqb a.start all_ones c.if-start-eq-ALL_ONES.false in
    rw (length_part a.stretch.now a.offset.0 a.count.0 z.requires.count_in_bounds)
    (omega (arith, (fit_end a.start a.count.0 (omega arith) z.requires.le_count.0 rises z.requires.le_count.1).1))

pub returns-then-start-eq-ALL_ONES : goal.returns-then-start-eq-ALL_ONES
unfolding overwritten
returns-then-start-eq-ALL_ONES c =
    let z = c in
    let a = z.args in
    rw (
      c.fill.ensures.after (λ _ e. e),
      length_part a.stretch.now a.offset.0 a.count.0 z.requires.count_in_bounds,
      part_end a.offset.0 a.count.0,
      users_ones a.start a.count.0 c.if-start-eq-ALL_ONES.true,
      length_row,
    )

pub returns-else-start-eq-ALL_ONES : goal.returns-else-start-eq-ALL_ONES
unfolding overwritten
returns-else-start-eq-ALL_ONES c =
    let z = c in
    let a = z.args in
    rw (
      c.put_rising.ensures,
      length_part a.stretch.now a.offset.0 a.count.0 z.requires.count_in_bounds,
      part_end a.offset.0 a.count.0,
      users_rise a.start a.count.0 (ne_eqb a.start all_ones c.if-start-eq-ALL_ONES.false),
      length_row,
    )
