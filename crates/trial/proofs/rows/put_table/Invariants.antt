-- After i turns the numbers of the first i records are filled in, one behind the other.
use Rattle.std.proofs.Common.{◌≡◌}
use Rattle.rules.specs.Drive.{overwritten}
use Rattle.trial.specs.Rows.{joined_to}
use Rattle.trial.proofs.Filling.{domains_of, blocks_of}
use Rattle.trial.proofs.rows.put_table.Given as goal

abbrev pub invariant-loop-i : goal.invariant-loop-i
invariant-loop-i l = l.row ≡ overwritten 7 (joined_to (domains_of l.fn.table) l.i) l.initial.row

abbrev pub invariant-loop-n : goal.invariant-loop-n
invariant-loop-n l = l.row ≡ overwritten 103 (joined_to (blocks_of l.fn.table) l.n) l.initial.row
