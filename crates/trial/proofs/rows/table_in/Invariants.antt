-- After i turns the first i records are those that the row has, and in the end all are.
use Rattle.std.proofs.Common.{◌≡◌, length, take}
use Rattle.trial.specs.Rows.{records_to}
use Rattle.trial.proofs.Filling.{domains_in, blocks_in}
use Rattle.trial.proofs.rows.table_in.Given as goal

abbrev pub invariant-loop-i : goal.invariant-loop-i
invariant-loop-i l = (length l.domain-items ≡ 16) × (take l.i l.domain-items ≡ records_to (domains_in l.row) l.i)

abbrev pub invariant-loop-n : goal.invariant-loop-n
invariant-loop-n l = (length l.block-items ≡ 256) × (take l.n l.block-items ≡ records_to (blocks_in l.row) l.n)
