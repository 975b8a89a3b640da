-- P1 to P12 hold of the rules.
use mathlib.Core.Bool.{true}
use mathlib.Core.Path.{◌≡◌, refl}
use Rattle.rules.specs.ProvedTable.{agrees, all_agree, proved_table, same_numbers}
use Rattle.rules.proofs.Machine.{machine}

proved_table_lem : all_agree proved_table ≡ true
unfolding machine agrees all_agree same_numbers
proved_table_lem = refl
