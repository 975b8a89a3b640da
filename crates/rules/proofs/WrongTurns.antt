-- The rules take none of the wrong turns that document 01 names, nor those of lists by number and an index that is
-- rounded down.
use mathlib.Core.Bool.{true}
use mathlib.Core.Path.{◌≡◌, refl}
use Rattle.geometry.specs.Bytes.{little_endian}
use Rattle.rules.specs.Effects.{bytes_filled}
use Rattle.rules.specs.LogPages.{bytes_of, list, list_of, page}
use Rattle.rules.specs.ProvedTable.{agrees, all_agree, same_numbers}
use Rattle.rules.specs.WrongTurns.{values_of, wrong_turns}
use Rattle.rules.proofs.Machine.{machine}

no_wrong_turns : all_agree wrong_turns ≡ true
unfolding machine agrees all_agree same_numbers values_of bytes_filled list list_of page bytes_of little_endian
no_wrong_turns = refl
