-- The number so far, with the digits from the index on behind it, is the number.
use Rattle.std.proofs.Common.{◌≡◌, drop}
use Rattle.script_lines.specs.Numbers.{continued, number_in}
use Rattle.script_lines.proofs.numbers.number_in.Given as goal

abbrev pub invariant-loop-b : goal.invariant-loop-b
invariant-loop-b l = number_in l.base l.text ≡ continued l.base l.n (drop l.b-index l.text)
