-- The numbers so far stand at the front of the row, and what stands behind them is as it was.
use Rattle.std.proofs.Common.{◌≡◌, drop, length, take}
use Rattle.case_lines.proofs.line.put_numbers.Given as goal

abbrev pub invariant-loop-number : goal.invariant-loop-number
invariant-loop-number l =
    record {
      room : length l.numbers ≡ 40;
      so_many : l.count ≡ length l.yielded;
      read : take l.count l.numbers ≡ l.yielded;
      rest : drop l.count l.numbers ≡ drop l.count l.initial.numbers;
    }
