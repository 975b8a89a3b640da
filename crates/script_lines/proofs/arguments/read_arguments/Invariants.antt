-- What is read so far, with what is read behind it, are the arguments.
use Rattle.std.proofs.Common.{◌≡◌, ◌≤◌, drop, length}
use Rattle.script_lines.specs.Arguments.{arguments_of, read_on}
use Rattle.script_lines.proofs.arguments.read_arguments.Given as goal

abbrev pub invariant-loop-i : goal.invariant-loop-i
invariant-loop-i l = record {
  in_range : l.at ≤ length l.text;
  so_far : arguments_of l.text l.fn.keyword l.from ≡ read_on (drop l.i l.expected-items) l.text l.at l.i l.read;
}
