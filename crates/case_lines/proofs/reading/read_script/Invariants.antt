-- What is filled lies within the text, and each turn fills more of it.
use Rattle.std.proofs.Common.{◌-◌, ◌≤◌, length}
use Rattle.case_lines.proofs.reading.read_script.Given as goal

abbrev pub invariant-loop-filled : goal.invariant-loop-filled
invariant-loop-filled g l = l.filled ≤ length l.text

abbrev pub decreases-loop-filled : goal.decreases-loop-filled
decreases-loop-filled g l = length l.text - l.filled
