-- After i entries each of them was compared with the user address that is expected there.
use Rattle.std.proofs.Common.{◌≡◌, eqb, get_or}
use Rattle.rules.specs.Blocks.{user_address}
use Rattle.rules.specs.Counting.{all_to}
use Rattle.buffers.proofs.user_addresses.all_match.Given as goal

abbrev pub invariant-loop-i : goal.invariant-loop-i
invariant-loop-i l = l.same ≡ all_to (λ k. eqb (get_or l.part k 0) (user_address l.expected k)) l.i
