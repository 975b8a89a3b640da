use Prim.Native.Nat.{◌-◌}
use Rattle.log_pages.proofs.Listing.{Begun}
use Rattle.log_pages.proofs.lists.put_list.Given as goal

abbrev pub invariant-loop-i : goal.invariant-loop-i
invariant-loop-i l = Begun l.marks.row l.count l.i l.initial.bytes l.bytes

abbrev pub decreases-loop-i : goal.decreases-loop-i
decreases-loop-i l = l.count - l.i
