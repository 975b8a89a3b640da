-- The keys before the index are told.
use Rattle.std.proofs.Common.{◌≡◌}
use Rattle.scan.specs.Listing.{told_to}
use Rattle.scan.proofs.listing.put_all_told.Given as goal

abbrev pub invariant-loop-i : goal.invariant-loop-i
invariant-loop-i l = l.marks.row ≡ told_to l.keys l.i l.initial.marks.row
