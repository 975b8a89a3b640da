-- What is left may be written, and whatever writes it has written what was left at first. With nothing left at first
-- the owner's record is as it was.
use Rattle.std.proofs.Common.{◌≡◌, ◌≤◌, length}
use Rattle.placements.specs.Onwards.{MayGoOn, OpenedNext}
use Rattle.lent_blocks.proofs.write_onwards.Given as goal

abbrev pub invariant-loop-left : goal.invariant-loop-left
invariant-loop-left l =
    let e = l.fn in
    record {
      no_more_left : l.left.count.0 ≤ e.rest.count.0;
      same_owner : e.rest.count.0 ≡ 0 → l.new ≡ e.owner;
      may_go_on : ¬ (l.left.count.0 ≡ 0) → MayGoOn l.config (length l.store) (length l.words) l.domain l.new l.left;
      goes_on : OpenedNext l.config l.domain e.rest e.blocks e.owner e.store e.words
          l.left l.blocks l.new l.store l.words;
    }

abbrev pub decreases-loop-left : goal.decreases-loop-left
decreases-loop-left l = l.left.count.0
