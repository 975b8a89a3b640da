-- Before the first domain, and with one more.
use Rattle.std.proofs.Common.{arith}
use Rattle.scan.proofs.Coverage.{none_passed, one_passed}
use Rattle.lent_domains.proofs.scan_domains.Goals as goal

pub loop-n-init : goal.loop-n-init
loop-n-init c = record {
  few = omega arith;
  scanned = none_passed c.args.domains.now c.args.blocks c.args.marks.now.row;
}

pub loop-n-preserved : goal.loop-n-preserved
loop-n-preserved c = record {
  few = omega (arith, c.scan_domain-covering.ensures.1);
  scanned = rw (c.scan_domain-covering.ensures.0)
      (one_passed c.args.domains.now c.args.blocks c.args.marks.now.row c.loop-n.n _ c.loop-n.invariant.scanned);
}
