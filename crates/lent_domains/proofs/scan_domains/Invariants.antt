-- What the domains before the index give, and how large the coverage is at most.
use Rattle.std.proofs.Common.{◌*◌, ◌≤◌}
use Rattle.scan.specs.Summary.{DomainsScanned}
use Rattle.lent_domains.proofs.scan_domains.Given as goal

abbrev pub invariant-loop-n : goal.invariant-loop-n
invariant-loop-n l = record {
  few : l.covering.coverage ≤ l.n * 4294967296;
  scanned : DomainsScanned l.domains l.blocks l.marks.row l.n l.covering;
}
