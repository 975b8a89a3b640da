-- The pass over the domains: what it has found before the first of them, and with one more.
use Prim.Native.Nat.{ℕ, ◌+◌}
use mathlib.Core.List.{List}
use mathlib.Core.Path.{sym}
use lib.ListN.{get_or}
use Rattle.model.specs.declared.table.Domain.{Domain}
use Rattle.rules.proofs.Counting.{all_next, all_none, sum_next, sum_none}
use Rattle.rules.specs.Drive.{clear_domain}
use Rattle.scan.specs.Clauses.{covered_to, domains_sound}
use Rattle.scan.specs.Summary.{DomainsScanned, begun_covering, covering_with}
use Rattle.scan.specs.declared.summary.Covering.{Covering}

pub none_passed : (rs : List Domain) (blocks : ℕ) (marks : List ℕ) → DomainsScanned rs blocks marks 0 begun_covering
unfolding domains_sound covered_to
none_passed rs blocks marks = record { clauses = sym (all_none _); sum_is = sym (sum_none _) }

pub one_passed : (rs : List Domain) (blocks : ℕ) (marks : List ℕ) (n : ℕ) (c : Covering) → DomainsScanned rs blocks marks n c
    → DomainsScanned rs blocks marks (n + 1) (covering_with c n (get_or rs n clear_domain) blocks marks)
unfolding domains_sound covered_to
one_passed rs blocks marks n c p = record {
  clauses = rw (all_next, p.clauses);
  sum_is = rw (sum_next, p.sum_is);
}
