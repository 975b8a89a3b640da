-- What is asked of a fully reserved domain is asked of its own calls alone.
use Prim.Native.Nat.{ℕ, ◌≤◌}
use mathlib.Core.Bool.{true, false, ◌&&◌}
use mathlib.Core.Path.{◌≡◌, refl, sym, subst}
use lib.Dec.{eqb}
use borrow.Author.Tests.{eq-eqb, eqb-false}
use Rattle.geometry.proofs.Laws.Shape.{by_test}
use Rattle.model.specs.declared.table.Domain.{Domain}
use Rattle.rules.specs.Calls.{Call, own_domain}
use Rattle.rules.specs.Counting.{implies}
use Rattle.rules.specs.Drive.{Drive, domain_at}
use Rattle.rules.specs.Effects.{step}
use Rattle.rules.specs.Noninterference.{names_own, is_allowed, not_uncovered, reserves_all, stays_reserved}
use Rattle.rules.proofs.Runs.{follows}

-- A call leaves the record of every domain but its own.
record_stays : (a : ℕ) (k : Call) (v : Drive) → 1 ≤ a → eqb (own_domain k.asks) a ≡ false
    → domain_at (step k v).table a ≡ domain_at v.table a
record_stays a k v low e = (follows v k).others a low (eqb-false (own_domain k.asks) a e)

same_stays : (r : Domain) → implies r.exists (r.exists && eqb r.reserved r.reserved && eqb r.quota r.quota) ≡ true
same_stays r =
    by_test r.exists
    (λ e. rw (e, eq-eqb r.reserved r.reserved refl, eq-eqb r.quota r.quota refl))
    (λ e. rw e)

pub unasked : (a : ℕ) (k : Call) (v : Drive) → 1 ≤ a → eqb (own_domain k.asks) a ≡ false → reserves_all a v ≡ true
    → is_allowed a v k ≡ true
unasked a k v low e all =
    let same = record_stays a k v low e in
    let covered : not_uncovered a v k ≡ true = rw e in
    let names : names_own a v k.asks ≡ true = rw e in
    let reserves : reserves_all a (step k v) ≡ true =
    subst (λ (r : Domain). implies r.exists (eqb r.reserved r.quota) ≡ true) (sym same) all in
    let stays : stays_reserved a v (step k v) ≡ true =
    subst (λ (r : Domain). implies (domain_at v.table a).exists
    (r.exists && eqb r.reserved (domain_at v.table a).reserved && eqb r.quota (domain_at v.table a).quota) ≡ true)
    (sym same) (same_stays (domain_at v.table a)) in
    rw (covered, names, reserves, stays)
