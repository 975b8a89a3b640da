-- A domain that exists keeps its limits; one that does not is clear, and so is its quota: it may hold no block.
use Prim.Native.Nat.{ℕ}
use mathlib.Core.Bool.{Bool, true, false, ◌&&◌, and-true}
use mathlib.Core.Path.{◌≡◌, refl, sym, ap, ◌∙◌}
use native.Mathlib.Omega.{arith}
use lib.Dec.{eqb, leb}
use borrow.Author.Tests.{eq-eqb, eqb-true, le-leb, lt-leb, ne_eqb}
use Rattle.geometry.proofs.Laws.Shape.{both, by_test}
use Rattle.geometry.specs.Shape.{between}
use Rattle.model.specs.declared.table.Domain.{Domain}
use Rattle.rules.proofs.Counting.{by_eq}
use Rattle.rules.specs.Soundness.{domain_sound, quota_kept}
use Rattle.scan.proofs.clauses.domain_sound.Goals as goal

of-existing : (r : Domain) (blocks held opened : ℕ) → r.exists ≡ true
    → domain_sound blocks held opened r ≡ quota_kept blocks held r && (between 1 16 r.placements && between r.placements 256 r.limit && leb opened r.limit)
unfolding domain_sound
of-existing r blocks held opened e = rw e (and-true _)

abbrev clear : Domain → Bool
clear r = eqb r.reserved 0 && eqb r.quota 0 && eqb r.placements 0 && eqb r.limit 0 && eqb r.last 0

-- Counts of a clear record are kept where no block is held.
none_held : (reserved quota blocks held : ℕ) → reserved ≡ 0 → quota ≡ 0 → leb reserved quota && leb quota blocks && leb held quota ≡ eqb held 0
none_held reserved quota blocks held e f =
    rw (e, f, le-leb 0 blocks (omega arith)) (by_eq held 0
    (λ p. rw (eq-eqb held 0 p, le-leb held 0 (omega (arith, p))))
    (λ p. rw (ne_eqb held 0 p, lt-leb held 0 (omega arith))))

of-missing : (r : Domain) (blocks held opened : ℕ) → r.exists ≡ false → domain_sound blocks held opened r ≡ eqb held 0 && clear r
unfolding domain_sound
of-missing r blocks held opened e = rw (e, and-true) (by_test (clear r)
    (λ q.
    let q4 = both _ (eqb r.last 0) q in
    let q3 = both _ (eqb r.limit 0) q4.0 in
    let q2 = both _ (eqb r.placements 0) q3.0 in
    let q1 = both (eqb r.reserved 0) (eqb r.quota 0) q2.0 in
    ap (λ (c : Bool). c && clear r) (none_held r.reserved r.quota blocks held (eqb-true r.reserved 0 q1.0) (eqb-true r.quota 0 q1.1)))
    (λ q. ap (λ (c : Bool). quota_kept blocks held r && c) q ∙ off (quota_kept blocks held r) ∙ sym (ap (λ (c : Bool). eqb held 0 && c) q ∙ off (eqb held 0))))
  where
    off : (c : Bool) → c && false ≡ false
    off true = refl
    off false = refl

pub returns-else-domain : goal.returns-else-domain
returns-else-domain c = let z = c.args in sym (of-missing z.domain z.blocks z.held z.opened c.if-domain.false)

pub returns-then-quota_kept : goal.returns-then-quota_kept
returns-then-quota_kept c =
    let z = c.args in
    sym (of-existing z.domain z.blocks z.held z.opened c.if-domain.true ∙ rw (sym c.quota_kept.ensures ∙ c.if-quota_kept.true) (sym c.limits_kept.ensures))

pub returns-else-quota_kept : goal.returns-else-quota_kept
returns-else-quota_kept c =
    let z = c.args in
    sym (of-existing z.domain z.blocks z.held z.opened c.if-domain.true ∙ rw (sym c.quota_kept.ensures ∙ c.if-quota_kept.false) (sym c.if-quota_kept.false))
