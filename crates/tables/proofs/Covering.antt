-- The coverage rule with other numbers for one domain, from the sum as it stands.
use Prim.Native.Nat.{ℕ, ◌+◌, ◌-◌, ◌≤◌, max}
use mathlib.Core.Bool.{true}
use mathlib.Core.Path.{◌≡◌, sym, ◌∙◌}
use native.Mathlib.Omega.{arith}
use lib.Dec.{leb}
use borrow.Author.Tests.{eq-eqb, le-leb, leb-false, leb-true, lt-leb, ne_eqb}
use Rattle.geometry.proofs.Laws.Shape.{by_test, is_between}
use Rattle.geometry.specs.Address.{is_domain_id}
use Rattle.model.specs.declared.table.Table.{Table}
use Rattle.rules.proofs.Counting.{sum_at}
use Rattle.rules.specs.Domains.{coverage, covered_with, instead, reserved_by}
use Rattle.rules.specs.Drive.{held_count, size}

-- The domain's own part of the sum is replaced.
replaced : (d reserved blocks : ℕ) (r h : ℕ → ℕ) → 1 ≤ d → d ≤ 16
    → coverage (instead d reserved r) (instead d blocks h) + max (r d) (h d) ≡ coverage r h + max reserved blocks
unfolding coverage
replaced d reserved blocks r h l m =
    let k = d - 1 in
    let back : k + 1 ≡ d = omega arith in
    let f : ℕ → ℕ = λ i. max (instead d reserved r (i + 1)) (instead d blocks h (i + 1)) in
    let e = sum_at 16 f (λ i. max (r (i + 1)) (h (i + 1))) k (omega arith)
    (λ i q other. rw (ne_eqb (i + 1) d (λ (p : i + 1 ≡ d). other (omega arith)))) in
    rw (back, eq-eqb d d (omega arith)) at e

-- A sum is within bounds where it is with as much on both sides.
shifted : (a b s x y : ℕ) → a + x ≡ b + y → leb (b + y) (s + x) ≡ leb a s
shifted a b s x y e =
    by_test (leb a s)
    (λ h. le-leb (b + y) (s + x) (omega (arith, leb-true a s h)) ∙ sym h)
    (λ h. lt-leb (b + y) (s + x) (omega (arith, leb-false a s h)) ∙ sym h)

pub covered_instead : (t : Table) (d reserved blocks : ℕ) → is_domain_id d ≡ true
    → leb (coverage (reserved_by t) (held_count t) + max reserved blocks) (size t + max (reserved_by t d) (held_count t d))
    ≡ covered_with t d reserved blocks
covered_instead t d reserved blocks e =
    let id = is_between 1 16 d e in
    shifted
    (coverage (instead d reserved (reserved_by t)) (instead d blocks (held_count t)))
    (coverage (reserved_by t) (held_count t))
    (size t)
    (max (reserved_by t d) (held_count t d))
    (max reserved blocks)
    (replaced d reserved blocks (reserved_by t) (held_count t) id.least id.most)
