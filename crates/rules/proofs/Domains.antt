-- What Change Capacity and Delete leave, and the coverage of a domain and those above it.
use Prim.Native.Nat.{ℕ, ◌+◌, ◌-◌, ◌≤◌, ◌<◌, max}
use mathlib.Core.Bool.{false}
use mathlib.Core.Path.{◌≡◌, ap, ap₂, refl}
use native.Mathlib.Omega.{arith}
use borrow.Author.Tests.{ne_eqb}
use Rattle.geometry.proofs.Laws.Shape.{by_test}
use Rattle.geometry.specs.Shape.{planes}
use Rattle.geometry.specs.declared.shape.Planes.{Planes}
use Rattle.model.specs.declared.block.Block.{Block}
use Rattle.model.specs.declared.table.Table.{Table}
use Rattle.rules.specs.Domains.{changed_domain, coverage, coverage_from, deleted_domain, freed_if_held}
use Rattle.rules.specs.Drive.{block_at, clear_domain, domain_at, held_by, held_count, size, with_each_block}
use Rattle.rules.proofs.Counting.{sum_from_next, sum_none, sum_same}
use Rattle.rules.proofs.Drive.{block_changed, block_changed_below, domain_cleared}

-- The quota is not below the guarantee nor below what is held.
pub changed_order : (t : Table) (d : ℕ) (guarantee quota : Planes)
    → let r = changed_domain t d guarantee quota in (r.reserved ≤ r.quota) × (held_count t d ≤ r.quota)
unfolding changed_domain
changed_order t d guarantee quota = (omega arith, omega arith)

-- Two zeros keep a record that is in order.
pub changed_by_zeros : (t : Table) (d : ℕ) → (domain_at t d).reserved ≤ (domain_at t d).quota → held_count t d ≤ (domain_at t d).quota
    → changed_domain t d (planes 0) (planes 0) ≡ domain_at t d
unfolding changed_domain
changed_by_zeros t d order held =
    let r = domain_at t d in
    let quota : max r.quota (max r.reserved (held_count t d)) ≡ r.quota = omega (arith, order, held) in
    λ i. record { exists = r.exists; reserved = r.reserved; quota = quota i; placements = r.placements; limit = r.limit; last = r.last }

-- A deleted domain is clear and holds nothing.
pub deleted_clear : (t : Table) (d : ℕ) → domain_at (deleted_domain d t) d ≡ clear_domain
unfolding deleted_domain
deleted_clear t d = domain_cleared (with_each_block (freed_if_held d) t) d

freed_not_held : (d : ℕ) (b : Block) → 0 < d → held_by d (freed_if_held d b) ≡ false
freed_not_held d b p =
    by_test (held_by d b) (λ e. rw e (ne_eqb 0 d (λ q. omega (arith, p, q)))) (λ e. rw (e, e))

pub deleted_holds_nothing : (t : Table) (d n : ℕ) → 0 < d → n < size t → held_by d (block_at (deleted_domain d t) n) ≡ false
unfolding deleted_domain
deleted_holds_nothing t d n p l =
    rw (block_changed_below (freed_if_held d) t n (rw (ne_eqb 0 d (λ q. omega (arith, p, q)))) l) (freed_not_held d (block_at t n) p)

-- Every other block is as it was.
pub deleted_others : (t : Table) (d n : ℕ) → held_by d (block_at t n) ≡ false → block_at (deleted_domain d t) n ≡ block_at t n
unfolding deleted_domain
deleted_others t d n e =
    block_changed (λ b. b ≡ block_at t n) (freed_if_held d) t n refl (rw e)

-- The coverage of a domain and those above it: nothing above domain 16, ..
pub coverage_begins : (reserved blocks : ℕ → ℕ) → coverage_from 17 reserved blocks ≡ 0
unfolding coverage_from
coverage_begins reserved blocks = sum_none _

-- .. each domain's part more than that of those above it, ..
pub coverage_adds : (d : ℕ) (reserved blocks : ℕ → ℕ) → d ≤ 16
    → coverage_from d reserved blocks ≡ coverage_from (d + 1) reserved blocks + max (reserved d) (blocks d)
unfolding coverage_from
coverage_adds d reserved blocks l = sum_from_next (λ e. max (reserved e) (blocks e)) d 17 (omega (arith, l))

-- .. and from domain 1 on the whole.
pub coverage_total : (reserved blocks : ℕ → ℕ) → coverage_from 1 reserved blocks ≡ coverage reserved blocks
unfolding coverage coverage_from
coverage_total reserved blocks =
    sum_same 16 _ _ (λ i l. ap (λ e. max (reserved e) (blocks e)) (counted_up i))
  where
    counted_up : (i : ℕ) → 1 + i ≡ i + 1
    counted_up i = omega arith

-- It is the same where what is reserved and held is the same.
pub coverage_alike : (d : ℕ) (reserved blocks reserved' blocks' : ℕ → ℕ)
    → ((e : ℕ) → d ≤ e → e ≤ 16 → (reserved e ≡ reserved' e) × (blocks e ≡ blocks' e))
    → coverage_from d reserved blocks ≡ coverage_from d reserved' blocks'
unfolding coverage_from
coverage_alike d reserved blocks reserved' blocks' alike =
    sum_same (17 - d) _ _ (λ i l.
    let same = alike (d + i) (omega arith) (omega (arith, l)) in ap₂ max same.0 same.1)
