-- Where coverage leaves room a block is Free, since otherwise the domains would hold them all.
use Prim.Native.Nat.{ℕ, ◌+◌, ◌-◌, ◌≤◌, ◌<◌, max}
use mathlib.Core.Bool.{false, cond}
use mathlib.Core.Option.{Option, none, some}
use mathlib.Core.Path.{◌≡◌, refl}
use native.Mathlib.Omega.{arith}
use lib.Dec.{eqb}
use borrow.Author.Tests.{eq-eqb, eqb-true}
use Rattle.geometry.proofs.Laws.Shape.{by_test}
use Rattle.rules.specs.Blocks.{chosen_block}
use Rattle.rules.specs.Counting.{sum_to}
use Rattle.rules.specs.Domains.{coverage, instead, reserved_by}
use Rattle.rules.specs.Drive.{Drive, block_at, domain_at, held_by, held_count, is_free, size}
use Rattle.rules.proofs.Blocks.{Choice, choice}
use Rattle.rules.proofs.Counting.{sum_add, sum_le, sum_least, sum_swap, sum_term}
use Rattle.rules.proofs.Kept.Facts.{Facts, coverage_with}
use Rattle.rules.proofs.Kept.Tested.{owned_by}

-- Where no block is Free, the domains hold them all.
all_held : (v : Drive) → Facts v → ((n : ℕ) → n < size v.table → is_free (block_at v.table n) ≡ false)
    → size v.table ≤ sum_to (λ i. held_count v.table (i + 1)) 16
unfolding held_count
all_held v f taken =
    let t = v.table in
    let holds : ℕ → ℕ → ℕ = λ n i. cond (held_by (i + 1) (block_at t n)) 1 0 in
    omega (
      arith,
      sum_least (size t) (λ n. sum_to (holds n) 16) (λ n l.
          let o = owned_by t (block_at t n) (f.blocks n l) (taken n l) in
          let d = (block_at t n).holder in
          let one : holds n (d - 1) ≡ 1 = rw (eq-eqb d (d - 1 + 1) (omega (arith, o.low))) in
          omega (arith, one, sum_term 16 (holds n) (d - 1) (omega (arith, o.low, o.high)))),
      sum_swap (size t) 16 holds,
    )

-- With k blocks more for a domain the coverage is at least k more than what the domains hold.
covers_more : (reserved held : ℕ → ℕ) (d r k : ℕ) → 1 ≤ d → d ≤ 16
    → sum_to (λ i. held (i + 1)) 16 + k ≤ coverage (instead d r reserved) (instead d (held d + k) held)
unfolding coverage
covers_more reserved held d r k low high =
    let more : ℕ → ℕ = λ i. cond (eqb (i + 1) d) k 0 in
    let covered : ℕ → ℕ = λ i. max (instead d r reserved (i + 1)) (instead d (held d + k) held (i + 1)) in
    let whole : more (d - 1) ≡ k = rw (eq-eqb (d - 1 + 1) d (omega arith)) in
    omega (
      arith,
      whole,
      sum_term 16 more (d - 1) (omega arith),
      sum_add 16 (λ i. held (i + 1)) more,
      sum_le 16 (λ i. held (i + 1) + more i) covered (λ i l.
          by_test (eqb (i + 1) d)
          (λ e. rw (e, eqb-true (i + 1) d e) (omega arith))
          (λ e. rw e (omega arith))),
    )

-- Where coverage holds with more blocks for a domain than it holds, some block is Free, so that one is chosen.
pub room_chosen : (v : Drive) (d k : ℕ) → Facts v → 1 ≤ d → d ≤ 16
    → coverage_with v.table d (held_count v.table d + k) ≤ size v.table
    → 1 ≤ k
    → (n : ℕ) × (chosen_block v.table ≡ some n)
room_chosen v d k f low high covers some-room =
    go (chosen_block v.table) (choice v.table (size v.table))
  where
    go : (chosen : Option ℕ) → Choice v.table (size v.table) chosen → (n : ℕ) × (chosen ≡ some n)
    go none c =
        absurd (omega (
          arith,
          covers,
          some-room,
          all_held v f c,
          covers_more (reserved_by v.table) (held_count v.table) d (domain_at v.table d).reserved k low high,
        ))
    go (some n) c = (n, refl)
