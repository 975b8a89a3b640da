-- The chosen block is Free, has the least P/E count, and is the lowest of those; and the choice runs over every Free one.
use Prim.Native.Nat.{ℕ, zero, suc, ◌≤◌, ◌<◌}
use mathlib.Core.Bool.{true, false}
use mathlib.Core.Option.{Option, none, some}
use mathlib.Core.Path.{◌≡◌}
use native.Mathlib.Omega.{arith}
use lib.Dec.{ltb}
use borrow.Author.Tests.{ltb-false, ltb-true}
use Rattle.geometry.proofs.Laws.Shape.{by_test}
use Rattle.model.specs.declared.table.Table.{Table}
use Rattle.rules.specs.Blocks.{better, chosen_to}
use Rattle.rules.specs.Claims.{Chosen}
use Rattle.rules.specs.Drive.{block_at, is_free}
use Rattle.rules.proofs.Counting.{by_eq, clash}

-- What is chosen among so many blocks; nothing is only where none is Free.
abbrev pub Choice : Table → ℕ → Option ℕ → Type 0
Choice t size none = (m : ℕ) → m < size → is_free (block_at t m) ≡ false
Choice t size (some n) = Chosen t size n

-- What holds below n and at n holds below n + 1.
pub below_next : (P : ℕ → Type 0) (n : ℕ) → ((i : ℕ) → i < n → P i) → P n → (i : ℕ) → i < suc n → P i
below_next P n below at i l = by_eq i n (λ e. rw e at) (λ e. below i (omega arith))

-- Block n is not Free, or it is and has not fewer erases: the choice stays.
stays : (t : Table) (n m : ℕ) → Chosen t n m → (is_free (block_at t n) ≡ true → (block_at t m).erases ≤ (block_at t n).erases) → Chosen t (suc n) m
stays t n m c not-fewer = record {
  inside = omega (arith, c.inside);
  free = c.free;
  least = below_next (λ i. is_free (block_at t i) ≡ true → (block_at t m).erases ≤ (block_at t i).erases) n c.least not-fewer;
  lowest = c.lowest;
}

-- Block n is Free and has fewer erases than every Free one below: it is taken.
taken : (t : Table) (n : ℕ) → is_free (block_at t n) ≡ true
    → ((m : ℕ) → m < n → is_free (block_at t m) ≡ true → (block_at t n).erases < (block_at t m).erases)
    → Chosen t (suc n) n
taken t n free fewer = record {
  inside = omega arith;
  free = free;
  least =
      below_next (λ i. is_free (block_at t i) ≡ true → (block_at t n).erases ≤ (block_at t i).erases) n
      (λ i l f. omega (arith, fewer i l f)) (λ f. omega arith);
  lowest = fewer;
}

next : (t : Table) (n : ℕ) (chosen : Option ℕ) → Choice t n chosen → Choice t (suc n) (better t n chosen)
next t n none c =
    by_test (is_free (block_at t n))
    (λ e. rw e (taken t n e (λ m l f. clash (is_free (block_at t m)) f (c m l))))
    (λ e. rw e (below_next (λ i. is_free (block_at t i) ≡ false) n c e))
next t n (some m) c =
    by_test (is_free (block_at t n))
    (λ e. by_test (ltb (block_at t n).erases (block_at t m).erases)
    (λ l. rw (e, l) (taken t n e (λ i k f. omega (arith, ltb-true (block_at t n).erases (block_at t m).erases l, c.least i k f))))
    (λ l. rw (e, l) (stays t n m c (λ f. ltb-false (block_at t n).erases (block_at t m).erases l))))
    (λ e. rw e (stays t n m c (λ f. clash (is_free (block_at t n)) f e)))

pub choice : (t : Table) (size : ℕ) → Choice t size (chosen_to t size)
unfolding chosen_to
choice t zero = λ m l. absurd (omega arith)
choice t (suc n) = next t n (chosen_to t n) (choice t n)
