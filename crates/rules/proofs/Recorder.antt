-- The block that the recorder frees is Closed and has the least serial of those; and what making room leaves as it was.
use Prim.Native.Nat.{ℕ, zero, suc, ◌≤◌, ◌<◌}
use mathlib.Core.Bool.{true, false}
use mathlib.Core.Option.{Option, none, some}
use mathlib.Core.Path.{◌≡◌, refl}
use native.Mathlib.Omega.{arith}
use lib.Dec.{ltb}
use borrow.Author.Tests.{ltb-false, ltb-true}
use Rattle.geometry.proofs.Laws.Shape.{by_test}
use Rattle.model.specs.declared.table.Table.{Table}
use Rattle.rules.specs.Calls.{Lengths}
use Rattle.rules.specs.Claims.{Oldest}
use Rattle.rules.specs.Drive.{Drive, block_at, closed_of, size}
use Rattle.rules.specs.Recorder.{freed_if_any, gets_thirteen, older, oldest_closed, oldest_to, after_freeing}
use Rattle.rules.proofs.Blocks.{below_next}
use Rattle.rules.proofs.Counting.{clash}

-- ---- The oldest Closed block

-- What is found; nothing is only where none is Closed.
abbrev pub OldestOf : Table → ℕ → ℕ → Option ℕ → Type 0
OldestOf t d among none = (m : ℕ) → m < among → closed_of d (block_at t m) ≡ false
OldestOf t d among (some n) = Oldest t d among n

module _ (t : Table) (d n : ℕ) where
  stays : (m : ℕ) → Oldest t d n m → (closed_of d (block_at t n) ≡ true → (block_at t m).serial ≤ (block_at t n).serial) → Oldest t d (suc n) m
  stays m o not-less = record {
    inside = omega (arith, o.inside);
    closed = o.closed;
    least = below_next (λ i. closed_of d (block_at t i) ≡ true → (block_at t m).serial ≤ (block_at t i).serial) n o.least not-less;
  }

  taken : closed_of d (block_at t n) ≡ true
      → ((m : ℕ) → m < n → closed_of d (block_at t m) ≡ true → (block_at t n).serial ≤ (block_at t m).serial)
      → Oldest t d (suc n) n
  taken closed less = record {
    inside = omega arith;
    closed = closed;
    least = below_next (λ i. closed_of d (block_at t i) ≡ true → (block_at t n).serial ≤ (block_at t i).serial) n less (λ e. omega arith);
  }

  next : (found : Option ℕ) → OldestOf t d n found → OldestOf t d (suc n) (older t d n found)
  next none o =
      by_test (closed_of d (block_at t n))
      (λ e. rw e (taken e (λ m l f. clash (closed_of d (block_at t m)) f (o m l))))
      (λ e. rw e (below_next (λ i. closed_of d (block_at t i) ≡ false) n o e))
  next (some m) o =
      by_test (closed_of d (block_at t n))
      (λ e. by_test (ltb (block_at t n).serial (block_at t m).serial)
      (λ l. rw (e, l) (taken e (λ i k f. omega (arith, ltb-true (block_at t n).serial (block_at t m).serial l, o.least i k f))))
      (λ l. rw (e, l) (stays m o (λ f. ltb-false (block_at t n).serial (block_at t m).serial l))))
      (λ e. rw e (stays m o (λ f. clash (closed_of d (block_at t n)) f e)))

pub oldest : (t : Table) (d among : ℕ) → OldestOf t d among (oldest_to t d among)
unfolding oldest_to
oldest t d zero = λ m l. absurd (omega arith)
oldest t d (suc n) = next t d n (oldest_to t d n) (oldest t d n)

-- Where none is Closed, nothing is found.
pub none_oldest : (t : Table) (d : ℕ) → ((n : ℕ) → n < size t → closed_of d (block_at t n) ≡ false) → oldest_closed t d ≡ none
none_oldest t d nothing = is_none (oldest_closed t d) (oldest t d (size t))
  where
    is_none : (found : Option ℕ) → OldestOf t d (size t) found → found ≡ none
    is_none none o = refl
    is_none (some n) o = clash (closed_of d (block_at t n)) o.closed (nothing n o.inside)

-- ---- Making room

-- The drive with room is the drive as it was, or one in which that block is freed.
module _ (d sample : ℕ) (v : Drive) (lent : Lengths) (P : Drive → Type 0) where
  freed_or_not : (found : Option ℕ) → OldestOf v.table d (size v.table) found → P v
      → ((n : ℕ) → Oldest v.table d (size v.table) n → P (freed_if_any (some n) v))
      → P (freed_if_any found v)
  freed_or_not none o same freed = same
  freed_or_not (some n) o same freed = freed n o

  pub by_room : P v → ((n : ℕ) → Oldest v.table d (size v.table) n → P (freed_if_any (some n) v)) → P (after_freeing d sample v lent)
  unfolding after_freeing
  by_room same freed =
      by_test (gets_thirteen d sample v lent)
      (λ e. rw e (freed_or_not (oldest_closed v.table d) (oldest v.table d (size v.table)) same freed))
      (λ e. rw e same)
