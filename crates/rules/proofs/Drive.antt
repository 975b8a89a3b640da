-- What is found in a drive in which something was replaced.
use Prim.Native.Nat.{ℕ, zero, suc, ◌+◌, ◌-◌, ◌<◌, ◌≤◌}
use mathlib.Core.List.{List, [], ◌∷◌, ◌++◌, append_assoc, map}
use mathlib.Core.Path.{◌≡◌, refl, sym, ap}
use native.Mathlib.Nat.{suc-add, zero-add}
use native.Mathlib.Omega.{arith}
use lib.ListN.{drop, get_or, length, length-append, replicate, set, take}
use lib.Seq.{drop-append_seam, drop-drop, get_or-set_other, take-append_seam}
use Rattle.model.specs.declared.block.Block.{Block}
use Rattle.model.specs.declared.table.Domain.{Domain}
use Rattle.model.specs.declared.table.Table.{Table}
use Rattle.rules.specs.Drive.{block_at, clear_block, clear_domain, domain_at, overwritten, size, with_block, with_domain, with_each_block}

-- A list of one value, read with that value as the default.
pub get_replicate : {A : Type 0} (k n : ℕ) (a : A) → get_or (replicate k a) n a ≡ a
get_replicate zero n a = refl
get_replicate (suc k) zero a = refl
get_replicate (suc k) (suc n) a = get_replicate k n a

-- What holds of the old entry, and of the new one where it is set, holds of the entry that is found.
get_set : {A : Type 0} (P : A → Type 0) (l : List A) (n m : ℕ) (a d : A) → P (get_or l m d) → (m ≡ n → P a) → P (get_or (set l n a) m d)
get_set P [] n m a d old new = old
get_set P (x ∷ l) zero zero a d old new = new refl
get_set P (x ∷ l) zero (suc m) a d old new = old
get_set P (x ∷ l) (suc n) zero a d old new = old
get_set P (x ∷ l) (suc n) (suc m) a d old new = get_set P l n m a d old (λ e. new (omega (arith, e)))

-- The same where the first k are changed.
get_changed : {A : Type 0} (P : A → Type 0) (change : A → A) (k : ℕ) (l : List A) (m : ℕ) (d : A)
    → P (get_or l m d) → P (change (get_or l m d)) → P (get_or (map change (take k l) ++ drop k l) m d)
get_changed P change zero l m d old new = old
get_changed P change (suc k) [] m d old new = old
get_changed P change (suc k) (x ∷ l) zero d old new = new
get_changed P change (suc k) (x ∷ l) (suc m) d old new = get_changed P change k l m d old new

-- Below k it is the change of the old entry, where the change leaves the default alone.
get_changed_below : {A : Type 0} (change : A → A) (k : ℕ) (l : List A) (m : ℕ) (d : A)
    → change d ≡ d → m < k → get_or (map change (take k l) ++ drop k l) m d ≡ change (get_or l m d)
get_changed_below change zero l m d e p = absurd (omega (arith, p))
get_changed_below change (suc k) [] m d e p = sym e
get_changed_below change (suc k) (x ∷ l) zero d e p = refl
get_changed_below change (suc k) (x ∷ l) (suc m) d e p = get_changed_below change k l m d e (omega (arith, p))

-- Setting an entry to the default makes it the default, inside the list or not.
get_set_default : {A : Type 0} (l : List A) (n : ℕ) (d : A) → get_or (set l n d) n d ≡ d
get_set_default [] n d = refl
get_set_default (x ∷ l) zero d = refl
get_set_default (x ∷ l) (suc n) d = get_set_default l n d

pub block_set : (P : Block → Type 0) (t : Table) (n m : ℕ) (b : Block)
    → P (block_at t m) → (m ≡ n → P b) → P (block_at (with_block n b t) m)
block_set P t n m b old new = get_set P t.blocks n m b clear_block old new

pub block_changed : (P : Block → Type 0) (change : Block → Block) (t : Table) (m : ℕ)
    → P (block_at t m) → P (change (block_at t m)) → P (block_at (with_each_block change t) m)
block_changed P change t m old new = get_changed P change t.config.blocks t.blocks m clear_block old new

pub block_changed_below : (change : Block → Block) (t : Table) (n : ℕ) → change clear_block ≡ clear_block → n < size t
    → block_at (with_each_block change t) n ≡ change (block_at t n)
block_changed_below change t n e l = get_changed_below change (size t) t.blocks n clear_block e l

pub domain_cleared : (t : Table) (d : ℕ) → domain_at (with_domain d clear_domain t) d ≡ clear_domain
domain_cleared t d = get_set_default t.domains (d - 1) clear_domain

pub domain_set : (P : Domain → Type 0) (t : Table) (d : ℕ) (r : Domain) → P (domain_at t d) → P r → P (domain_at (with_domain d r t) d)
domain_set P t d r old new = get_set P t.domains (d - 1) (d - 1) r clear_domain old (λ e. new)

-- Another domain's record is as it was.
pub domain_other : (t : Table) (d e : ℕ) (r : Domain) → 0 < d → 0 < e → ¬ (d ≡ e) → domain_at (with_domain d r t) e ≡ domain_at t e
domain_other t d e r p q ne = get_or-set_other t.domains (d - 1) (e - 1) r clear_domain (λ same. ne (omega (arith, same)))

-- Nothing new at the front changes nothing.
pub overwritten_nothing : (row : List ℕ) → overwritten 0 [] row ≡ row
unfolding overwritten
overwritten_nothing row = refl

-- Two rows that are filled in one behind the other are filled in as one.
pub fill_then : (at : ℕ) (new more row : List ℕ) → at ≤ length row
    → overwritten (at + length new) more (overwritten at new row) ≡ overwritten at (new ++ more) row
unfolding overwritten
fill_then zero new more row l =
    rw (zero-add, take-append_seam new (drop (length new) row), drop-append_seam new (drop (length new) row), length-append, drop-drop)
    (sym (append_assoc new more (drop (length new + length more) row)))
fill_then (suc at) new more [] l = absurd (omega (arith, l))
fill_then (suc at) new more (y ∷ row) l =
    rw (suc-add at (length new)) (ap (λ (r : List ℕ). y ∷ r) (fill_then at new more row (omega (arith, l))))
