-- What stands in a row of which a part was overwritten.
use Prim.Native.Nat.{ℕ, zero, suc, ◌+◌, ◌≤◌, ◌<◌}
use mathlib.Core.List.{List, [], ◌∷◌, ◌++◌}
use mathlib.Core.Path.{◌≡◌, refl}
use native.Mathlib.Nat.{suc-add, zero-add}
use native.Mathlib.Omega.{arith}
use lib.ListN.{drop, get_or, length, length-append, length-drop, length-take, get_or-append, get_or-eq_default}
use Rattle.rules.specs.Drive.{overwritten}

pub length_overwritten : (at : ℕ) (new row : List ℕ) → at + length new ≤ length row → length (overwritten at new row) ≡ length row
unfolding overwritten
length_overwritten at new row l = simp (length-append, length-take, length-drop) (omega (arith, l))

-- The new entries, ..
pub entry_new : (at i : ℕ) (new row : List ℕ) → at ≤ length row → i < length new → get_or (overwritten at new row) (at + i) 0 ≡ get_or new i 0
unfolding overwritten
entry_new zero i new row l k = rw zero-add (get_or-append new (drop (length new) row) 0 i k)
entry_new (suc at) i new [] l k = absurd (omega (arith, l))
entry_new (suc at) i new (x ∷ row) l k = rw (suc-add at i) (entry_new at i new row (omega (arith, l)) k)

-- .. those before them, ..
pub entry_before : (at i : ℕ) (new row : List ℕ) → at ≤ length row → i < at → get_or (overwritten at new row) i 0 ≡ get_or row i 0
unfolding overwritten
entry_before zero i new row l k = absurd (omega (arith, k))
entry_before (suc at) i new [] l k = absurd (omega (arith, l))
entry_before (suc at) zero new (x ∷ row) l k = refl
entry_before (suc at) (suc i) new (x ∷ row) l k = entry_before at i new row (omega (arith, l)) (omega (arith, k))

-- .. and those behind them.
behind_front : (new row : List ℕ) (i : ℕ) → length new ≤ i → get_or (new ++ drop (length new) row) i 0 ≡ get_or row i 0
behind_front [] row i l = refl
behind_front (x ∷ new) row zero l = absurd (omega (arith, l))
behind_front (x ∷ new) [] (suc i) l = get_or-eq_default (new ++ []) 0 (simp length-append (omega (arith, l)))
behind_front (x ∷ new) (y ∷ row) (suc i) l = behind_front new row i (omega (arith, l))

pub entry_behind : (at i : ℕ) (new row : List ℕ) → at ≤ length row → at + length new ≤ i → get_or (overwritten at new row) i 0 ≡ get_or row i 0
unfolding overwritten
entry_behind zero i new row l k = behind_front new row i (omega (arith, k))
entry_behind (suc at) i new [] l k = absurd (omega (arith, l))
entry_behind (suc at) zero new (x ∷ row) l k = absurd (omega (arith, k))
entry_behind (suc at) (suc i) new (x ∷ row) l k = entry_behind at i new row (omega (arith, l)) (omega (arith, k))
