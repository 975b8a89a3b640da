-- Rows that are copied in part.
use Prim.Native.Nat.{ℕ, ◌+◌, ◌-◌, ◌≤◌}
use mathlib.Core.List.{List}
use mathlib.Core.Path.{◌≡◌}
use native.Mathlib.Omega.{arith}
use lib.ListN.{drop, length, length-drop, length-take, take}

-- A part of so many entries has so many.
pub length_stretch : (row : List ℕ) (at count : ℕ) → at + count ≤ length row → length (take count (drop at row)) ≡ count
length_stretch row at count l = simp (length-take, length-drop) (omega arith)

-- From a place to a place so many behind it there are so many.
pub part_end : (at count : ℕ) → at + count - at ≡ count
part_end at count = omega arith
