-- A list whose first bytes are numbers, as bytes and numbers are put into it one after the other.
use Prim.Native.Nat.{ℕ, ◌+◌, ◌*◌, ◌≤◌, ◌<◌}
use mathlib.Core.List.{List, [], ◌∷◌, ◌++◌, append_assoc, append-nil}
use mathlib.Core.Path.{◌≡◌, refl, sym, ap, ◌∙◌}
use native.Mathlib.Numerals.{add-one}
use native.Mathlib.Omega.{arith}
use lib.ListN.{drop, get_or, length, length-append, take}
use lib.Seq.{drop_at, drop-drop, length-take-le, take_at, take-suc}
use borrow.Rule.Slice.PartMut.{put_mid}
use native.Mathlib.Nat.{div-div-eq-div-mul}
use Rattle.std.specs.Int.{to_le_bytes, w64}
use Rattle.geometry.specs.Bytes.{little_endian, numbers}

pub length_number : (n : ℕ) → length (little_endian 8 n) ≡ 8
unfolding little_endian
length_number n = refl

pub length_numbers : (ns : List ℕ) → length (numbers ns) ≡ 8 * length ns
unfolding numbers
length_numbers [] = refl
length_numbers (n ∷ ns) = simp length-append (omega (arith, length_number n, length_numbers ns))

numbers_append : (ns ms : List ℕ) → numbers (ns ++ ms) ≡ numbers ns ++ numbers ms
unfolding numbers
numbers_append [] ms = refl
numbers_append (n ∷ ns) ms = rw (numbers_append ns ms) (sym (append_assoc (little_endian 8 n) (numbers ns) (numbers ms)))

-- the library's bytes of a number
pub eight_bytes : (n : ℕ) → to_le_bytes w64 n ≡ little_endian 8 n
unfolding little_endian
eight_bytes n = simp div-div-eq-div-mul

-- The first i numbers, and then the buffer as it was.
abbrev pub filled_to : List ℕ → ℕ → List ℕ → List ℕ
filled_to ns i out = numbers (take i ns) ++ drop (8 * i) out

length_first : (ns : List ℕ) (i : ℕ) → i ≤ length ns → length (numbers (take i ns)) ≡ 8 * i
length_first ns i h = length_numbers (take i ns) ∙ ap (λ (k : ℕ). 8 * k) (length-take-le i ns h)

-- the number at i, put in behind them
pub one_more : (ns : List ℕ) (i : ℕ) (out : List ℕ) → i < length ns
    → put_mid (8 * i) 8 (filled_to ns i out) (little_endian 8 (get_or ns i 0)) ≡ filled_to ns (i + 1) out
unfolding numbers
one_more ns i out h =
    let long : length (numbers (take i ns)) ≡ 8 * i = length_first ns i (omega arith) in
    let next : 8 * i + 8 ≡ 8 * (i + 1) = omega arith in
    rw (take_at (numbers (take i ns)) (drop (8 * i) out) (8 * i) long, drop_at (numbers (take i ns)) (drop (8 * i) out) (8 * i) long, drop-drop 8 (8 * i) out, next)
    (rw (add-one, take-suc ns i 0, numbers_append, append-nil, append_assoc))
