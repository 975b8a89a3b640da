-- Rows that are filled from the front, and the parts of a row that are handed on.
use Prim.Native.Nat.{ℕ, zero, suc, ◌+◌, ◌-◌, ◌/◌, ◌%◌, ◌≤◌, ◌<◌}
use mathlib.Core.List.{List, ◌++◌, append-nil}
use mathlib.Core.Path.{◌≡◌, refl, sym, ap, ◌∙◌}
use native.Mathlib.Numerals.{add-one}
use native.Mathlib.Omega.{arith}
use lib.ListN.{drop, get_or, length, length-drop, length-take, set, take}
use lib.Seq.{append_snoc, drop-cons, length-take-le, set_at, take_all, take-suc, take-suc-set}
use Rattle.geometry.specs.Bytes.{little_endian}
use Rattle.rules.specs.Counting.{row_to}
use Rattle.rules.specs.Drive.{overwritten}
use Rattle.rules.proofs.Counting.{length_row}

-- At first nothing is filled in.
pub row_none : (f : ℕ → ℕ) (part : List ℕ) → part ≡ row_to f 0 ++ drop 0 part
unfolding row_to
row_none f part = refl

-- One entry more, behind the first n.
pub row_more : (f : ℕ → ℕ) (part : List ℕ) (n : ℕ) → n < length part
    → set (row_to f n ++ drop n part) n (f n) ≡ row_to f (n + 1) ++ drop (n + 1) part
unfolding row_to
row_more f part n l =
    rw (add-one, drop-cons part n 0 l, set_at (row_to f n) (get_or part n 0) (drop (suc n) part) (f n) n (length_row f n))
    (sym (append_snoc (row_to f n) (f n) (drop (suc n) part)))

-- One entry more is copied.
pub copy_more : (from part : List ℕ) (n : ℕ) → n < length from → n < length part
    → set (take n from ++ drop n part) n (get_or from n 0) ≡ take (n + 1) from ++ drop (n + 1) part
copy_more from part n l k =
    rw (
      add-one,
      drop-cons part n 0 k,
      take-suc from n 0 l,
      set_at (take n from) (get_or part n 0) (drop (suc n) part) (get_or from n 0) n (length-take-le n from (omega arith)),
    )
    (sym (append_snoc (take n from) (get_or from n 0) (drop (suc n) part)))

-- In the end all of them are, and what stands behind them is as it was.
pub copied_all : (from part : List ℕ) (n : ℕ) → n ≡ length from → take n from ++ drop n part ≡ overwritten 0 from part
unfolding overwritten
copied_all from part n e = rw (e, take_all (length from) from (omega arith)) refl

-- One byte more: the first of those that are left joins those that stand.
pub byte_more : (k n i rest : ℕ) (part : List ℕ) → i < length part → length part ≡ k
    → little_endian k n ≡ take i part ++ little_endian (k - i) rest
    → little_endian k n ≡ take (i + 1) (set part i (rest % 256)) ++ little_endian (k - (i + 1)) (rest / 256)
unfolding little_endian
byte_more k n i rest part l long e =
    let left : k - i ≡ suc (k - (i + 1)) = omega arith in
    e
    ∙ rw (left, add-one, take-suc-set part i (rest % 256) l)
    (sym (append_snoc (take i part) (rest % 256) (little_endian (k - suc i) (rest / 256))))

-- In the end none are left.
pub bytes_all : (k n i rest : ℕ) (part : List ℕ) → length part ≡ k → i ≡ k
    → little_endian k n ≡ take i part ++ little_endian (k - i) rest → part ≡ little_endian k n
unfolding little_endian
bytes_all k n i rest part long all e =
    let none : k - i ≡ 0 = omega arith in sym (e ∙ rw (none, take_all i part (omega arith)) (append-nil part))

-- So many bytes.
pub length_bytes : (k n : ℕ) → length (little_endian k n) ≡ k
unfolding little_endian
length_bytes zero n = refl
length_bytes (suc k) n = ap suc (length_bytes k (n / 256))

-- A part of so many entries has so many, its end given ..
pub length_part : (row : List ℕ) (at count : ℕ) → at + count ≤ length row → length (take (at + count - at) (drop at row)) ≡ count
length_part row at count l = simp (length-take, length-drop) (omega arith)

-- .. or their number.
pub length_stretch : (row : List ℕ) (at count : ℕ) → at + count ≤ length row → length (take count (drop at row)) ≡ count
length_stretch row at count l = simp (length-take, length-drop) (omega arith)

-- From a place to a place so many behind it there are so many.
pub part_end : (at count : ℕ) → at + count - at ≡ count
part_end at count = omega arith
