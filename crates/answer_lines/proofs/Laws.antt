-- What the number of a list's descriptors means, and that printed numbers are read back.
use Prim.Native.Nat.{ℕ, zero, suc, ◌+◌, ◌*◌, ◌≤◌, ◌<◌}
use mathlib.Core.Bool.{false, true}
use mathlib.Core.List.{List, ◌++◌}
use mathlib.Core.Path.{◌≡◌, refl, ◌∙◌}
use native.Mathlib.Omega.{arith}
use lib.ListN.{drop}
use lib.Seq.{drop-drop}
use Rattle.script_lines.specs.Numbers.{number_of}
use Rattle.script_lines.specs.Words.{ascii}
use Rattle.std.proofs.Common.{Some}
use Rattle.answer_lines.specs.Texts.{decimal, descriptor_count, hex_word, is_end_mark}
use Rattle.answer_lines.proofs.ReadBack.{decimal_read, digits_read, number_decimal}

-- The groups behind the first are those of the rest.
behind_first : (i : ℕ) (bytes : List ℕ) → drop (8 * i) (drop 8 bytes) ≡ drop (8 * suc i) bytes
behind_first i bytes = let e : 8 + 8 * i ≡ 8 * suc i = omega arith in drop-drop (8 * i) 8 bytes ∙ rw e

-- The first group that is an end mark is counted, and so is every group before it.
pub counted_to_end_mark : (n most : ℕ) (bytes : List ℕ) → n < most
    → ((i : ℕ) → i < n → is_end_mark (drop (8 * i) bytes) ≡ false)
    → is_end_mark (drop (8 * n) bytes) ≡ true
    → descriptor_count most bytes ≡ n + 1
unfolding descriptor_count
counted_to_end_mark n zero bytes l before here = absurd (omega arith)
counted_to_end_mark zero (suc most) bytes l before here = rw here
counted_to_end_mark (suc n) (suc most) bytes l before here =
    let rest = counted_to_end_mark n most (drop 8 bytes) (omega arith)
    (λ i k. rw (behind_first i bytes) (before (suc i) (omega arith))) (rw (behind_first n bytes) here) in
    rw (before 0 (omega arith)) (omega arith)

-- Without an end mark every group is counted.
pub counted_all : (most : ℕ) (bytes : List ℕ) → ((i : ℕ) → i < most → is_end_mark (drop (8 * i) bytes) ≡ false)
    → descriptor_count most bytes ≡ most
unfolding descriptor_count
counted_all zero bytes none = refl
counted_all (suc most) bytes none =
    rw (none 0 (omega arith), counted_all most (drop 8 bytes) (λ i k. rw (behind_first i bytes) (none (suc i) (omega arith))))

-- A decimal number that is printed is read back as itself.
pub decimal_read_back : (n : ℕ) → n ≤ 18446744073709551615 → number_of (decimal n) ≡ Some n
decimal_read_back n h = number_decimal n (decimal n) (decimal_read 19 n (omega arith) h)

-- So is a word behind 0x.
pub word_read_back : (n : ℕ) → n ≤ 18446744073709551615 → number_of (ascii "0x" ++ hex_word n) ≡ Some n
word_read_back n h = digits_read 16 (omega arith) (omega arith) 15 n (omega arith) h
