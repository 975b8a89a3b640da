-- The user addresses of a write, cut in two: those that a block takes, and those that follow.
use Prim.Native.Nat.{ℕ, ◌+◌, ◌-◌, ◌^◌, ◌≤◌, ◌<◌, min}
use mathlib.Core.Bool.{true, false, not}
use mathlib.Core.Path.{◌≡◌, sym, ap, ◌∙◌}
use native.Mathlib.Nat.{add_assoc}
use native.Mathlib.Omega.{arith}
use lib.Dec.{eqb, leb}
use lib.ListN.{drop, length, length-drop, length-take, take}
use lib.Seq.{ext_get_or, get_or-drop, get_or-take}
use borrow.Author.Tests.{le-leb, leb-true, not-true}
use Rattle.buffers.proofs.UserAddresses.{each_fits, fits_at, ones_address, plain_address}
use Rattle.geometry.proofs.Laws.Shape.{both, by_test}
use Rattle.rules.proofs.Counting.{each_all, get_row, length_row}
use Rattle.rules.specs.Blocks.{all_ones, lba, user_address, user_addresses}
use Rattle.rules.specs.Counting.{row_to}
use Rattle.rules.specs.Questions.{user_addresses_fit}

-- The front of a row is a row, ..
row_front : (f : ℕ → ℕ) (n k : ℕ) → take k (row_to f n) ≡ row_to f (min n k)
row_front f n k =
    let long : length (take k (row_to f n)) ≡ min n k = rw (length-take, length_row) (omega arith) in
    ext_get_or 0 (take k (row_to f n)) (row_to f (min n k)) (long ∙ sym (length_row f (min n k)))
    (λ i l. get_or-take k (row_to f n) i 0 (omega (arith, l, long))
    ∙ get_row f n i (omega (arith, l, long))
    ∙ sym (get_row f (min n k) i (omega (arith, l, long))))

-- .. and so is what stands behind it.
row_behind : (f g : ℕ → ℕ) (n k : ℕ) → ((i : ℕ) → i < n - k → f (k + i) ≡ g i) → drop k (row_to f n) ≡ row_to g (n - k)
row_behind f g n k same =
    let long : length (drop k (row_to f n)) ≡ n - k = rw (length-drop, length_row) in
    ext_get_or 0 (drop k (row_to f n)) (row_to g (n - k)) (long ∙ sym (length_row g (n - k)))
    (λ i l. get_or-drop k (row_to f n) i 0
    ∙ get_row f n (k + i) (omega (arith, l, long))
    ∙ same i (omega (arith, l, long))
    ∙ sym (get_row g (n - k) i (omega (arith, l, long))))

-- Where they fit and the start is not all ones, no LBA passes 2 ^ 40 − 1 and no address is all ones.
each_plain : (start count i : ℕ) → eqb start all_ones ≡ false → user_addresses_fit start count ≡ true → i < count
    → (lba start + i ≤ 2 ^ 40 - 1) × (eqb (start + i) all_ones ≡ false)
each_plain start count i e f l =
    let h = both (leb (lba start + i) (2 ^ 40 - 1)) (not (eqb (user_address start i) all_ones)) (each_fits start count i e f l) in
    let other = not-true (eqb (user_address start i) all_ones) h.1 in
    (leb-true (lba start + i) (2 ^ 40 - 1) h.0, rw (plain_address start i e) at other)

-- The addresses from a later one on are the later addresses, ..
later_address : (start count put i : ℕ) → user_addresses_fit start count ≡ true → put + i < count
    → user_address start (put + i) ≡ user_address (user_address start put) i
later_address start count put i f l =
    by_test (eqb start all_ones)
    (λ e. ones_address start (put + i) e
    ∙ sym (ones_address start i e)
    ∙ ap (λ (u : ℕ). user_address u i) (sym (ones_address start put e)))
    (λ e. plain_address start (put + i) e
    ∙ sym (add_assoc start put i)
    ∙ sym (plain_address (start + put) i (each_plain start count put e f (omega (arith, l))).1)
    ∙ ap (λ (u : ℕ). user_address u i) (sym (plain_address start put e)))

-- .. and fit as those do.
later_fits : (start count put i : ℕ) → eqb start all_ones ≡ false → user_addresses_fit start count ≡ true → put + i < count
    → eqb (start + put) all_ones ≡ false → fits_at (start + put) i ≡ true
later_fits start count put i e f l q =
    let h = each_plain start count (put + i) e f l in
    let low : lba (start + put) + i ≤ 2 ^ 40 - 1 = omega (arith, h.0) in
    rw (plain_address (start + put) i q, add_assoc start put i, h.1, le-leb (lba (start + put) + i) (2 ^ 40 - 1) low)

pub later_fit : (start count put : ℕ) → user_addresses_fit start count ≡ true
    → user_addresses_fit (user_address start put) (count - put) ≡ true
unfolding user_addresses_fit
later_fit start count put f =
    by_test (eqb start all_ones)
    (λ e. rw (ones_address start put e, e))
    (λ e. rw (plain_address start put e)
    (by_test (eqb (start + put) all_ones)
    (λ q. rw q)
    (λ q. rw q (each_all (count - put) (fits_at (start + put)) (λ i l. later_fits start count put i e f (omega (arith, l)) q)))))

-- What a block of k ADUs takes of them, ..
pub users_taken : (start count k : ℕ) → take k (user_addresses start count) ≡ user_addresses start (min count k)
users_taken start count k = row_front (user_address start) count k

-- .. and what is left.
pub users_left : (start count k : ℕ) → user_addresses_fit start count ≡ true
    → drop k (user_addresses start count) ≡ user_addresses (user_address start (min count k)) (count - min count k)
users_left start count k f =
    let left : count - k ≡ count - min count k = omega arith in
    row_behind (user_address start) (user_address (user_address start (min count k))) count k
    (λ i l.
    let put : min count k ≡ k = omega (arith, l) in
    later_address start count k i f (omega (arith, l)) ∙ ap (λ (n : ℕ). user_address (user_address start n) i) (sym put))
    ∙ ap (λ (n : ℕ). user_addresses (user_address start (min count k)) n) left
