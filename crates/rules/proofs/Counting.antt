-- The laws of sums, tests and rows over the numbers below n.
use Prim.Native.Nat.{ℕ, zero, suc, ◌+◌, ◌-◌, ◌≤◌, ◌<◌}
use mathlib.Core.Bool.{Bool, true, false, true≢false, ◌&&◌, ◌||◌, cond}
use mathlib.Core.List.{List, [], ◌∷◌, ◌++◌}
use mathlib.Core.Path.{◌≡◌, refl, sym, ap, ap₂, ◌∙◌}
use native.Mathlib.Numerals.{add-one}
use native.Mathlib.Omega.{arith}
use lib.Dec.{eqb}
use lib.ListN.{get_or, length, length-append, get_or-append}
use borrow.Author.Tests.{eqb-false, eqb-true}
use Rattle.geometry.proofs.Laws.Shape.{both, by_test}
use Rattle.rules.specs.Counting.{all_from, all_to, count_to, row_to, sum_from, sum_to}

-- Cases of an equation of numbers.
pub by_eq : {P : Type 0} (k n : ℕ) → (k ≡ n → P) → (¬ (k ≡ n) → P) → P
by_eq k n same other = by_test (eqb k n) (λ e. same (eqb-true k n e)) (λ e. other (eqb-false k n e))

-- A test that is both true and false; one of two that is true where the other is not.
pub clash : {P : Type 0} (b : Bool) → b ≡ true → b ≡ false → P
clash b e f = absurd (true≢false (sym e ∙ f))

pub the_first : (a b : Bool) → a || b ≡ true → b ≡ false → a ≡ true
the_first true b e f = refl
the_first false b e f = absurd (true≢false (sym e ∙ f))

-- What is left from d on is one more than what is left behind it; the numbers that are counted from d, and behind it.
one_less : (d n : ℕ) → d < n → n - d ≡ suc (n - (d + 1))
one_less d n l = omega (arith, l)

one_later : (d i : ℕ) → d + suc i ≡ d + 1 + i
one_later d i = omega arith

none_later : (d : ℕ) → d + 0 ≡ d
none_later d = omega arith

-- ---- Sums

pub sum_same : (n : ℕ) (f g : ℕ → ℕ) → ((i : ℕ) → i < n → f i ≡ g i) → sum_to f n ≡ sum_to g n
unfolding sum_to
sum_same zero f g h = refl
sum_same (suc n) f g h = ap₂ ◌+◌ (sum_same n f g (λ i l. h i (omega arith))) (h n (omega arith))

pub sum_zero : (n : ℕ) (f : ℕ → ℕ) → ((i : ℕ) → i < n → f i ≡ 0) → sum_to f n ≡ 0
unfolding sum_to
sum_zero zero f h = refl
sum_zero (suc n) f h = omega (arith, sum_zero n f (λ i l. h i (omega arith)), h n (omega arith))

pub sum_add : (n : ℕ) (f g : ℕ → ℕ) → sum_to (λ i. f i + g i) n ≡ sum_to f n + sum_to g n
unfolding sum_to
sum_add zero f g = refl
sum_add (suc n) f g = omega (arith, sum_add n f g)

pub sum_le : (n : ℕ) (f g : ℕ → ℕ) → ((i : ℕ) → i < n → f i ≤ g i) → sum_to f n ≤ sum_to g n
unfolding sum_to
sum_le zero f g h = omega arith
sum_le (suc n) f g h = omega (arith, sum_le n f g (λ i l. h i (omega arith)), h n (omega arith))

-- One term is at most the sum, and two are together at most the sum.
pub sum_term : (n : ℕ) (f : ℕ → ℕ) (k : ℕ) → k < n → f k ≤ sum_to f n
unfolding sum_to
sum_term zero f k l = absurd (omega (arith, l))
sum_term (suc n) f k l = by_eq k n (λ e. rw e (omega arith)) (λ e. omega (arith, sum_term n f k (omega arith)))

pub sum_two : (n : ℕ) (f : ℕ → ℕ) (i k : ℕ) → i < n → k < n → ¬ (i ≡ k) → f i + f k ≤ sum_to f n
unfolding sum_to
sum_two zero f i k l m other = absurd (omega (arith, l))
sum_two (suc n) f i k l m other =
    by_eq i n
    (λ e. rw e (omega (arith, sum_term n f k (by_eq k n (λ same. absurd (other (e ∙ sym same))) (λ g. omega arith)))))
    (λ e. by_eq k n
    (λ g. rw g (omega (arith, sum_term n f i (omega arith))))
    (λ g. omega (arith, sum_two n f i k (omega arith) (omega arith) other)))

-- Two sums of which all terms but one are the same.
pub sum_at : (n : ℕ) (f g : ℕ → ℕ) (k : ℕ) → k < n → ((i : ℕ) → i < n → ¬ (i ≡ k) → f i ≡ g i) → sum_to f n + g k ≡ sum_to g n + f k
unfolding sum_to
sum_at zero f g k l h = absurd (omega (arith, l))
sum_at (suc n) f g k l h =
    by_eq k n
    (λ e. rw e (omega (arith, sum_same n f g (λ i m. h i (omega arith) (λ same. omega arith)))))
    (λ e. omega (arith, sum_at n f g k (omega arith) (λ i m. h i (omega arith)), h n (omega arith) (λ same. e (sym same))))

-- A sum with one term that is not 0.
pub sum_term_alone : (n : ℕ) (f : ℕ → ℕ) (k : ℕ) → k < n → ((i : ℕ) → i < n → ¬ (i ≡ k) → f i ≡ 0) → sum_to f n ≡ f k
sum_term_alone n f k l others = omega (arith, sum_at n f (λ i. 0) k l others, sum_zero n (λ i. 0) (λ i m. refl))

-- A sum that is not 0 has a term that is not 0.
pub sum_some : (n : ℕ) (f : ℕ → ℕ) → 0 < sum_to f n → (k : ℕ) × (k < n) × (0 < f k)
unfolding sum_to
sum_some zero f h = absurd (omega (arith, h))
sum_some (suc n) f h =
    by_eq (f n) 0
    (λ e. let r = sum_some n f (omega arith) in (r.0, omega (arith, r.1), r.2))
    (λ e. (n, omega arith, omega arith))

-- The order of two sums.
pub sum_swap : (n m : ℕ) (f : ℕ → ℕ → ℕ) → sum_to (λ i. sum_to (f i) m) n ≡ sum_to (λ j. sum_to (λ i. f i j) n) m
unfolding sum_to
sum_swap zero m f = sym (sum_zero m _ (λ i l. refl))
sum_swap (suc n) m f = omega (arith, sum_swap n m f, sum_add m (λ j. sum_to (λ i. f i j) n) (f n))

-- A sum of zeros and ones of which no two are ones is at most 1.
pub sum_alone : (n : ℕ) (f : ℕ → ℕ) → ((i : ℕ) → f i ≤ 1) → ((i k : ℕ) → i < n → k < i → 0 < f i → 0 < f k → ⊥) → sum_to f n ≤ 1
unfolding sum_to
sum_alone zero f few alone = omega arith
sum_alone (suc n) f few alone =
    by_eq (f n) 0
    (λ e. omega (arith, sum_alone n f few (λ i k l. alone i k (omega arith))))
    (λ e. omega (
      arith,
      few n,
      sum_zero n f (λ k l. by_eq (f k) 0 (λ z. z) (λ z. absurd (alone n k (omega arith) l (omega arith) (omega arith)))),
    ))

-- A sum of terms that are not 0 is at least their number.
pub sum_least : (n : ℕ) (f : ℕ → ℕ) → ((i : ℕ) → i < n → 1 ≤ f i) → n ≤ sum_to f n
unfolding sum_to
sum_least zero f h = omega arith
sum_least (suc n) f h = omega (arith, sum_least n f (λ i l. h i (omega arith)), h n (omega arith))

-- Over no numbers, and over one number more.
pub sum_none : (f : ℕ → ℕ) → sum_to f 0 ≡ 0
unfolding sum_to
sum_none f = refl

pub sum_next : (f : ℕ → ℕ) (n : ℕ) → sum_to f (n + 1) ≡ sum_to f n + f n
unfolding sum_to
sum_next f n = rw add-one

-- From a number d on, with d as well.
sum_first : (n : ℕ) (f : ℕ → ℕ) → sum_to f (suc n) ≡ sum_to (λ i. f (suc i)) n + f 0
unfolding sum_to
sum_first zero f = refl
sum_first (suc n) f = omega (arith, sum_first n f)

pub sum_from_next : (f : ℕ → ℕ) (d n : ℕ) → d < n → sum_from f d n ≡ sum_from f (d + 1) n + f d
sum_from_next f d n l =
    ap (sum_to (λ i. f (d + i))) (one_less d n l)
    ∙ sum_first (n - (d + 1)) (λ i. f (d + i))
    ∙ ap₂ ◌+◌ (sum_same (n - (d + 1)) _ _ (λ i m. ap f (one_later d i))) (ap f (none_later d))

-- One test counts one at most, and a count of n numbers is n at most.
pub bit_most : (b : Bool) → cond b 1 0 ≤ 1
bit_most true = omega arith
bit_most false = omega arith

pub count_most : (p : ℕ → Bool) (n : ℕ) → count_to p n ≤ n
unfolding sum_to
count_most p zero = omega arith
count_most p (suc n) = omega (arith, count_most p n, bit_most (p n))

-- ---- Tests

-- Two tests of which each passes where the other does are the same.
pub same_test : (a b : Bool) → (a ≡ true → b ≡ true) → (b ≡ true → a ≡ true) → a ≡ b
same_test true b there back = sym (there refl)
same_test false true there back = back refl
same_test false false there back = refl

pub each_all : (n : ℕ) (p : ℕ → Bool) → ((i : ℕ) → i < n → p i ≡ true) → all_to p n ≡ true
unfolding all_to
each_all zero p h = refl
each_all (suc n) p h = rw (each_all n p (λ i l. h i (omega arith)), h n (omega arith))

pub all_each : (n : ℕ) (p : ℕ → Bool) → all_to p n ≡ true → (i : ℕ) → i < n → p i ≡ true
unfolding all_to
all_each zero p e i l = absurd (omega (arith, l))
all_each (suc n) p e i l =
    let h = both (all_to p n) (p n) e in by_eq i n (λ same. rw same h.1) (λ other. all_each n p h.0 i (omega arith))

-- Over no numbers, and over one number more.
pub all_none : (p : ℕ → Bool) → all_to p 0 ≡ true
unfolding all_to
all_none p = refl

pub all_next : (p : ℕ → Bool) (n : ℕ) → all_to p (n + 1) ≡ all_to p n && p n
unfolding all_to
all_next p n = rw add-one

-- Tests that are the same below n are the same for all of these.
pub all_same : (n : ℕ) (p q : ℕ → Bool) → ((i : ℕ) → i < n → p i ≡ q i) → all_to p n ≡ all_to q n
unfolding all_to
all_same zero p q h = refl
all_same (suc n) p q h = ap₂ ◌&&◌ (all_same n p q (λ i l. h i (omega arith))) (h n (omega arith))

-- From a number d on, with d as well.
and_swap : (a b c : Bool) → a && b && c ≡ a && c && b
and_swap true true true = refl
and_swap true true false = refl
and_swap true false true = refl
and_swap true false false = refl
and_swap false b c = refl

all_first : (n : ℕ) (p : ℕ → Bool) → all_to p (suc n) ≡ all_to (λ i. p (suc i)) n && p 0
unfolding all_to
all_first zero p = refl
all_first (suc n) p = ap (λ (b : Bool). b && p (suc n)) (all_first n p) ∙ and_swap (all_to (λ i. p (suc i)) n) (p 0) (p (suc n))

pub all_from_next : (p : ℕ → Bool) (d n : ℕ) → d < n → all_from p d n ≡ all_from p (d + 1) n && p d
all_from_next p d n l =
    ap (all_to (λ i. p (d + i))) (one_less d n l)
    ∙ all_first (n - (d + 1)) (λ i. p (d + i))
    ∙ ap₂ ◌&&◌ (all_same (n - (d + 1)) _ _ (λ i m. ap p (one_later d i))) (ap p (none_later d))

-- ---- Rows

pub length_row : (f : ℕ → ℕ) (n : ℕ) → length (row_to f n) ≡ n
unfolding row_to
length_row f zero = refl
length_row f (suc n) = rw (length-append, length_row f n) (omega arith)

pub get_row : (f : ℕ → ℕ) (n i : ℕ) → i < n → get_or (row_to f n) i 0 ≡ f i
unfolding row_to
get_row f zero i l = absurd (omega (arith, l))
get_row f (suc n) i l =
    by_eq i n
    (λ e. rw e (last (row_to f n) (f n) n (length_row f n)))
    (λ e. get_or-append (row_to f n) (f n ∷ []) 0 i (rw length_row (omega arith)) ∙ get_row f n i (omega arith))
  where
    last : (xs : List ℕ) (x k : ℕ) → length xs ≡ k → get_or (xs ++ (x ∷ [])) k 0 ≡ x
    last [] x zero e = refl
    last [] x (suc k) e = absurd (omega (arith, e))
    last (y ∷ xs) x zero e = absurd (omega (arith, e))
    last (y ∷ xs) x (suc k) e = last xs x k (omega (arith, e))
