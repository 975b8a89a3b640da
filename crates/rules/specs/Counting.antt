-- Sums, tests and rows over the numbers 0, 1, .. below n.
use Rattle.std.specs.Prelude.{ℕ, zero, suc, ◌+◌, ◌-◌, Bool, true, ◌&&◌, cond, List, [], ◌∷◌, ◌++◌}

-- f 0 + .. + f (n - 1)
unfoldable pub sum_to : (ℕ → ℕ) → ℕ → ℕ
sum_to f zero = 0
sum_to f (suc n) = sum_to f n + f n

-- how many of them pass
abbrev pub count_to : (ℕ → Bool) → ℕ → ℕ
count_to p n = sum_to (λ i. cond (p i) 1 0) n

-- whether all of them pass
unfoldable pub all_to : (ℕ → Bool) → ℕ → Bool
all_to p zero = true
all_to p (suc n) = all_to p n && p n

-- the same from a number d on: f d + .. + f (n - 1), and whether all of d, .., n - 1 pass
abbrev pub sum_from : (ℕ → ℕ) → ℕ → ℕ → ℕ
sum_from f d n = sum_to (λ i. f (d + i)) (n - d)

abbrev pub all_from : (ℕ → Bool) → ℕ → ℕ → Bool
all_from p d n = all_to (λ i. p (d + i)) (n - d)

-- those that pass, ascending
unfoldable pub numbers_to : (ℕ → Bool) → ℕ → List ℕ
numbers_to p zero = []
numbers_to p (suc n) = numbers_to p n ++ cond (p n) (n ∷ []) []

-- f 0, .., f (n - 1)
unfoldable pub row_to : (ℕ → ℕ) → ℕ → List ℕ
row_to f zero = []
row_to f (suc n) = row_to f n ++ (f n ∷ [])

-- The test q, put only where p holds.
abbrev pub implies : Bool → Bool → Bool
implies p q = cond p q true
