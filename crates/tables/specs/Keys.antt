-- Keys of blocks: numbers that are ordered as the blocks' serials are.
use Rattle.std.specs.Prelude.{ℕ, zero, suc, Bool, cond, List, [], ◌∷◌, ◌++◌}

-- The key of block n, if it passes.
abbrev pub key_if : (ℕ → Bool) → (ℕ → ℕ) → ℕ → List ℕ
key_if passes key n = cond (passes n) (key n ∷ []) []

-- Those of the blocks below n, by number.
unfoldable pub keys_to : (ℕ → Bool) → (ℕ → ℕ) → ℕ → List ℕ
keys_to passes key zero = []
keys_to passes key (suc n) = keys_to passes key n ++ key_if passes key n
