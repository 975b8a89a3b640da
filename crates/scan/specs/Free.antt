-- The Free block to be opened next: the one with the fewest erases, the lowest number among equals.
use Rattle.std.specs.Prelude.{ℕ, ◌+◌, ◌<◌, ◌&&◌, cond, List, [], ◌∷◌, ◌≡◌, ltb}
use Rattle.model.specs.declared.block.Block.{Block}
use Rattle.rules.specs.Drive.{is_free}
use Rattle.scan.specs.declared.free.Candidate.{Candidate}

abbrev pub candidate : ℕ → ℕ → Candidate
candidate n erases = record { number = n; erases = erases }

abbrev pub no_candidate : Candidate
no_candidate = candidate 256 4294967296

-- With one block more: that one, if it is Free and has fewer erases than the best so far.
abbrev pub chosen_next : Candidate → ℕ → Block → Candidate
chosen_next c n b = cond (is_free b && ltb b.erases c.erases) (candidate n b.erases) c

-- A block more for each of bs from number n on; no block has 2^32 erases.
unfoldable pub Chosen : ℕ → List Block → Candidate → Candidate → Type 0
Chosen n [] c r = r ≡ c
Chosen n (b ∷ bs) c r = (b.erases < 4294967296) × Chosen (n + 1) bs (chosen_next c n b) r
