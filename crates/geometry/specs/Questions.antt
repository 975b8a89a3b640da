-- Document 01, "The questions, in order": a list of them, and what it answers.
use Rattle.std.specs.Prelude.{ℕ, Bool, cond, List, [], ◌∷◌, eqb}

-- A question's number, and whether its answer is yes.
pub record Question : Type 0 where
  pub number : ℕ
  pub holds : Bool

abbrev pub ask : ℕ → Bool → Question
ask n b = record { number = n; holds = b }

-- The number of the first no, or 0 where every answer is yes.
unfoldable pub first_no : List Question → ℕ
first_no [] = 0
first_no (q ∷ qs) = cond q.holds (first_no qs) q.number

-- An answer in 01's terms: 0 with the values, or a refusal's number and nothing more.
pub record Outcome : Type 0 where
  pub number : ℕ
  pub values : List ℕ

abbrev pub success : List ℕ → Outcome
success values = record { number = 0; values = values }

abbrev pub refusal : ℕ → Outcome
refusal n = record { number = n; values = [] }

unfoldable pub answered : List Question → List ℕ → Outcome
answered qs values = cond (eqb (first_no qs) 0) (success values) (refusal (first_no qs))
