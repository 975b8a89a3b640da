-- What the first no says of the questions and of the answer.
use Prim.Native.Nat.{ℕ, ◌<◌}
use mathlib.Core.Bool.{Bool, true, false, ◌&&◌}
use mathlib.Core.List.{List, [], ◌∷◌, ◌++◌}
use mathlib.Core.Path.{◌≡◌, refl, sym, ◌∙◌}
use native.Mathlib.Omega.{arith}
use lib.Dec.{eqb, ltb}
use borrow.Author.Tests.{eqb-true, ltb-true, ne_eqb}
use Rattle.geometry.proofs.Laws.Shape.{both, by_test}
use Rattle.geometry.specs.Questions.{Question, answered, ask, first_no, refusal, success}

-- Without a no, the first question holds and the rest have none.
pub all_yes : (n : ℕ) (b : Bool) (qs : List Question) → 0 < n → first_no (ask n b ∷ qs) ≡ 0 → (b ≡ true) × (first_no qs ≡ 0)
unfolding first_no
all_yes n true qs p e = (refl, e)
all_yes n false qs p e = absurd (omega arith)

pub first_asked : (n : ℕ) (b : Bool) (qs : List Question) → b ≡ false → first_no (ask n b ∷ qs) ≡ n
unfolding first_no
first_asked n b qs e = rw e

-- Every number of a list is positive, so that 0 is no question's.
unfoldable pub positive : List Question → Bool
positive [] = true
positive (q ∷ qs) = ltb 0 q.number && positive qs

-- Questions that follow others are put where those have no no.
pub then_asked : (qs rs : List Question) → positive qs ≡ true → first_no qs ≡ 0 → first_no (qs ++ rs) ≡ first_no rs
unfolding first_no positive
then_asked [] rs p e = refl
then_asked (q ∷ qs) rs p e =
    let h = both (ltb 0 q.number) (positive qs) p in
    let y = all_yes q.number q.holds qs (ltb-true 0 q.number h.0) e in
    rw y.0 (then_asked qs rs h.1 y.1)

pub then_not : (qs rs : List Question) (n : ℕ) → 0 < n → first_no qs ≡ n → first_no (qs ++ rs) ≡ n
unfolding first_no
then_not [] rs n p e = absurd (omega arith)
then_not (q ∷ qs) rs n p e =
    by_test q.holds (λ h. rw h (then_not qs rs n p (rw h at e))) (λ h. rw h (rw h at e))

-- Without a no the answer is the values, a no is the answer, and its number says which.
pub answered_yes : (qs : List Question) (values : List ℕ) → first_no qs ≡ 0 → answered qs values ≡ success values
unfolding answered
answered_yes qs values e = rw e

pub answered_no : (qs : List Question) (values : List ℕ) (n : ℕ) → 0 < n → first_no qs ≡ n → answered qs values ≡ refusal n
unfolding answered
answered_no qs values n p e = rw (e, ne_eqb n 0 (λ z. omega arith))

pub answered_number : (qs : List Question) (values : List ℕ) → (answered qs values).number ≡ first_no qs
unfolding answered
answered_number qs values =
    by_test (eqb (first_no qs) 0) (λ h. rw h (sym (eqb-true (first_no qs) 0 h))) (λ h. rw h)

pub yes_answered : (qs : List Question) (values : List ℕ) → (answered qs values).number ≡ 0 → first_no qs ≡ 0
yes_answered qs values e = sym (answered_number qs values) ∙ e
