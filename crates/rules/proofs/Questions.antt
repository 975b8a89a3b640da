-- The questions of each command come in document 01's order, and where none is answered no, each is answered yes.
use Prim.Native.Nat.{ℕ}
use mathlib.Core.Bool.{Bool, true, cond}
use mathlib.Core.List.{List, [], ◌∷◌}
use mathlib.Core.Path.{◌≡◌, refl}
use lib.Dec.{eqb, ltb}
use borrow.Author.Tests.{ltb-true}
use Rattle.geometry.proofs.Laws.Questions.{all_yes, positive}
use Rattle.geometry.proofs.Laws.Shape.{both, by_test}
use Rattle.geometry.specs.Questions.{Question, first_no}
use Rattle.model.specs.declared.command.Command.{Command}
use Rattle.model.specs.declared.command.Command.TheVariants.{ChangeCapacity, Close, Create, Delete, Erase, Free, List as Listing, Page, Pulse, Read}
use Rattle.model.specs.declared.command.Command.TheVariants.{WriteByBlock, WriteByPlacement}
use Rattle.rules.specs.Calls.{Asked, Call, ◌asking◌, ◌for◌, append, command, latest}
use Rattle.rules.specs.Claims.{rising}
use Rattle.rules.specs.Drive.{Drive}
use Rattle.rules.specs.Effects.{questions, verdict}

-- Soundness is the first question of every command, and the numbers of the others rise from there.
each_in_order : (v : Drive) (k : Call) (c : Command) → rising 1 (questions v (k asking c)) ≡ true
unfolding questions rising
each_in_order v k (Create d guarantee quota placements limit) = refl
each_in_order v k (ChangeCapacity d guarantee quota) = refl
each_in_order v k (Delete d) = refl
each_in_order v k (Erase d n) = refl
each_in_order v k (Close d n) = refl
each_in_order v k (Free d n) = refl
each_in_order v k (WriteByPlacement d p start count) = refl
each_in_order v k (WriteByBlock d n start count) = refl
each_in_order v k (Read d address count expected) = refl
each_in_order v k (Page d n) = refl
each_in_order v k (Listing d which) = refl
each_in_order v k (Pulse seconds) = refl

in_order_for : (v : Drive) (k : Call) (x : Asked) → rising 1 (questions v (k for x)) ≡ true
unfolding questions rising
in_order_for v k (command c) = each_in_order v k c
in_order_for v k (append d sample) = refl
in_order_for v k (latest d count) = refl

pub in_order_lem : (v : Drive) (k : Call) → rising 1 (questions v k) ≡ true
in_order_lem v k = in_order_for v k k.asks

-- None has the number 0.
each_positive : (v : Drive) (k : Call) (c : Command) → positive (questions v (k asking c)) ≡ true
unfolding questions positive
each_positive v k (Create d guarantee quota placements limit) = refl
each_positive v k (ChangeCapacity d guarantee quota) = refl
each_positive v k (Delete d) = refl
each_positive v k (Erase d n) = refl
each_positive v k (Close d n) = refl
each_positive v k (Free d n) = refl
each_positive v k (WriteByPlacement d p start count) = refl
each_positive v k (WriteByBlock d n start count) = refl
each_positive v k (Read d address count expected) = refl
each_positive v k (Page d n) = refl
each_positive v k (Listing d which) = refl
each_positive v k (Pulse seconds) = refl

positive_for : (v : Drive) (k : Call) (x : Asked) → positive (questions v (k for x)) ≡ true
unfolding questions positive
positive_for v k (command c) = each_positive v k c
positive_for v k (append d sample) = refl
positive_for v k (latest d count) = refl

pub none_zero : (v : Drive) (k : Call) → positive (questions v k) ≡ true
none_zero v k = positive_for v k k.asks

-- The answer to the question with this number; yes where it is not put.
abbrev pub answer_in : ℕ → List Question → Bool
answer_in n [] = true
answer_in n (q ∷ qs) = cond (eqb q.number n) q.holds (answer_in n qs)

-- Of a list without a no every answer is yes, ..
pub yes_in : (n : ℕ) (qs : List Question) → positive qs ≡ true → first_no qs ≡ 0 → answer_in n qs ≡ true
unfolding positive
yes_in n [] p e = refl
yes_in n (q ∷ qs) p e =
    let h = both (ltb 0 q.number) (positive qs) p in
    let y = all_yes q.number q.holds qs (ltb-true 0 q.number h.0) e in
    by_test (eqb q.number n) (λ same. rw same y.0) (λ other. rw other (yes_in n qs h.1 y.1))

-- .. and so it is of an accepted call.
pub answered_yes : (v : Drive) (k : Call) (n : ℕ) → verdict v k ≡ 0 → answer_in n (questions v k) ≡ true
answered_yes v k n e = yes_in n (questions v k) (none_zero v k) e

-- ---- Questions in parts

-- The questions before the one with this number, and from it on.
abbrev pub before : ℕ → List Question → List Question
before n [] = []
before n (q ∷ qs) = cond (eqb q.number n) [] (q ∷ before n qs)

abbrev pub from : ℕ → List Question → List Question
from n [] = []
from n (q ∷ qs) = cond (eqb q.number n) (q ∷ qs) (from n qs)
