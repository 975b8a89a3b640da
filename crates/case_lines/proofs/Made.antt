-- What `from_fn` makes, whose closure leaves what it caught as it was.
use Rattle.std.proofs.Common.{◌≡◌, ◌+◌, ◌<◌, ℕ, zero, suc, List, arith, subst, ◌∙◌}
use Rattle.std.proofs.Common.{slice_index_or}
use Rattle.std.specs.Array.{IsFromFnResultFrom}
use Rattle.std.specs.Fn.{Called}
use denote.Param.Members.{Mut}

module _ {F : Type 0} (g : Mut F (ℕ × Unit {0}) ℕ) (h : ℕ → ℕ) (f : F) (ys : List ℕ)
    (same : (x y : ℕ) (q : F) → Called g f (x, tt) y q → (q ≡ f) × (y ≡ h x)) where
  pub made_each : (n i j k : ℕ) → IsFromFnResultFrom g f ys i n → i + j ≡ k → j < n → slice_index_or ys k 0 ≡ h k
  made_each zero i j k r e l = absurd (omega arith)
  made_each (suc n) i zero k r e l =
      let at : i ≡ k = omega arith in
      subst (λ m. slice_index_or ys m 0 ≡ h m) at (r.2.1 0 ∙ (same i r.1 r.0 r.3).1)
  made_each (suc n) i (suc j) k r e l =
      made_each n (i + 1) j k (subst (λ p. IsFromFnResultFrom g p ys (i + 1) n) (same i r.1 r.0 r.3).0 r.4) (omega arith) (omega arith)
