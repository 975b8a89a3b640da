-- The two halves of the claim, from those of the rules.
use Prim.Native.Nat.{ℕ, zero, suc}
use mathlib.Core.Bool.{true}
use mathlib.Core.List.{List, [], ◌∷◌}
use mathlib.Core.Path.{◌≡◌, refl, sym, ap, ap₂, ◌∙◌, subst}
use lib.ListN.{length, take}
use Rattle.geometry.specs.Address.{is_domain_id}
use Rattle.geometry.specs.Shape.{store_length}
use Rattle.geometry.specs.declared.shape.Config.{Config}
use Rattle.isolation.specs.Runs.{Run, calls_of, configuration, exchanges_of, first, reference_after}
use Rattle.isolation.proofs.Reference.{exchanged_calls, run_replied, run_within}
use Rattle.rules.proofs.Claims as rules
use Rattle.rules.specs.Calls.{Call}
use Rattle.rules.specs.Claims.{Guaranteed}
use Rattle.rules.specs.Drive.{Drive}
use Rattle.rules.specs.Noninterference.{Exchange, Indistinguishable, Replied, calls, fully_reserved, inputs}
use Rattle.rules.specs.Runs.{begun}

pub guaranteed : (r : Run) (i : ℕ) → Guaranteed (reference_after i r).table
guaranteed r i = rules.guarantees (configuration r) r.store (calls_of r) (run_within r) r.whole i

-- The beginning of a map is the map of the beginning.
take_map : (i : ℕ) (xs : List Exchange) → calls (take i xs) ≡ take i (calls xs)
take_map zero xs = refl
take_map (suc i) [] = refl
take_map (suc i) (x ∷ xs) = ap (λ (l : List Call). x.call ∷ l) (take_map i xs)

run_calls : (r : Run) → calls (exchanges_of r) ≡ calls_of r
run_calls r = exchanged_calls r.calls (first r)

beginning : (i : ℕ) (r : Run) → calls (take i (exchanges_of r)) ≡ take i (calls_of r)
beginning i r = take_map i (exchanges_of r) ∙ ap (take i) (run_calls r)

pub indistinguishable : (a : ℕ) (r s : Run)
    → is_domain_id a ≡ true
    → configuration r ≡ configuration s
    → fully_reserved a (calls_of r) (first r) ≡ true
    → fully_reserved a (calls_of s) (first s) ≡ true
    → inputs a (calls_of r) (first r) ≡ inputs a (calls_of s) (first s)
    → (i j : ℕ)
    → length (inputs a (take i (calls_of r)) (first r)) ≡ length (inputs a (take j (calls_of s)) (first s))
    → Indistinguishable a (take i (exchanges_of r)) (take j (exchanges_of s)) (first r) (first s)
indistinguishable a r s id same reserved reserved' alike i j as_many =
    let c = configuration r in
    let xs = exchanges_of r in
    let ys = exchanges_of s in
    let moved : first s ≡ begun c s.store = ap (λ (x : Config). begun x s.store) (sym same) in
    subst (Indistinguishable a (take i xs) (take j ys) (first r)) (sym moved)
    (rules.noninterference c a xs ys r.store s.store (run_within r) id r.whole
    (s.whole ∙ ap (λ (x : Config). (store_length x).0) (sym same))
    (run_replied r)
    (subst (Replied ys) moved (run_replied s))
    (ap (λ (ks : List Call). fully_reserved a ks (first r)) (run_calls r) ∙ reserved)
    (ap₂ (fully_reserved a) (run_calls s) (sym moved) ∙ reserved')
    (ap (λ (ks : List Call). inputs a ks (first r)) (run_calls r) ∙ alike ∙ sym (ap₂ (inputs a) (run_calls s) (sym moved)))
    i j
    (ap (λ (ks : List Call). length (inputs a ks (first r))) (beginning i r)
    ∙ as_many
    ∙ sym (ap₂ (λ (ks : List Call) (v : Drive). length (inputs a ks v)) (beginning j s) (sym moved))))
