-- The laws of the chains: which blocks are compared, one after the other.
use Prim.Native.Nat.{ℕ, zero, suc, ◌+◌, ◌-◌, ◌<◌, ◌≤◌}
use mathlib.Core.Bool.{Bool, true, false, not, ◌&&◌}
use mathlib.Core.List.{List}
use mathlib.Core.Path.{◌≡◌, refl, ap, ◌∙◌}
use native.Mathlib.Omega.{arith}
use lib.Dec.{ltb}
use lib.ListN.{get_or, length}
use borrow.Author.Tests.{eq-eqb, le-ltb, lt-ltb, ltb-true, ne_eqb}
use Rattle.geometry.proofs.Laws.Shape.{by_test}
use Rattle.model.specs.declared.block.Block.{Block}
use Rattle.rules.proofs.Counting.{by_eq}
use Rattle.rules.specs.Drive.{clear_block}
use Rattle.scan.specs.Marks.{chain_before, chain_differs, chain_differs_in, mark, same_serial}

-- A chain leads to smaller numbers.
chain_falls : (m : List ℕ) (at : ℕ) → 0 < at → chain_before m at < at
chain_falls m at l = by_test (ltb (mark m (544 + (at - 1))) at) (λ e. rw e (ltb-true (mark m (544 + (at - 1))) at e)) (λ e. rw e l)

-- The blocks bs, the marks m, and the block b whose serial is looked for.
module _ (bs : List Block) (m : List ℕ) (b : Block) where
  -- The block at a place of the chain has another serial, and so have those before it.
  abbrev Differs : ℕ → Bool → Bool
  Differs at rest = not (ltb (length bs) at) && (not (same_serial b (get_or bs (at - 1) clear_block)) && rest)

  -- It does not matter how many steps are allowed, if they are enough.
  enough : (k l at : ℕ) → at ≤ k → at ≤ l → chain_differs_in k bs m b at ≡ chain_differs_in l bs m b at
  unfolding chain_differs_in
  enough zero zero at p q = refl
  enough zero (suc l) at p q = let e : at ≡ 0 = omega (arith, p) in rw (eq-eqb at 0 e)
  enough (suc k) zero at p q = let e : at ≡ 0 = omega (arith, q) in rw (eq-eqb at 0 e)
  enough (suc k) (suc l) at p q = by_eq at 0
      (λ e. rw (eq-eqb at 0 e))
      (λ ne. let f = chain_falls m at (omega arith) in
      rw (ne_eqb at 0 ne) (ap (Differs at) (enough k l (chain_before m at) (omega (arith, f, p)) (omega (arith, f, q)))))

  -- A block of the chain, then those before it.
  chain_next : (at : ℕ) → 0 < at → chain_differs bs m b at ≡ Differs at (chain_differs bs m b (chain_before m at))
  unfolding chain_differs_in
  chain_next zero l = absurd (omega (arith, l))
  chain_next (suc at) l =
      rw (ne_eqb (suc at) 0 (λ e. omega (arith, e))) (ap (Differs (suc at))
      (enough at (chain_before m (suc at)) (chain_before m (suc at)) (omega (arith, chain_falls m (suc at) l)) (omega arith)))

  -- It ends at 0; ..
  pub chain_ends : chain_differs bs m b 0 ≡ true
  unfolding chain_differs_in
  chain_ends = refl

  -- .. a number that no block has ends it; ..
  pub chain_past : (at : ℕ) → length bs < at → chain_differs bs m b at ≡ false
  chain_past at l = chain_next at (omega (arith, l)) ∙ rw (lt-ltb (length bs) at l) refl

  -- .. so does the serial; ..
  pub chain_same : (at : ℕ) → 0 < at → at ≤ length bs → same_serial b (get_or bs (at - 1) clear_block) ≡ true → chain_differs bs m b at ≡ false
  chain_same at l k e = chain_next at l ∙ rw (le-ltb (length bs) at k, e) refl

  -- .. and with another the next one is looked at.
  pub chain_other : (at : ℕ) → 0 < at → at ≤ length bs → same_serial b (get_or bs (at - 1) clear_block) ≡ false
      → chain_differs bs m b at ≡ chain_differs bs m b (chain_before m at)
  chain_other at l k e = chain_next at l ∙ rw (le-ltb (length bs) at k, e) refl

  -- A chain of no block.
  pub passes_empty : (last : ℕ) → last ≡ 0 → chain_differs bs m b last ≡ true
  passes_empty last e = rw e chain_ends
