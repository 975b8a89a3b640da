-- Drives that a domain cannot tell apart: its blocks have the same serials, and equal serials mean equal holdings.
use Prim.Native.Nat.{ℕ, ◌≤◌, ◌<◌}
use mathlib.Core.Bool.{Bool, true, false, true≢false, ◌&&◌, cond}
use mathlib.Core.List.{List, [], ◌∷◌}
use mathlib.Core.Path.{◌≡◌, refl, sym, ap, ap₂, ◌∙◌, subst}
use native.Mathlib.Omega.{arith}
use lib.Dec.{eqb}
use borrow.Author.Tests.{eq-eqb, eqb-true}
use Rattle.geometry.proofs.Laws.Shape.{both, by_test}
use Rattle.model.specs.declared.block.State.{State}
use Rattle.model.specs.declared.block.State.TheVariants.{Closed, Free, Open}
use Rattle.model.specs.declared.block.Way.{Way}
use Rattle.model.specs.declared.block.Way.TheVariants.{Erase, Placement}
use Rattle.rules.specs.Drive.{Drive, block_at, held_by, size}
use Rattle.rules.specs.Observation.{Holding, Holds, SameHoldings, holding_at, serial_at}
use Rattle.rules.proofs.Counting.{by_eq, sum_some, sum_term}
use Rattle.rules.proofs.Kept.Facts.{Facts}
use Rattle.rules.proofs.Kept.Views.{Alike, alike_back, view, view_two, weight}

-- ---- A test for equal holdings

same_way : Way → Way → Bool
same_way Erase Erase = true
same_way Erase (Placement q) = false
same_way (Placement p) Erase = false
same_way (Placement p) (Placement q) = eqb p q

same_way_lem : (x y : Way) → same_way x y ≡ true → x ≡ y
unfolding same_way
same_way_lem Erase Erase e = refl
same_way_lem Erase (Placement q) e = absurd (true≢false (sym e))
same_way_lem (Placement p) Erase e = absurd (true≢false (sym e))
same_way_lem (Placement p) (Placement q) e = ap (λ (k : ℕ). Placement k) (eqb-true p q e)

way_same : (x : Way) → same_way x x ≡ true
unfolding same_way
way_same Erase = refl
way_same (Placement p) = eq-eqb p p refl

same_state : State → State → Bool
same_state Free Free = true
same_state Free (Open y) = false
same_state Free (Closed y) = false
same_state (Open x) Free = false
same_state (Open x) (Open y) = same_way x y
same_state (Open x) (Closed y) = false
same_state (Closed x) Free = false
same_state (Closed x) (Open y) = false
same_state (Closed x) (Closed y) = same_way x y

same_state_lem : (s u : State) → same_state s u ≡ true → s ≡ u
unfolding same_state
same_state_lem Free Free e = refl
same_state_lem Free (Open y) e = absurd (true≢false (sym e))
same_state_lem Free (Closed y) e = absurd (true≢false (sym e))
same_state_lem (Open x) Free e = absurd (true≢false (sym e))
same_state_lem (Open x) (Open y) e = ap (λ (k : Way). Open k) (same_way_lem x y e)
same_state_lem (Open x) (Closed y) e = absurd (true≢false (sym e))
same_state_lem (Closed x) Free e = absurd (true≢false (sym e))
same_state_lem (Closed x) (Open y) e = absurd (true≢false (sym e))
same_state_lem (Closed x) (Closed y) e = ap (λ (k : Way). Closed k) (same_way_lem x y e)

state_same : (s : State) → same_state s s ≡ true
unfolding same_state
state_same Free = refl
state_same (Open x) = way_same x
state_same (Closed x) = way_same x

same_row : List ℕ → List ℕ → Bool
same_row [] [] = true
same_row [] (y ∷ ys) = false
same_row (x ∷ xs) [] = false
same_row (x ∷ xs) (y ∷ ys) = eqb x y && same_row xs ys

same_row_lem : (xs ys : List ℕ) → same_row xs ys ≡ true → xs ≡ ys
unfolding same_row
same_row_lem [] [] e = refl
same_row_lem [] (y ∷ ys) e = absurd (true≢false (sym e))
same_row_lem (x ∷ xs) [] e = absurd (true≢false (sym e))
same_row_lem (x ∷ xs) (y ∷ ys) e =
    let h = both (eqb x y) (same_row xs ys) e in ap₂ ◌∷◌ (eqb-true x y h.0) (same_row_lem xs ys h.1)

row_same : (xs : List ℕ) → same_row xs xs ≡ true
unfolding same_row
row_same [] = refl
row_same (x ∷ xs) = rw (eq-eqb x x refl, row_same xs)

unfoldable same_holding : Holding → Holding → Bool
same_holding h k =
    eqb h.serial k.serial
    && same_state h.state k.state
    && eqb h.written k.written
    && eqb h.left k.left
    && same_row h.entries k.entries

same_holding_lem : (h k : Holding) → same_holding h k ≡ true → h ≡ k
unfolding same_holding
same_holding_lem h k e =
    let a = both _ (same_row h.entries k.entries) e in
    let b = both _ (eqb h.left k.left) a.0 in
    let c = both _ (eqb h.written k.written) b.0 in
    let d = both (eqb h.serial k.serial) (same_state h.state k.state) c.0 in
    let serials = eqb-true h.serial k.serial d.0 in
    let states = same_state_lem h.state k.state d.1 in
    let counts = eqb-true h.written k.written c.1 in
    let seconds = eqb-true h.left k.left b.1 in
    let rows = same_row_lem h.entries k.entries a.1 in
    λ i. record { serial = serials i; state = states i; written = counts i; left = seconds i; entries = rows i }

holding_same : (h : Holding) → same_holding h h ≡ true
unfolding same_holding
holding_same h =
    rw (
      eq-eqb h.serial h.serial refl,
      state_same h.state,
      eq-eqb h.written h.written refl,
      eq-eqb h.left h.left refl,
      row_same h.entries,
    )

-- ---- Partners

if_holding : Holding → Holding → ℕ
if_holding h k = cond (same_holding h k) 1 0

-- A block with a weight that is not 0.
view_some : (q : Holding → ℕ) (a : ℕ) (v : Drive) → 0 < view q a v → (n : ℕ) × Holds a v n × (0 < q (holding_at v n))
unfolding view
view_some q a v l =
    let x = sum_some (size v.table) (weight q a v) l in
    let h = held x.0 x.2 in (x.0, (x.1, h.0), h.1)
  where
    held : (n : ℕ) → 0 < weight q a v n → (held_by a (block_at v.table n) ≡ true) × (0 < q (holding_at v n))
    held n =
        by_test (held_by a (block_at v.table n))
        (λ e. rw e (λ p. (refl, p)))
        (λ e. rw e (λ p. absurd (omega (arith, p))))

-- A block's weight is part of the view.
view_part : (q : Holding → ℕ) (a : ℕ) (v : Drive) (n : ℕ) → Holds a v n → q (holding_at v n) ≤ view q a v
unfolding view
view_part q a v n h =
    let x = sum_term (size v.table) (weight q a v) n h.0 in rw h.1 at x

-- Each of A's blocks in one drive has a partner in the other: one with the same holding.
pub partner : {a : ℕ} {v w : Drive} → Alike a v w → (n : ℕ) → Holds a v n → (m : ℕ) × Holds a w m × (holding_at v n ≡ holding_at w m)
unfolding if_holding
partner {a} {v} {w} s n h =
    let q : (Holding → ℕ) = if_holding (holding_at v n) in
    let here : 1 ≤ q (holding_at v n) = rw (holding_same (holding_at v n)) (omega arith) in
    let x = view_some q a w (omega (arith, here, view_part q a v n h, s.views q)) in
    (x.0, x.1, same_holding_lem (holding_at v n) (holding_at w x.0) (passes x.0 x.2))
  where
    passes : (m : ℕ) → 0 < if_holding (holding_at v n) (holding_at w m) → same_holding (holding_at v n) (holding_at w m) ≡ true
    passes m =
        by_test (same_holding (holding_at v n) (holding_at w m)) (λ e p. e) (λ e. rw e (λ p. absurd (omega (arith, p))))

-- Where a view of ones and zeros is at most 1, two blocks of the domain that pass the test are one.
pub one_block : (a : ℕ) (v : Drive) (p : Holding → Bool) → view (λ h. cond (p h) 1 0) a v ≤ 1 → (n m : ℕ) → Holds a v n → Holds a v m
    → p (holding_at v n) ≡ true → p (holding_at v m) ≡ true → n ≡ m
one_block a v p most n m h k x y =
    by_eq n m (λ e. e) (λ other. absurd (omega (arith, most, view_two v a p n m h.0 k.0 other h.1 k.1 x y)))

-- Blocks with one serial have equal holdings.
pub paired : {a : ℕ} {v w : Drive} → 1 ≤ a → Facts w → Alike a v w → (n m : ℕ) → Holds a v n → Holds a w m → serial_at v n ≡ serial_at w m
    → holding_at v n ≡ holding_at w m
paired {a} {v} {w} p f s n m h k same =
    let x = partner s n h in
    let equal = ap (λ (y : Holding). y.serial) x.2 in
    let serial = serial_at w m in
    let one =
    one_block a w (λ h. eqb h.serial serial) (f.unique a serial p) x.0 m x.1 k
    (eq-eqb (serial_at w x.0) serial (sym equal ∙ same)) (eq-eqb serial serial refl) in
    subst (λ (i : ℕ). holding_at v n ≡ holding_at w i) one x.2

pub same_holdings : {a : ℕ} {v w : Drive} → 1 ≤ a → Facts w → Alike a v w → SameHoldings a v w
same_holdings {a} {v} {w} p f s = record {
  there = λ n h. let x = partner s n h in (x.0, x.1, ap (λ (y : Holding). y.serial) x.2);
  back = λ m h. let x = partner (alike_back s) m h in (x.0, x.1, sym (ap (λ (y : Holding). y.serial) x.2));
  equal = λ n m h k same. paired p f s n m h k same;
}
