-- The abstract state of a domain: its record with, for every weight q, the sum of q over the blocks that it holds. Two drives are
-- alike for a domain if these are the same; how many blocks it holds, how many are open, which serials there are, all are such sums.
use Prim.Native.Nat.{ℕ, ◌+◌, ◌≤◌, ◌<◌}
use mathlib.Core.Bool.{Bool, true, false, cond}
use mathlib.Core.Path.{◌≡◌, refl, sym, ap, ◌∙◌}
use native.Mathlib.Omega.{arith}
use lib.Dec.{eqb}
use Rattle.geometry.proofs.Laws.Shape.{by_test}
use Rattle.geometry.specs.declared.shape.Config.{Config}
use Rattle.model.specs.declared.table.Domain.{Domain}
use Rattle.rules.specs.Blocks.{with_last}
use Rattle.rules.specs.Counting.{sum_to}
use Rattle.rules.specs.Drive.{Drive, block_at, closed_count, domain_at, entries_of, held_by, held_count, is_closed_state, is_open_state, is_placed_state, open_count, size}
use Rattle.rules.specs.Observation.{Holding, holding_at}
use Rattle.rules.proofs.Counting.{sum_at, sum_same, sum_two}

-- ---- Views

abbrev pub weight : (Holding → ℕ) → ℕ → Drive → ℕ → ℕ
weight q d v n = cond (held_by d (block_at v.table n)) (q (holding_at v n)) 0

unfoldable pub view : (Holding → ℕ) → ℕ → Drive → ℕ
view q d v = sum_to (weight q d v) (size v.table)

-- Weights: one for each block, for an open one, for a Closed one, for a serial, for a placement's open block.
abbrev pub one : Holding → ℕ
one h = 1

abbrev pub if_open : Holding → ℕ
if_open h = cond (is_open_state h.state) 1 0

abbrev pub if_closed : Holding → ℕ
if_closed h = cond (is_closed_state h.state) 1 0

abbrev pub if_serial : ℕ → Holding → ℕ
if_serial s h = cond (eqb h.serial s) 1 0

abbrev pub if_placed : ℕ → Holding → ℕ
if_placed p h = cond (is_placed_state p h.state) 1 0

pub held_view : (v : Drive) (d : ℕ) → held_count v.table d ≡ view one d v
unfolding held_count view
held_view v d = refl

pub open_view : (v : Drive) (d : ℕ) → open_count v.table d ≡ view if_open d v
unfolding open_count view
open_view v d =
    sum_same (size v.table) _ _ (λ n l. by_test (held_by d (block_at v.table n)) (λ e. rw e) (λ e. rw e))

pub closed_view : (v : Drive) (d : ℕ) → closed_count v.table d ≡ view if_closed d v
unfolding closed_count view
closed_view v d =
    sum_same (size v.table) _ _ (λ n l. by_test (held_by d (block_at v.table n)) (λ e. rw e) (λ e. rw e))

-- A view of ones and zeros is at least 2 where two blocks of the domain pass the test.
pub view_two : (v : Drive) (d : ℕ) (p : Holding → Bool) (n m : ℕ) → n < size v.table → m < size v.table → ¬ (n ≡ m)
    → held_by d (block_at v.table n) ≡ true → held_by d (block_at v.table m) ≡ true
    → p (holding_at v n) ≡ true → p (holding_at v m) ≡ true
    → 2 ≤ view (λ h. cond (p h) 1 0) d v
unfolding view
view_two v d p n m l k other held held' x y =
    let q : Holding → ℕ = λ h. cond (p h) 1 0 in
    let one : weight q d v n ≡ 1 = rw (held, x) in
    let another : weight q d v m ≡ 1 = rw (held', y) in
    omega (arith, sum_two (size v.table) (weight q d v) n m l k other)

-- Two drives that a domain cannot tell apart.
pub record Alike (a : ℕ) (v w : Drive) : Type 0 where
  pub config : v.table.config ≡ w.table.config
  pub domain : domain_at v.table a ≡ domain_at w.table a
  pub views : (q : Holding → ℕ) → view q a v ≡ view q a w

pub alike_self : (a : ℕ) (v : Drive) → Alike a v v
alike_self a v = record { config = refl; domain = refl; views = λ q. refl }

pub alike_back : {a : ℕ} {v w : Drive} → Alike a v w → Alike a w v
alike_back s = record { config = sym s.config; domain = sym s.domain; views = λ q. sym (s.views q) }

pub alike_then : {a : ℕ} {v w x : Drive} → Alike a v w → Alike a w x → Alike a v x
alike_then s t = record {
  config = s.config ∙ t.config;
  domain = s.domain ∙ t.domain;
  views = λ q. s.views q ∙ t.views q;
}

-- ---- One block of a domain is changed

-- In w block n is another than in v, of the domain d before and after or of none; nothing else differs but d's last serial.
pub record Changed (d n : ℕ) (v w : Drive) : Type 0 where
  pub inside : n < size v.table
  pub config : w.table.config ≡ v.table.config
  pub blocks : (m : ℕ) → ¬ (m ≡ n) → block_at w.table m ≡ block_at v.table m
  pub entries : (m : ℕ) → m < size v.table → ¬ (m ≡ n) → entries_of w m ≡ entries_of v m
  pub domains : (e : ℕ) → 1 ≤ e → ¬ (e ≡ d) → domain_at w.table e ≡ domain_at v.table e
  pub own : domain_at w.table d ≡ with_last (domain_at w.table d).last (domain_at v.table d)
  pub last : (domain_at v.table d).last ≤ (domain_at w.table d).last
  pub before : (e : ℕ) → 1 ≤ e → ¬ (e ≡ d) → held_by e (block_at v.table n) ≡ false
  pub after : (e : ℕ) → 1 ≤ e → ¬ (e ≡ d) → held_by e (block_at w.table n) ≡ false

holding_same : (v w : Drive) (n : ℕ) → block_at w.table n ≡ block_at v.table n → entries_of w n ≡ entries_of v n
    → holding_at w n ≡ holding_at v n
holding_same v w n e f = rw (e, f)

weight_same : (q : Holding → ℕ) (d : ℕ) (v w : Drive) (n : ℕ) → block_at w.table n ≡ block_at v.table n
    → entries_of w n ≡ entries_of v n → weight q d w n ≡ weight q d v n
weight_same q d v w n e f = rw (e, f)

-- A view summed over as many blocks as another drive has.
pub view_over : (q : Holding → ℕ) (e : ℕ) (w : Drive) (c : Config) → w.table.config ≡ c → view q e w ≡ sum_to (weight q e w) c.blocks
unfolding view
view_over q e w c same = ap (λ (x : Config). sum_to (weight q e w) x.blocks) same

module _ {d n : ℕ} {v w : Drive} (c : Changed d n v w) where
  -- A view changes by what block n was and is.
  pub view_changed : (q : Holding → ℕ) (e : ℕ) → view q e w + weight q e v n ≡ view q e v + weight q e w n
  view_changed q e =
      omega (
        arith,
        view_over q e w v.table.config c.config,
        view_over q e v v.table.config refl,
        sum_at (size v.table) (weight q e w) (weight q e v) n c.inside
            (λ m l other. weight_same q e v w m (c.blocks m other) (c.entries m l other)),
      )

  -- The domain's own record is what it was but for the last serial.
  pub own_field : {A : Type 0} (field : Domain → A)
      → field (domain_at w.table d) ≡ field (with_last (domain_at w.table d).last (domain_at v.table d))
  own_field field = ap field c.own

  -- Any other domain cannot tell.
  pub changed_apart : (e : ℕ) → 1 ≤ e → ¬ (e ≡ d) → Alike e v w
  changed_apart e p other = record {
    config = sym c.config;
    domain = sym (c.domains e p other);
    views = λ q. let h = view_changed q e in omega (arith, rw (c.before e p other, c.after e p other) at h);
  }

-- A domain that cannot tell two drives apart cannot tell them apart after the same change of a block.
pub alike_changed : {a n m : ℕ} {v v' w w' : Drive} → Alike a v w → Changed a n v v' → Changed a m w w'
    → ((q : Holding → ℕ) → weight q a v n ≡ weight q a w m)
    → ((q : Holding → ℕ) → weight q a v' n ≡ weight q a w' m)
    → domain_at v'.table a ≡ domain_at w'.table a
    → Alike a v' w'
alike_changed {a} {n} {m} {v} {v'} {w} {w'} s c k old new same = record {
  config = c.config ∙ s.config ∙ sym k.config;
  domain = same;
  views = λ q. omega (arith, view_changed c q a, view_changed k q a, s.views q, old q, new q);
}
