-- Closing a block, writing on it and counting it down are mild: holder and serial stay, it is open only if it was, and what a block
-- of a sound table must have, it has.
use Prim.Native.Nat.{ℕ, ◌+◌, ◌-◌, ◌≤◌, ◌<◌, min}
use mathlib.Core.Bool.{true, cond}
use mathlib.Core.Path.{◌≡◌, refl, sym, ap, subst}
use native.Mathlib.Omega.{arith}
use lib.Dec.{ltb}
use borrow.Author.Tests.{ltb-true}
use Rattle.geometry.proofs.Laws.Shape.{by_test}
use Rattle.geometry.specs.Shape.{adus, adus_per_block}
use Rattle.geometry.specs.declared.shape.Adus.{Adus}
use Rattle.model.specs.Blocks.{closed, closed_from, counted_down, counted_from, with_state, with_written, written_from, written_on}
use Rattle.model.specs.declared.block.Block.{Block}
use Rattle.model.specs.declared.block.State.{State}
use Rattle.model.specs.declared.block.State.TheVariants.{Closed, Free, Open}
use Rattle.model.specs.declared.block.Way.{Way}
use Rattle.model.specs.declared.table.Table.{Table}
use Rattle.rules.specs.Drive.{domain_at, is_open, is_open_for, is_open_state, is_placed_state}
use Rattle.rules.specs.Soundness.{state_below}
use Rattle.rules.proofs.Kept.Facts.{BlockFacts, OpenFacts, Owned, StateFacts}

-- What is asked of a block in the state s and the block after a change.
record MildFrom (t : Table) (s : State) (b after : Block) : Type 0 where
  holder : after.holder ≡ b.holder
  serial : after.serial ≡ b.serial
  opens : cond (is_open after) 1 0 ≤ cond (is_open_state s) 1 0
  placed : (p : ℕ) → cond (is_open_for p after) 1 0 ≤ cond (is_placed_state p s) 1 0
  facts : StateFacts t s b → BlockFacts t after

pub record Mild (t : Table) (b after : Block) : Type 0 where
  pub holder : after.holder ≡ b.holder
  pub serial : after.serial ≡ b.serial
  pub opens : cond (is_open after) 1 0 ≤ cond (is_open b) 1 0
  pub placed : (p : ℕ) → cond (is_open_for p after) 1 0 ≤ cond (is_open_for p b) 1 0
  pub facts : BlockFacts t b → BlockFacts t after

mild : (t : Table) (b after : Block) → MildFrom t b.state b after → Mild t b after
mild t b after m = record { holder = m.holder; serial = m.serial; opens = m.opens; placed = m.placed; facts = m.facts }

-- A block that stays as it is.
stays : (t : Table) (s : State) (b : Block) → b.state ≡ s → MildFrom t s b b
stays t s b same = record {
  holder = refl;
  serial = refl;
  opens = rw same (omega arith);
  placed = λ p. rw same (omega arith);
  facts = λ f. subst (λ (x : State). StateFacts t x b) (sym same) f;
}

-- An open block that is Closed, or that stays open, with another written count and other seconds left.
module _ (t : Table) (way : Way) (b : Block) (same : b.state ≡ Open way) where
  abbrev shut_with : ℕ → Block
  shut_with written = with_state (Closed way) 0 (with_written (adus written) b)

  below_on : Owned t b → state_below (domain_at t b.holder).placements (Open way) ≡ true
  below_on o = subst (λ (s : State). state_below (domain_at t b.holder).placements s ≡ true) same o.below

  owned_on : (after : Block) → after.holder ≡ b.holder → after.serial ≡ b.serial
      → state_below (domain_at t b.holder).placements after.state ≡ true → Owned t b → Owned t after
  owned_on after h s below o = record {
    low = rw h o.low;
    high = rw h o.high;
    exists = rw h o.exists;
    first = rw s o.first;
    last = rw (h, s) o.last;
    below = rw h below;
  }

  closes : (written : ℕ) → (OpenFacts t b → written ≤ (adus_per_block t.config).0) → MildFrom t (Open way) b (shut_with written)
  closes written few = record {
    holder = refl;
    serial = refl;
    opens = omega arith;
    placed = λ p. omega arith;
    facts = λ f. record { owned = owned_on (shut_with written) refl refl (below_on f.owned) f.owned; written = few f; left = refl };
  }

  abbrev goes_on : ℕ → ℕ → Block
  goes_on written left = with_state (Open way) left (with_written (adus written) b)

  goes_on_lem : (written left : ℕ) → (OpenFacts t b → (written < (adus_per_block t.config).0) × (1 ≤ left) × (left ≤ t.config.period))
      → MildFrom t (Open way) b (goes_on written left)
  goes_on_lem written left enough = record {
    holder = refl;
    serial = refl;
    opens = omega arith;
    placed = λ p. omega arith;
    facts = λ f. record {
      owned = owned_on (goes_on written left) refl refl (below_on f.owned) f.owned;
      written = (enough f).0;
      some_left = (enough f).1;
      left = (enough f).2;
    };
  }

closed_from_lem : (t : Table) (s : State) (b : Block) → b.state ≡ s → MildFrom t s b (closed_from s b)
closed_from_lem t Free b same = stays t Free b same
closed_from_lem t (Closed way) b same = stays t (Closed way) b same
closed_from_lem t (Open way) b same = closes t way b same b.written.0 (λ f. omega (arith, f.written))

pub closed_mild : (t : Table) (b : Block) → Mild t b (closed b)
unfolding closed
closed_mild t b = mild t b (closed_from b.state b) (closed_from_lem t b.state b refl)

written_from_lem : (t : Table) (s : State) (count : Adus) (b : Block) → b.state ≡ s
    → MildFrom t s b (written_from s count (adus_per_block t.config) b)
unfolding closed
written_from_lem t Free count b same = stays t Free b same
written_from_lem t (Closed way) count b same = stays t (Closed way) b same
written_from_lem t (Open way) count b same =
    let most : ℕ = (adus_per_block t.config).0 in
    let written : ℕ = min (b.written.0 + count.0) most in
    let filled : Block = with_written (adus written) b in
    by_test (ltb written most)
    (λ e. rw e (subst (MildFrom t (Open way) b) (sym (ap (λ (s : State). with_state s b.left filled) same))
    (goes_on_lem t way b same written b.left (λ f. (ltb-true written most e, f.some_left, f.left)))))
    (λ e. rw e (subst (MildFrom t (Open way) b) (sym (ap (λ (s : State). closed_from s filled) same))
    (closes t way b same written (λ f. omega arith))))

pub written_mild : (t : Table) (count : Adus) (b : Block) → Mild t b (written_on count (adus_per_block t.config) b)
unfolding written_on
written_mild t count b = mild t b _ (written_from_lem t b.state count b refl)

counted_from_lem : (t : Table) (s : State) (seconds : ℕ) (b : Block) → b.state ≡ s → MildFrom t s b (counted_from s seconds b)
unfolding closed
counted_from_lem t Free seconds b same = stays t Free b same
counted_from_lem t (Closed way) seconds b same = stays t (Closed way) b same
counted_from_lem t (Open way) seconds b same =
    by_test (ltb seconds b.left)
    (λ e. rw e (goes_on_lem t way b same b.written.0 (b.left - seconds)
    (λ f. (f.written, omega (arith, ltb-true seconds b.left e), omega (arith, f.left)))))
    (λ e. rw e (subst (MildFrom t (Open way) b) (sym (ap (λ (s : State). closed_from s b) same))
    (closes t way b same b.written.0 (λ f. omega (arith, f.written)))))

pub counted_mild : (t : Table) (seconds : ℕ) (b : Block) → Mild t b (counted_down seconds b)
unfolding counted_down
counted_mild t seconds b = mild t b (counted_from b.state seconds b) (counted_from_lem t b.state seconds b refl)
