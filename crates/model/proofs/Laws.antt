-- The laws of a block's changes.
use Prim.Native.Nat.{ℕ, ◌+◌, ◌≤◌, min}
use mathlib.Core.Bool.{true, false, true≢false, ◌&&◌}
use mathlib.Core.List.{List, [], ◌∷◌}
use mathlib.Core.Path.{◌≡◌, refl, sym, ◌∙◌}
use native.Mathlib.Omega.{arith}
use lib.Dec.{eqb, ltb}
use Rattle.geometry.proofs.Laws.Shape.{both, by_test}
use Rattle.geometry.specs.Shape.{adus}
use Rattle.geometry.specs.declared.shape.Adus.{Adus}
use Rattle.model.specs.Blocks.{Change, all_changes, changed, changed_by, closed, closed_from, counting, closing, counted_down, counted_from, freeing, has_new_serial, opening, opens, opens_newly, with_written, writing, written_from, written_on}
use Rattle.model.specs.declared.block.Block.{Block}
use Rattle.model.specs.declared.block.State.{State}
use Rattle.model.specs.declared.block.State.TheVariants.{Closed, Free, Open}
use Rattle.model.specs.declared.block.Way.{Way}

-- Closing, writing on and counting down keep holder and serial, and let seconds left not rise.
record Kept (before after : Block) : Type 0 where
  holder : after.holder ≡ before.holder
  serial : after.serial ≡ before.serial
  left : after.left ≤ before.left

all_kept : (b : Block) → Kept b b
all_kept b = record { holder = refl; serial = refl; left = omega arith }

closed_kept : (s : State) (b : Block) → Kept b (closed_from s b)
closed_kept Free b = all_kept b
closed_kept (Closed way) b = all_kept b
closed_kept (Open way) b = record { holder = refl; serial = refl; left = omega arith }

written_kept : (s : State) (count capacity : Adus) (b : Block) → Kept b (written_from s count capacity b)
unfolding closed
written_kept Free count capacity b = all_kept b
written_kept (Closed way) count capacity b = all_kept b
written_kept (Open way) count capacity b =
    let written = min (b.written.0 + count.0) capacity.0 in
    by_test (ltb written capacity.0)
    (λ e. rw e (record { holder = refl; serial = refl; left = omega arith }))
    (λ e. rw e
    (let k = closed_kept b.state (with_written (adus written) b) in
    record { holder = k.holder; serial = k.serial; left = k.left }))

counted_kept : (s : State) (seconds : ℕ) (b : Block) → Kept b (counted_from s seconds b)
unfolding closed
counted_kept Free seconds b = all_kept b
counted_kept (Closed way) seconds b = all_kept b
counted_kept (Open way) seconds b =
    by_test (ltb seconds b.left)
    (λ e. rw e (record { holder = refl; serial = refl; left = omega arith }))
    (λ e. rw e (closed_kept b.state b))

-- No change but opening winds the countdown up again.
pub never_rewound : (x : Change) (b : Block) → opens x ≡ false → (changed x b).left ≤ b.left
unfolding closed written_on counted_down
never_rewound (opening holder way serial period) b e = absurd (true≢false e)
never_rewound (writing count capacity) b e = (written_kept b.state count capacity b).left
never_rewound closing b e = (closed_kept b.state b).left
never_rewound freeing b e = omega arith
never_rewound (counting seconds) b e = (counted_kept b.state seconds b).left

-- Opening starts it at the period.
pub opening_starts : (holder : ℕ) (way : Way) (serial period : ℕ) (b : Block)
    → (changed (opening holder way serial period) b).left ≡ period
opening_starts holder way serial period b = refl

-- Seconds left that are at most so many, but for a block with a new serial, stay so by every change that opens newly.
module _ (d last period most : ℕ) where
  abbrev Aged : Block → Type 0
  Aged b = has_new_serial d last b ≡ false → b.left ≤ most

  kept_aged : (b after : Block) → Kept b after → Aged b → Aged after
  kept_aged b after k aged e = omega (arith, k.left, aged (rw (← k.holder, ← k.serial) e))

  change_aged : (x : Change) (b : Block) → opens_newly d last period x ≡ true → Aged b → Aged (changed x b)
  unfolding closed written_on counted_down
  change_aged (opening holder way serial p) b new aged e =
      absurd (true≢false (sym (both (eqb holder d && ltb last serial) (eqb p period) new).0 ∙ e))
  change_aged (writing count capacity) b new aged e = kept_aged b _ (written_kept b.state count capacity b) aged e
  change_aged closing b new aged e = kept_aged b _ (closed_kept b.state b) aged e
  change_aged freeing b new aged e = omega arith
  change_aged (counting seconds) b new aged e = kept_aged b _ (counted_kept b.state seconds b) aged e

  changes_aged : (xs : List Change) (b : Block) → all_changes (opens_newly d last period) xs ≡ true → Aged b → Aged (changed_by xs b)
  unfolding all_changes changed_by
  changes_aged [] b new aged = aged
  changes_aged (x ∷ xs) b new aged =
      let h = both (opens_newly d last period x) (all_changes (opens_newly d last period) xs) new in
      changes_aged xs (changed x b) h.1 (change_aged x b h.0 aged)

-- So a block without a new serial has no more seconds left, whatever changes it went through.
pub old_not_rewound : (d last period : ℕ) (xs : List Change) (b : Block)
    → all_changes (opens_newly d last period) xs ≡ true
    → has_new_serial d last (changed_by xs b) ≡ false
    → (changed_by xs b).left ≤ b.left
old_not_rewound d last period xs b new = changes_aged d last period b.left xs b new (λ e. omega arith)
