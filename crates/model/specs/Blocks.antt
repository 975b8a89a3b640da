-- Document 01, "Blocks": the changes of a block's record. "Each block goes from state to state only by these."
use Rattle.std.specs.Prelude.{ℕ, ◌+◌, ◌-◌, min, Bool, true, false, ◌&&◌, cond, List, [], ◌∷◌, eqb, ltb}
use Rattle.geometry.specs.Shape.{adus}
use Rattle.geometry.specs.declared.shape.Adus.{Adus}
use Rattle.model.specs.declared.block.Block.{Block}
use Rattle.model.specs.declared.block.State.{State}
use Rattle.model.specs.declared.block.State.TheVariants.{Closed, Free, Open}
use Rattle.model.specs.declared.block.Way.{Way}

-- The record with another state and seconds left, or with another written count.
abbrev pub with_state : State → ℕ → Block → Block
with_state state left b =
    record { state = state; holder = b.holder; written = b.written; left = left; erases = b.erases; serial = b.serial }

abbrev pub with_written : Adus → Block → Block
with_written written b =
    record { state = b.state; holder = b.holder; written = written; left = b.left; erases = b.erases; serial = b.serial }

-- One more, and no more than 4,294,967,295.
abbrev pub one_more_erase : ℕ → ℕ
one_more_erase n = cond (ltb n 4294967295) (n + 1) n

-- Opening: nothing written, T seconds left, one more erase, and its holder, way of opening and serial.
abbrev pub opened : ℕ → Way → ℕ → ℕ → Block → Block
opened holder way serial period b = record {
  state = Open way;
  holder = holder;
  written = adus 0;
  left = period;
  erases = one_more_erase b.erases;
  serial = serial;
}

-- Closing: an open block has 0 seconds left and keeps the rest of its record; any other stays as it is.
abbrev pub closed_from : State → Block → Block
closed_from Free b = b
closed_from (Closed way) b = b
closed_from (Open way) b = with_state (Closed way) 0 b

unfoldable pub closed : Block → Block
closed b = closed_from b.state b

-- The record of a Free block, which is clear but for the P/E count.
abbrev pub free_block : ℕ → Block
free_block erases = record { state = Free; holder = 0; written = adus 0; left = 0; erases = erases; serial = 0 }

-- Freeing: all of the record is cleared but the P/E count.
abbrev pub freed : Block → Block
freed b = free_block b.erases

-- Writing on: an open block has so many ADUs more, no more than its capacity, and is Closed at its last one.
abbrev pub written_from : State → Adus → Adus → Block → Block
written_from Free count capacity b = b
written_from (Closed way) count capacity b = b
written_from (Open way) count capacity b =
    let written = min (b.written.0 + count.0) capacity.0 in
    let filled = with_written (adus written) b in
    cond (ltb written capacity.0) filled (closed filled)

unfoldable pub written_on : Adus → Adus → Block → Block
written_on count capacity b = written_from b.state count capacity b

-- Counting down: an open block has so many seconds less; at 0 or below it is Closed with 0 left.
abbrev pub counted_from : State → ℕ → Block → Block
counted_from Free seconds b = b
counted_from (Closed way) seconds b = b
counted_from (Open way) seconds b =
    cond (ltb seconds b.left) (with_state (Open way) (b.left - seconds) b) (closed b)

unfoldable pub counted_down : ℕ → Block → Block
counted_down seconds b = counted_from b.state seconds b

-- A change, the record after it, and after several.
pub data Change : Type 0 where
  opening : (holder : ℕ) (way : Way) (serial period : ℕ) → Change
  writing : (count capacity : Adus) → Change
  closing : Change
  freeing : Change
  counting : (seconds : ℕ) → Change

abbrev pub changed : Change → Block → Block
changed (opening holder way serial period) b = opened holder way serial period b
changed (writing count capacity) b = written_on count capacity b
changed closing b = closed b
changed freeing b = freed b
changed (counting seconds) b = counted_down seconds b

unfoldable pub changed_by : List Change → Block → Block
changed_by [] b = b
changed_by (x ∷ xs) b = changed_by xs (changed x b)

abbrev pub opens : Change → Bool
opens (opening holder way serial period) = true
opens (writing count capacity) = false
opens closing = false
opens freeing = false
opens (counting seconds) = false

-- A change that, if it opens the block, does so for this holder, with a serial above the last one and for this period.
abbrev pub opens_newly : ℕ → ℕ → ℕ → Change → Bool
opens_newly holder last period (opening h way serial p) = eqb h holder && ltb last serial && eqb p period
opens_newly holder last period (writing count capacity) = true
opens_newly holder last period closing = true
opens_newly holder last period freeing = true
opens_newly holder last period (counting seconds) = true

unfoldable pub all_changes : (Change → Bool) → List Change → Bool
all_changes p [] = true
all_changes p (x ∷ xs) = p x && all_changes p xs

-- A block that this holder has with a serial above the last one.
abbrev pub has_new_serial : ℕ → ℕ → Block → Bool
has_new_serial holder last b = eqb b.holder holder && ltb last b.serial
