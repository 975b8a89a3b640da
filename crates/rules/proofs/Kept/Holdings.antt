-- What a change of a block's record makes of a holding: it looks at neither holder nor P/E count.
use Prim.Native.Nat.{ℕ, ◌+◌, min}
use mathlib.Core.List.{List}
use mathlib.Core.Path.{◌≡◌, refl}
use lib.Dec.{ltb}
use lib.ListN.{length}
use Rattle.geometry.proofs.Laws.Shape.{by_test}
use Rattle.geometry.specs.Shape.{adus}
use Rattle.geometry.specs.declared.shape.Adus.{Adus}
use Rattle.model.specs.Blocks.{closed, counted_down, written_on}
use Rattle.model.specs.declared.block.Block.{Block}
use Rattle.model.specs.declared.block.State.{State}
use Rattle.model.specs.declared.block.State.TheVariants as state
use Rattle.rules.specs.Drive.{overwritten}
use Rattle.rules.specs.Observation.{Holding}

-- A block's record with its entries, as its domain sees it.
abbrev pub seen_of : Block → List ℕ → Holding
seen_of b entries = record { serial = b.serial; state = b.state; written = b.written.0; left = b.left; entries = entries }

-- A holding as a block's record without holder and P/E count.
abbrev bare : Holding → Block
bare h = record { state = h.state; holder = 0; written = adus h.written; left = h.left; erases = 0; serial = h.serial }

-- ---- Closing

abbrev pub closed_holding : Holding → Holding
closed_holding h = seen_of (closed (bare h)) h.entries

pub closed_seen : (s : State) (holder : ℕ) (written : Adus) (left erases serial : ℕ) (entries : List ℕ)
    → let b : Block = record { state = s; holder = holder; written = written; left = left; erases = erases; serial = serial } in
    seen_of (closed b) entries ≡ closed_holding (seen_of b entries)
unfolding closed
closed_seen state.Free holder written left erases serial entries = refl
closed_seen (state.Open way) holder written left erases serial entries = refl
closed_seen (state.Closed way) holder written left erases serial entries = refl

-- ---- Writing on

abbrev pub written_holding : List ℕ → ℕ → Holding → Holding
written_holding users capacity h =
    seen_of (written_on (adus (length users)) (adus capacity) (bare h)) (overwritten h.written users h.entries)

pub written_seen : (s : State) (holder : ℕ) (written : Adus) (left erases serial : ℕ) (users entries : List ℕ) (capacity : ℕ)
    → let b : Block = record { state = s; holder = holder; written = written; left = left; erases = erases; serial = serial } in
    seen_of (written_on (adus (length users)) (adus capacity) b) (overwritten written.0 users entries)
    ≡ written_holding users capacity (seen_of b entries)
unfolding closed written_on
written_seen state.Free holder written left erases serial users entries capacity = refl
written_seen (state.Open way) holder written left erases serial users entries capacity =
    by_test (ltb (min (written.0 + length users) capacity) capacity) (λ e. rw e) (λ e. rw e)
written_seen (state.Closed way) holder written left erases serial users entries capacity = refl

-- ---- Counting down

abbrev pub aged : ℕ → Holding → Holding
aged seconds h = seen_of (counted_down seconds (bare h)) h.entries

pub counted_seen : (seconds : ℕ) (s : State) (holder : ℕ) (written : Adus) (left erases serial : ℕ) (entries : List ℕ)
    → let b : Block = record { state = s; holder = holder; written = written; left = left; erases = erases; serial = serial } in
    seen_of (counted_down seconds b) entries ≡ aged seconds (seen_of b entries)
unfolding counted_down closed
counted_seen seconds state.Free holder written left erases serial entries = refl
counted_seen seconds (state.Closed way) holder written left erases serial entries = refl
counted_seen seconds (state.Open way) holder written left erases serial entries =
    by_test (ltb seconds left) (λ e. rw e) (λ e. rw e)
