-- An open block's expiry runs from its erase: the seconds that have passed since a block was opened.
use Rattle.std.specs.Prelude.{ℕ, ◌+◌, ◌≤◌, ◌<◌, Bool, true, false, ◌&&◌, cond, List, [], ◌∷◌, ◌≡◌}
use Rattle.model.specs.Blocks.{one_more_erase}
use Rattle.model.specs.declared.command.Command.TheVariants.{Pulse}
use Rattle.rules.specs.Calls.{Call, ◌asking◌, is_pulse, profile_of}
use Rattle.rules.specs.Drive.{Drive, block_at, domain_at, is_closed, is_open}
use Rattle.rules.specs.Effects.{accepted, step}

-- The seconds of a call, if it is an accepted pulse.
abbrev pub pulse_of : Drive → Call → ℕ
pulse_of v k = cond (accepted v k) (profile_of k.asks).seconds 0

-- The seconds of the accepted pulses since block n was opened; meant for a block that is open after the list. A call that finds the block
-- not open sets the sum to 0.
unfoldable pub elapsed_from : ℕ → ℕ → List Call → Drive → ℕ
elapsed_from seconds n [] v = seconds
elapsed_from seconds n (k ∷ ks) v =
    elapsed_from (cond (is_open (block_at v.table n)) (seconds + pulse_of v k) 0) n ks (step k v)

abbrev pub elapsed : ℕ → List Call → Drive → ℕ
elapsed n ks v = elapsed_from 0 n ks v

-- A pulse closes block n.
abbrev pub closes_by_pulse : ℕ → Drive → ℕ → Call → Bool
closes_by_pulse n v seconds k =
    is_open (block_at v.table n) && is_closed (block_at (step (k asking Pulse seconds) v).table n)

-- ---- How a call may open or close a block

-- What call k, from drive v to drive w, makes of block n. If it opens it, it is accepted, counts an erase and gives a serial above the
-- last one that the block's domain had; if it is a pulse and closes it, it is at least as long as the seconds that the block had left.
pub record Expires (n : ℕ) (k : Call) (v w : Drive) : Type 0 where
  pub opens_by_erase : is_open (block_at v.table n) ≡ false
      → is_open (block_at w.table n) ≡ true
      → (accepted v k ≡ true)
      × ((block_at w.table n).erases ≡ one_more_erase (block_at v.table n).erases)
      × ((domain_at v.table (block_at w.table n).holder).last < (block_at w.table n).serial)
  pub closes_in_time : is_pulse k.asks ≡ true
      → is_open (block_at v.table n) ≡ true
      → is_open (block_at w.table n) ≡ false
      → (block_at v.table n).left ≤ pulse_of v k
