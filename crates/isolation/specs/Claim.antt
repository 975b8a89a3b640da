-- Demand 3, and the expiry of open blocks, as one claim about whole runs of the program. Serials, coverage, quotas and what A holds are
-- read off the reference machine, which is never handed the program's table; answers and outputs are the program's. The expiry is said of
-- the program's own table; only the seconds that have passed are the reference machine's.
use Rattle.std.specs.Prelude.{ℕ, suc, ◌+◌, ◌≤◌, ◌<◌, true, ◌≡◌, get_or, length, take}
use Rattle.geometry.specs.Address.{is_domain_id}
use Rattle.isolation.specs.Calls.{StartCall, config_of}
use Rattle.isolation.specs.Runs.{Run, Untouched, calls_of, configuration, exchanges_of, first, program_after, reference_after}
use Rattle.manager.specs.Starting.{begun}
use Rattle.model.specs.declared.block.Block.{Block}
use Rattle.model.specs.declared.command.Command.TheVariants.{Pulse}
use Rattle.rules.specs.Calls.{Call, lending}
use Rattle.rules.specs.Claims.{Guaranteed}
use Rattle.rules.specs.Countdown.{Expires, elapsed}
use Rattle.rules.specs.Drive.{block_at, is_open}
use Rattle.rules.specs.Noninterference.{Indistinguishable, Replied, fully_reserved, inputs}
use Rattle.rules.specs.Start.{started}

-- Block n in the program's own table after i calls, and the call that comes next. (Behind the last call a pulse of
-- 0 seconds stands for it, which is never made; the table stays.)
abbrev pub block_after : ℕ → ℕ → Run → Block
block_after n i r = block_at (program_after i r).table n

abbrev pub next_call : ℕ → Run → Call
next_call i r = get_or (calls_of r) i (lending (Pulse 0) 0 0 0)

-- An open block's expiry runs from its erase.
pub record Expiry (r : Run) (i n : ℕ) : Type 0 where
  -- After i calls an open block has T less the seconds of the accepted pulses since it was opened, and at least one.
  pub counts_down : is_open (block_after n i r) ≡ true
      → (block_after n i r).left + elapsed n (take i (calls_of r)) (first r) ≡ (configuration r).period
  pub some_left : is_open (block_after n i r) ≡ true → 1 ≤ (block_after n i r).left
  -- The next call opens it by an erase alone, and closes it, if it is a pulse, only when its seconds are over.
  pub expires : Expires n (next_call i r) (program_after i r) (program_after (suc i) r)

pub record Isolation : Type 0 where
  -- Every start is answered, and gives the table, that the rules say.
  pub starts : (s : StartCall) → begun s.result ≡ started (config_of s)
  -- Of every run: after every call the program's table and the run's store are the reference machine's, ..
  pub follows_reference : (r : Run) (i : ℕ) → program_after i r ≡ reference_after i r
  -- .. every reply is what the rules give, ..
  pub replies : (r : Run) → Replied (exchanges_of r) (first r)
  -- .. and nothing beyond it is touched.
  pub untouched : (r : Run) → Untouched (configuration r) r.calls (first r)
  -- Of every run: after every call each guarantee is covered and no quota is passed.
  pub guarantees : (r : Run) (i : ℕ) → Guaranteed (reference_after i r).table
  -- Of every two runs of one configuration, in which the domain a is fully reserved and has the same inputs: after as many inputs in
  -- both, wherever each run stands between two of them, a has observed the same and holds the same.
  pub noninterference : (a : ℕ) (r s : Run)
      → is_domain_id a ≡ true
      → configuration r ≡ configuration s
      → fully_reserved a (calls_of r) (first r) ≡ true
      → fully_reserved a (calls_of s) (first s) ≡ true
      → inputs a (calls_of r) (first r) ≡ inputs a (calls_of s) (first s)
      → (i j : ℕ)
      → length (inputs a (take i (calls_of r)) (first r)) ≡ length (inputs a (take j (calls_of s)) (first s))
      → Indistinguishable a (take i (exchanges_of r)) (take j (exchanges_of s)) (first r) (first s)
  -- Of every run, after every call, of every block of the drive: its expiry runs from its erase.
  pub expiry : (r : Run) (i n : ℕ) → n < (configuration r).blocks → Expiry r i n
