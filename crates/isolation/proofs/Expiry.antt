-- In every run of the program an open block's expiry runs from its erase.
use Prim.Native.Nat.{ℕ, suc, ◌+◌, ◌≤◌, ◌<◌}
use mathlib.Core.Bool.{true}
use mathlib.Core.Path.{◌≡◌, sym, subst}
use lib.ListN.{take}
use Rattle.isolation.specs.Claim.{Expiry, next_call}
use Rattle.isolation.specs.Runs.{Run, calls_of, configuration, first, program_after, reference_after}
use Rattle.isolation.proofs.Reference.{follows_reference, run_within}
use Rattle.model.specs.declared.command.Command.TheVariants.{Pulse}
use Rattle.rules.proofs.Claims as rules
use Rattle.rules.specs.Calls.{lending}
use Rattle.rules.specs.Countdown.{Expires, elapsed}
use Rattle.rules.specs.Drive.{Drive, block_at, is_open}

module _ (r : Run) (i n : ℕ) (inside : n < (configuration r).blocks) where
  -- What is so of the reference machine's drive is so of the program's.
  of_program : (P : Drive → Type 0) (j : ℕ) → P (reference_after j r) → P (program_after j r)
  of_program P j = subst P (sym (follows_reference r j))

  pub expires : Expiry r i n
  expires = record {
    counts_down =
        of_program
        (λ v. is_open (block_at v.table n) ≡ true
        → (block_at v.table n).left + elapsed n (take i (calls_of r)) (first r) ≡ (configuration r).period) i
        (rules.countdown (configuration r) r.store (take i (calls_of r)) n (run_within r) inside);
    some_left =
        of_program (λ v. is_open (block_at v.table n) ≡ true → 1 ≤ (block_at v.table n).left) i
        (rules.some_left (configuration r) r.store (take i (calls_of r)) n (run_within r) r.whole inside);
    expires =
        of_program (λ v. Expires n (next_call i r) v (program_after (suc i) r)) i
        (of_program (Expires n (next_call i r) (reference_after i r)) (suc i)
        (rules.expires (configuration r) r.store (calls_of r) (lending (Pulse 0) 0 0 0) i n (run_within r) r.whole inside));
  }
