use Rattle.geometry.proofs.Laws.Shape.{by_test}
use lib.Dec.{ltb}
use Rattle.rules.specs.Domains.{open_limit}
use Prim.Native.Nat.{ℕ, ◌≤◌}
use native.Mathlib.Omega.{arith}
use Rattle.domains.proofs.Reservations.{few_both}
use Rattle.domains.proofs.reserving.created_domain.Goals as goal

-- Each field by its function; both counts are few blocks.
-- The limit is small, raised or not.
few_open : (placements limit : ℕ) → placements ≤ 16 → limit ≤ 256 → open_limit placements limit ≤ 256
few_open placements limit p l =
    by_test (ltb limit placements) (λ e. rw e (omega arith)) (λ e. rw e l)

pub block_count-reserved-requires : goal.block_count-reserved-requires
block_count-reserved-requires c = let a = c.args in record { config_value = c.requires.config_value; n_bound = (few_both a.config a.guarantee a.quota c.requires.config_value c.requires.quota_value).0 }

pub block_count-requires : goal.block_count-requires
block_count-requires c = let z = c in let a = z.args in record { config_value = z.requires.config_value; n_bound = (few_both a.config a.guarantee a.quota z.requires.config_value z.requires.quota_value).1 }
