-- Whether the last of the user addresses can be told says it of all.
use native.Mathlib.Omega.{arith}
use Rattle.buffers.proofs.UserAddresses.{fit_sums}
use Rattle.buffers.proofs.user_addresses.user_addresses_fit.Goals as goal

pub returns : goal.returns
returns c = let z = c in fit_sums z.args.start z.args.count.0 (omega (arith, z.requires)) (omega (arith, z.requires)) (omega (arith, z.requires))
