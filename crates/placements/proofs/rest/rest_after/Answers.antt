-- Nothing, or the ADUs from there on.
use native.Mathlib.Omega.{arith}
use Rattle.buffers.proofs.UserAddresses.{fit_fewer}
use Rattle.placements.proofs.rest.rest_after.Goals as goal

pub user_address-requires : goal.user_address-requires
user_address-requires c = let z = c in let a = z.args in
    fit_fewer a.rest.start a.room.0 a.rest.count.0 (omega (arith, c.if-count-room.false)) z.requires.0
