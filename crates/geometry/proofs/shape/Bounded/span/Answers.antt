-- b is at most 20, so the shift loses nothing.
use mathlib.Core.Path.{◌∙◌}
use Prim.Native.Nat.{◌^◌, ◌≤◌, ◌+◌}
use native.Mathlib.Nat.{one-mul}
use lib.Dec.{lit<}
use lib.Pow.{shl_exact}
use native.Mathlib.Omega.{arith}
use Rattle.geometry.specs.Address.{offset_bits}
use Rattle.geometry.proofs.Laws.Address.{bits_laws}
use Rattle.geometry.proofs.Laws.Shape.{limits}
use Rattle.geometry.proofs.shape.Bounded.span.Goals as goal

pub overflow_shl-result : goal.overflow_shl-result
overflow_shl-result c =
    let s = c.args.self in
    rw c.bits.ensures (omega (arith, (bits_laws s.config (limits s.config s.within)).few))

pub returns : goal.returns
returns c =
    let s = c.args.self in
    let b = offset_bits s.config in
    let small : 1 + b ≤ 64 = omega (arith, (bits_laws s.config (limits s.config s.within)).few) in
    rw c.bits.ensures (shl_exact 1 b 64 (lit< tt) small ∙ one-mul (2 ^ b))
