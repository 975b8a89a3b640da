-- Four fields, one behind the other.
use Prim.Native.Nat.{◌≤◌}
use mathlib.Core.Path.{refl}
use native.Mathlib.Omega.{arith}
use lib.ListN.{length}
use Rattle.log_pages.proofs.Filling.{next_field, one_field}
use Rattle.log_pages.proofs.lists.put_descriptor.Goals as goal

pub returns : goal.returns
returns c = let z = c in let a = z.args in let l : a.at ≤ length a.bytes.now = omega (arith, z.requires) in
    let f1 = one_field 4 a.number refl c.put_field.ensures in
    let f2 = next_field 1 a.index refl l f1 c.put_field-2.ensures in
    let f3 = next_field 1 a.mark refl l f2 c.put_field-3.ensures in
    (next_field 2 0 refl l f3 c.put_field-4.ensures).are
