-- Six fields, one behind the other: the page's first.
use Prim.Native.Nat.{◌≤◌}
use mathlib.Core.Path.{refl}
use native.Mathlib.Omega.{arith}
use lib.ListN.{length}
use Rattle.geometry.specs.Bytes.{little_endian}
use Rattle.log_pages.proofs.Filling.{next_field, one_field}
use Rattle.rules.specs.LogPages.{bytes_of, page, placement_field, state_byte}
use Rattle.log_pages.proofs.pages.put_identity.Goals as goal

pub returns : goal.returns
unfolding page bytes_of little_endian
returns c = let a = c.args in λ config. let b = a.block in
    let l : 0 ≤ length a.bytes.now = omega arith in
    let f1 = one_field 2 1 refl c.put_field.ensures in
    let f2 = next_field 1 0 refl l f1 c.put_field-2.ensures in
    let f3 = next_field 1 (state_byte b.state) c.state_byte.ensures.0 l f2 c.put_field-3.ensures in
    let f4 = next_field 4 a.number refl l f3 c.put_field-4.ensures in
    let f5 = next_field 2 (placement_field b.state) c.placement_field.ensures l f4 c.put_field-5.ensures in
    (next_field 2 b.holder refl l f5 c.put_field-6.ensures).are
