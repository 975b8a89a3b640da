use Prim.Native.Nat.{◌+◌, ◌-◌, ◌*◌}
use mathlib.Core.Path.{◌≡◌, refl, ◌∙◌}
use native.Mathlib.Omega.{arith}
use Rattle.geometry.specs.Bytes.{little_endian, numbers}
use lib.ListN.{get_or}
use Rattle.geometry.proofs.Laws.Bytes.{eight_bytes, one_more}
use Rattle.geometry.proofs.bytes.put_numbers.Goals as goal

pub loop-i-init : goal.loop-i-init
unfolding numbers
loop-i-init c = refl

pub loop-i-preserved : goal.loop-i-preserved
loop-i-preserved c =
    let i = c.loop-i.i in
    let n = get_or c.args.values.now i 0 in
    let over : 8 * i + 8 - 8 * i ≡ 8 = omega arith in
    let bytes : c.copy_from_slice.new.self ≡ little_endian 8 n = c.copy_from_slice.ensures.after ∙ c.to_le_bytes.ensures ∙ eight_bytes n in
    rw (bytes, c.loop-i.invariant, over) (one_more c.args.values.now i c.args.out.now (omega arith))
