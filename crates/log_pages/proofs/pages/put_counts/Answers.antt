-- Seven fields, one behind the other: the rest of the page.
use Prim.Native.Nat.{◌≤◌}
use mathlib.Core.Bool.{cond}
use mathlib.Core.Path.{refl, ◌∙◌}
use native.Mathlib.Omega.{arith}
use lib.ListN.{length}
use Rattle.geometry.specs.Bytes.{little_endian}
use Rattle.log_pages.proofs.Filling.{next_field, one_field}
use Rattle.rules.specs.Drive.{block_adus, is_open}
use Rattle.rules.specs.LogPages.{bytes_of, integrity, page, wear_index}
use Rattle.log_pages.proofs.pages.put_counts.Goals as goal

pub returns : goal.returns
unfolding page bytes_of little_endian
returns c = let z = c in let a = z.args in λ n. let b = a.block in
    let l : 12 ≤ length a.bytes.now = omega (arith, z.requires.in_bounds) in
    let f1 = one_field 1 (wear_index a.config.rated b.erases) c.wear_index.ensures.0 c.put_field.ensures in
    let f2 = next_field 1 (integrity b) c.integrity.ensures.0 l f1 c.put_field-2.ensures in
    let f3 = next_field 2 0 refl l f2 c.put_field-3.ensures in
    let f4 = next_field 4 (block_adus a.config n).0 (c.adus_per_block.ensures ∙ rw z.requires.config_value) l f3 c.put_field-4.ensures in
    let f5 = next_field 4 (cond (is_open b) b.written.0 0) c.written_if_open.ensures l f4 c.put_field-5.ensures in
    let f6 = next_field 4 b.serial refl l f5 c.put_field-6.ensures in
    (next_field 228 0 refl l f6 c.put_field-7.ensures).are
