-- A block has ADUs, so that rounding up divides by no 0 and gives no more blocks than ADUs.
use Prim.Native.Nat.{ℕ, ◌+◌, ◌-◌, ◌/◌, ◌≤◌}
use mathlib.Core.Path.{◌≡◌, refl, ◌∙◌}
use native.Mathlib.Nat.{div-lt_iff_lt-mul, le_of_suc-le-suc}
use native.Mathlib.Omega.{arith}
use Rattle.geometry.proofs.Laws.Shape.{limits}
use Rattle.geometry.specs.Shape.{adus_per_block}
use Rattle.placements.specs.Onwards.{blocks_in}
use Rattle.placements.proofs.room.blocks_for.Goals as goal

-- At most 256 ADUs fill or begin at most 256 blocks.
few : (n w : ℕ) → 1 ≤ w → n ≤ 256 → (n + (w - 1)) / w ≤ 256
few n w some most = le_of_suc-le-suc ((div-lt_iff_lt-mul some).1 (omega (arith, some, most)))

pub overflow_sub-result : goal.overflow_sub-result
overflow_sub-result c =
    let counted : c.adus_per_block-capacity.result.0 ≡ (adus_per_block c.args.config).0 =
    c.adus_per_block-capacity.ensures ∙ rw c.requires.config_value in
    let adus-some : 1 ≤ (adus_per_block c.args.config).0 =
    omega (arith, (limits c.args.config c.requires.config_value).adus.least) in
    rw counted (omega (arith, adus-some))

pub overflow_add-result : goal.overflow_add-result
overflow_add-result c =
    let counted : c.adus_per_block-capacity.result.0 ≡ (adus_per_block c.args.config).0 =
    c.adus_per_block-capacity.ensures ∙ rw c.requires.config_value in
    let z = c in
    rw counted (omega (arith, z.requires.count_bound, (limits z.args.config z.requires.config_value).adus.most))

pub nonzero_div-result : goal.nonzero_div-result
nonzero_div-result c =
    let counted : c.adus_per_block-capacity.result.0 ≡ (adus_per_block c.args.config).0 =
    c.adus_per_block-capacity.ensures ∙ rw c.requires.config_value in
    let adus-some : 1 ≤ (adus_per_block c.args.config).0 =
    omega (arith, (limits c.args.config c.requires.config_value).adus.least) in
    rw counted (omega (arith, adus-some))

pub returns : goal.returns
unfolding blocks_in
returns c =
    let counted : c.adus_per_block-capacity.result.0 ≡ (adus_per_block c.args.config).0 =
    c.adus_per_block-capacity.ensures ∙ rw c.requires.config_value in
    let adus-some : 1 ≤ (adus_per_block c.args.config).0 =
    omega (arith, (limits c.args.config c.requires.config_value).adus.least) in
    let z = c in
    rw counted
    (refl, few z.args.count.0 (adus_per_block z.args.config).0 adus-some z.requires.count_bound)
