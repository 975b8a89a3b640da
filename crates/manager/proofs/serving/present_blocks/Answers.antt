-- As many as the configuration says, none outside the limits.
use mathlib.Core.Path.{◌≡◌, sym, ◌∙◌, subst}
use Prim.Native.Nat.{ℕ, ◌≤◌}
use Rattle.scan.proofs.Seeing.{few_present}
use Rattle.tables.specs.Changing.{present_blocks}
use Rattle.manager.proofs.serving.present_blocks.Goals as goal

pub returns-then-within_limits : goal.returns-then-within_limits
returns-then-within_limits c = let config = c.args.config in let e = sym c.within_limits.ensures ∙ c.if-within_limits.true in
    let is : config.blocks ≡ present_blocks config = rw e in
    (is, subst (λ (n : ℕ). n ≤ 256) (sym is) (few_present config))
