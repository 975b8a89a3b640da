-- A no, or the block closed.
use mathlib.Core.Path.{refl, sym, ◌∙◌}
use Rattle.blocks.proofs.Named.{named_asked, named_done}
use Rattle.model.specs.Blocks.{closed}
use Rattle.model.specs.declared.command.Command.TheVariants.{Close}
use Rattle.rules.specs.Effects.{effect}
use Rattle.scan.proofs.Outcomes.{begun_sound, then_outcome}
use Rattle.blocks.proofs.closing.close.Goals as goal

pub returns-in_err-held_block_verdict : goal.returns-in_err-held_block_verdict
returns-in_err-held_block_verdict c = let z = c in let a = z.args in let k = Close a.domain a.block in λ t store words bytes s b.
    then_outcome t k c.from_residual.result c.in_err-held_block_verdict.field-0.0 store words bytes (z.requires.1 t s)
    (c.in_err-held_block_verdict.ensures ∙ named_asked t a.domain a.block a.summary s b (begun_sound k 0 a.summary (t, s) z.requires.1))
    c.from_residual.ensures.1

pub returns : goal.returns
unfolding effect
returns c = let z = c in let a = z.args in let k = Close a.domain a.block in λ t store words bytes s b.
    rw (c.block_change.ensures, c.closed.ensures)
    (named_done t k a.domain a.block a.summary closed store words bytes s b (begun_sound k 0 a.summary (t, s) z.requires.1)
    (z.requires.1 t s) (sym c.in_ok-held_block_verdict.ensures) refl refl refl)
