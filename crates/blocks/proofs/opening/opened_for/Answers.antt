-- The entries are the same everywhere; serial, period and domain fit their fields.
use native.Mathlib.Omega.{arith}
use Rattle.geometry.proofs.Laws.Shape.{limits}
use Rattle.blocks.proofs.opening.opened_for.Goals as goal

pub overflow_cast-config : goal.overflow_cast-config
overflow_cast-config c = let z = c in omega (arith, (limits z.args.config z.requires.limits).ranges.period.most)

pub returns : goal.returns
returns c = (c.opened.ensures, c.with_last.ensures, c.fill.ensures.after (λ _ e. e))
