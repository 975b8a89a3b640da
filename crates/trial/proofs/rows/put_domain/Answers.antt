-- The domain's six numbers are filled in.
use Rattle.std.proofs.Common.{◌≡◌, Bool, true, false, cond, refl, ◌∙◌}
use mir.Val.{bool_byte}
use Rattle.trial.specs.Rows.{domain_numbers}
use Rattle.trial.proofs.rows.put_domain.Goals as goal

one_or_none : (b : Bool) → cond b 1 0 ≡ bool_byte b
one_or_none true = refl
one_or_none false = refl

pub returns : goal.returns
unfolding domain_numbers
returns c = c.put_numbers.ensures ∙ rw (c.from.ensures, one_or_none c.args.domain.exists)
