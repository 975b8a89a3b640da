-- The rules start it so within the limits and refuse it outside.
use mathlib.Core.Path.{sym, ◌∙◌}
use Rattle.rules.proofs.Start.{start_accepted, start_refused}
use Rattle.manager.proofs.starting.start.Goals as goal

pub returns-then-within_limits : goal.returns-then-within_limits
returns-then-within_limits c = let e = sym c.within_limits.ensures ∙ c.if-within_limits.true in
    rw (c.empty_table.ensures, start_accepted c.args.config e)

pub returns : goal.returns
returns c = let e = sym c.within_limits.ensures ∙ c.if-within_limits.false in
    rw (
      c.empty_table-2.ensures,
      c.no_config.ensures,
      start_refused c.args.config e,
    )
