-- A block takes the place of the one found before it if it is Closed, the domain's, and older.
use Rattle.recorder.specs.Choice.{older_of}
use Rattle.recorder.proofs.choice.older.Goals as goal

pub returns-then-is_held-is_closed-clause-found : goal.returns-then-is_held-is_closed-clause-found
unfolding older_of
returns-then-is_held-is_closed-clause-found c =
    let held = rw c.from-serial.ensures at c.if-is_held-is_closed.true in
    simp (c.from-serial.ensures, ← c.is_held.ensures, ← c.is_closed.ensures, held)

pub returns-else-is_held-is_closed-clause-found : goal.returns-else-is_held-is_closed-clause-found
unfolding older_of
returns-else-is_held-is_closed-clause-found c =
    let other = rw c.from-serial.ensures at c.if-is_held-is_closed.false in
    simp (← c.is_held.ensures, ← c.is_closed.ensures, other)
