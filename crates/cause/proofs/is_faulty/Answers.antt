-- The number of a refusal tells.
use Rattle.cause.specs.Fault.{faulty}
use Rattle.cause.proofs.is_faulty.Goals as goal

pub returns-in-Ok : goal.returns-in-Ok
unfolding faulty
returns-in-Ok c = rw (← c.in-Ok.ensures)

pub returns-in-Err : goal.returns-in-Err
unfolding faulty
returns-in-Err c = rw (c.number.ensures, ← c.in-Err.ensures)
