-- The tables go to the caller where reading was not refused.
use Rattle.export.specs.After.{tables_by}
use Rattle.export.proofs.soclethyme_read.Goals as goal

pub returns-in-Ok-clause-tables_after : goal.returns-in-Ok-clause-tables_after
unfolding tables_by
returns-in-Ok-clause-tables_after c = rw (← c.in-Ok.ensures)

pub returns-in-Err-clause-tables_after : goal.returns-in-Err-clause-tables_after
unfolding tables_by
returns-in-Err-clause-tables_after c = rw (← c.in-Err.ensures)
