-- A book that is refused says so, and of one that is read the choice is at the front of the tables that are stepped.
use Rattle.std.proofs.lemmas.Result.{err_from_is_err_and}
use Rattle.model.specs.Reading.{◌then◌}
use Rattle.model.specs.Desk.{choice_for, step_by}
use Rattle.architecture.specs.Struct.{architecture_of}
use Rattle.book.proofs.BookGivesChoice.{was_refused, was_read}
use Rattle.desk.proofs.step_for.Goals as goal

pub returns-in_err-tables : goal.returns-in_err-tables
unfolding choice_for ◌then◌ step_by
returns-in_err-tables c =
    let p = err_from_is_err_and c.from_residual.result c.from_residual.ensures.1 in
    rw (p.1, p.2, was_refused (architecture_of c.args.a) c.args.book.now _ c.in_err-tables.ensures)

pub step_tables-requires-clause-tables : goal.step_tables-requires-clause-tables
step_tables-requires-clause-tables c = (was_read (architecture_of c.args.a) c.args.book.now _ c.in_ok-tables.ensures).are_tables

pub returns : goal.returns
unfolding choice_for ◌then◌
returns c = rw (was_read (architecture_of c.args.a) c.args.book.now _ c.in_ok-tables.ensures).is_read c.step_tables.ensures
