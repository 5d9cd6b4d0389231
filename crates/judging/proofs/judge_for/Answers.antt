-- A book that is refused says so, and of one that is read the choice is at the front of the tables that are judged.
use Rattle.std.proofs.lemmas.Result.{err_from_is_err_and}
use Rattle.model.specs.Reading.{◌then◌}
use Rattle.model.specs.Calls.{judged, book_for}
use Rattle.architecture.specs.Struct.{architecture_of}
use Rattle.book.proofs.BookGivesChoice.{was_refused, was_read}
use Rattle.judging.proofs.judge_for.Goals as goal

pub returns-in_err-tables : goal.returns-in_err-tables
unfolding book_for ◌then◌ judged
returns-in_err-tables c =
    let p = err_from_is_err_and c.from_residual.result c.from_residual.ensures.1 in
    let a = c.args in
    rw (p.1, p.2, was_refused (architecture_of a.sheet.architecture) a.book.now _ c.in_err-tables.ensures)

pub judge_tables-requires-clause-tables : goal.judge_tables-requires-clause-tables
judge_tables-requires-clause-tables c = (was_read (architecture_of c.args.sheet.architecture) c.args.book.now _ c.in_ok-tables.ensures).are_tables

pub returns : goal.returns
unfolding book_for ◌then◌
returns c = rw (was_read (architecture_of c.args.sheet.architecture) c.args.book.now _ c.in_ok-tables.ensures).is_read c.judge_tables.ensures
