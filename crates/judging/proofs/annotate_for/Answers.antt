-- A book that is refused says so, and of one that is read the choice is at the front of the tables that are annotated.
use Rattle.std.proofs.lemmas.Result.{err_from_is_err_and}
use Rattle.model.specs.Reading.{◌then◌}
use Rattle.model.specs.Calls.{book_and_rooms_for}
use Rattle.model.proofs.Refusing.{then_refused}
use Rattle.architecture.specs.Struct.{architecture_of}
use Rattle.book.proofs.BookGivesChoice.{was_refused, was_read}
use Rattle.judging.proofs.RoomForPath.{due_refused}
use Rattle.judging.proofs.annotate_for.Goals as goal

pub returns-in_err-tables : goal.returns-in_err-tables
unfolding book_and_rooms_for
returns-in_err-tables c =
    let p = err_from_is_err_and c.from_residual.result c.from_residual.ensures.1 in
    let a = c.args in
    let d = due_refused a.annotation.now a.path.now (then_refused _ (was_refused (architecture_of a.sheet.architecture) a.book.now _ c.in_err-tables.ensures)) in
    rw (p.1, p.2) (record { verdict_value = d.answer; annotation_after = d.annotation; path_for = d.run })

pub annotate_or_break-requires-clause-tables : goal.annotate_or_break-requires-clause-tables
annotate_or_break-requires-clause-tables c = (was_read (architecture_of c.args.sheet.architecture) c.args.book.now _ c.in_ok-tables.ensures).are_tables

pub returns : goal.returns
unfolding book_and_rooms_for ◌then◌
returns c = rw (was_read (architecture_of c.args.sheet.architecture) c.args.book.now _ c.in_ok-tables.ensures).is_read c.annotate_or_break.ensures
