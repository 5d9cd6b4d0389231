-- Either answer of the book has its text, and the tables that were read begin with its choice.
use Rattle.std.proofs.Common.{length, arith}
use lib.ListN.{length-take}
use Rattle.model.specs.Choice.{entries}
use Rattle.model.proofs.FitsTest.{fits_length}
use Rattle.architecture.specs.Struct.{architecture_of}
use Rattle.sheet.specs.Struct.{sheet_of}
use Rattle.book.proofs.BookGivesChoice.{was_refused, was_read}
use Rattle.draw.proofs.BookDrawn.{drawn_refused, drawn_tables}
use Rattle.draw.proofs.tables_text.Goals as goal

pub book_text-requires : goal.book_text-requires
book_text-requires c =
    let read = was_read _ _ c.in-Ok.tables c.in-Ok.ensures in
    let long = length-take (length (entries (architecture_of c.args.sheet.architecture))) c.in-Ok.tables in
    record { in_bounds = c.requires.in_bounds; proper = c.requires.proper; architecture_in_bounds = omega (arith, fits_length read.are_tables, long) }

pub returns-in-Ok : goal.returns-in-Ok
returns-in-Ok c = rw (drawn_tables (sheet_of c.args.sheet) c.args.book.now c.in-Ok.tables (was_read _ _ c.in-Ok.tables c.in-Ok.ensures)) c.book_text.ensures

pub returns-in-Err : goal.returns-in-Err
returns-in-Err c = rw (drawn_refused (sheet_of c.args.sheet) c.args.book.now c.in-Err.refusal (was_refused _ _ c.in-Err.refusal c.in-Err.ensures)) c.refused_text.ensures
