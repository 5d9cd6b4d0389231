-- `find::choice_text` meets its contract: the tables are read back from the book, and the annotation is cut to its length.
use Rattle.std.proofs.Common.{subst, arith, length}
use lib.ListN.{length-take}
use Rattle.model.specs.Choice.{entries}
use Rattle.model.proofs.FitsTest.{fits_length}
use Rattle.architecture.specs.Struct.{architecture_of}
use Rattle.sheet.proofs.AnswersOfReading.{architecture_proper}
use Rattle.template.specs.Holds.{Holds}
use Rattle.find.proofs.FoundBuffers.{chose, book_whole, annotation_counted, tables_ok, are_tables, text_is}
use Rattle.find.proofs.choice_text.Goals as goal

-- `let tables = book::read_for(a, &book[..length]).unwrap()`
pub slice_bounds-read_for-end : goal.slice_bounds-read_for-end
slice_bounds-read_for-end c = book_whole (chose _ _ _ _ _ c.requires.proper.proper c.requires.fact) _ c.book_length-length.ensures.0

pub unwrap-tables-requires : goal.unwrap-tables-requires
unwrap-tables-requires c = tables_ok (chose _ _ _ _ _ c.requires.proper.proper c.requires.fact) _ c.book_length-length.ensures.0 c.read_for.result c.read_for.ensures

-- `text::tables_text(text, a, &tables, &annotation[..vertices])`
pub slice_bounds-tables_text-end-2 : goal.slice_bounds-tables_text-end-2
slice_bounds-tables_text-end-2 c = annotation_counted (chose _ _ _ _ _ c.requires.proper.proper c.requires.fact) _ c.vertices-vertices.ensures.0

pub tables_text-requires : goal.tables_text-requires
tables_text-requires c =
    let fit = are_tables (chose _ _ _ _ _ c.requires.proper.proper c.requires.fact) _ c.book_length-length.ensures.0 c.read_for.result c.read_for.ensures _ c.unwrap-tables.ensures in
    record {
      in_bounds = c.requires.in_bounds;
      proper = architecture_proper c.args.sheet c.requires.proper;
      a_in_bounds = omega (arith, fits_length fit, length-take (length (entries (architecture_of c.args.sheet.architecture))) c.unwrap-tables.result);
    }

pub returns : goal.returns
returns c =
    subst (Holds c.tables_text.new.text c.tables_text.result)
    (text_is (chose _ _ _ _ _ c.requires.proper.proper c.requires.fact) _ c.book_length-length.ensures.0 c.read_for.result c.read_for.ensures _ c.unwrap-tables.ensures _ c.vertices-vertices.ensures.0)
    c.tables_text.ensures
