-- `synthesis::put_found` meets its contract: the choice at the front of the witness keeps the sheet, and there is room, so that neither call is refused.
use mathlib.Core.Path.{◌∙◌}
use borrow.Author.Rules.{rules}
use Rattle.model.specs.Calls.{wrote}
use Rattle.sheet.specs.Struct.{sheet_of}
use Rattle.sheet.proofs.AnswersOfReading.{architecture_proper}
use Rattle.synthesis.proofs.RoomDecides.{book_written, annotation_written}
use Rattle.synthesis.proofs.put_found.Statement.{statement}
use Rattle.synthesis.proofs.put_found.Tie as tie

-- `book::write_for(a, witness, book)`
write-for-requires : tie.Need-write_for-requires
write-for-requires c κs = architecture_proper _ c.requires.0

-- `judging::annotate_tables(sheet, witness, annotation)`
annotate-tables-requires : tie.Need-annotate_tables-requires
annotate-tables-requires c κs = let p = c.requires in (p.0, p.1.0.choice.tables)

-- `judging::annotate_tables(sheet, witness, annotation)`
same_length : tie.Need-shape_of-book
same_length c = search rules

-- `judging::annotate_tables(sheet, witness, annotation)`
same-length-2 : tie.Need-shape_of-annotation
same-length-2 c = search rules

-- `judging::annotate_tables(sheet, witness, annotation)`
returns : tie.Need-returns
unfolding wrote
returns c =
    let b = c.before.before.before.before.before.before.before.before.before.before.before.before in
    let a = b.args in
    let s = sheet_of a.sheet in
    let w = b.requires.1.0 in
    let room = b.requires.1.1 in
    let e = book_written s a.witness.now a.book.now a.annotation.now w.choice room in
    let f = annotation_written s a.witness.now a.book.now a.annotation.now w.choice room w.keeps in
    (c.write_for.ensures.1 ∙ rw e, c.annotate_tables.ensures.1 ∙ f)

pub put_found_spec : {M : Type 1} → statement M
put_found_spec =
    tie.close
    (tie.spec
    write-for-requires
    annotate-tables-requires
    same_length
    same-length-2
    returns)
