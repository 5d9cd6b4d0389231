-- `drawing::book_text`: there is room for the text of a proper sheet and tables of bytes.
use native.Mathlib.Omega.{arith}
use lib.ListN.{length-append}
use Rattle.architecture.specs.Struct.{architecture_of}
use Rattle.sheet.specs.Struct.{sheet_of}
use Rattle.append.proofs.Appended.{append_more}
use Rattle.template.proofs.FilledShort.{whole_text}
use Rattle.drawing.proofs.DrawingShort.{book_is_short}
use Rattle.drawing.proofs.book_text.Goals as goal

pub put_start-after_start-requires-clause-sheet_in_bounds : goal.put_start-after_start-requires-clause-sheet_in_bounds
put_start-after_start-requires-clause-sheet_in_bounds c =
    let short = book_is_short (sheet_of c.args.sheet) c.args.tables.now c.requires.proper.proper (λ k. omega (arith, c.type_inv.tables k)) in
    omega (arith, simp length-append at short)

pub put_tables-after_tables-requires-clause-tables_in_bounds : goal.put_tables-after_tables-requires-clause-tables_in_bounds
unfolding architecture_of
put_tables-after_tables-requires-clause-tables_in_bounds c =
    let short = book_is_short (sheet_of c.args.sheet) c.args.tables.now c.requires.proper.proper (λ k. omega (arith, c.type_inv.tables k)) in
    omega (arith, simp length-append at short)

pub put_all-requires : goal.put_all-requires
unfolding architecture_of
put_all-requires c =
    let short = book_is_short (sheet_of c.args.sheet) c.args.tables.now c.requires.proper.proper (λ k. omega (arith, c.type_inv.tables k)) in
    omega (arith, simp length-append at short)

pub returns : goal.returns
unfolding architecture_of
returns c =
    let short = book_is_short (sheet_of c.args.sheet) c.args.tables.now c.requires.proper.proper (λ k. omega (arith, c.type_inv.tables k)) in
    whole_text (append_more (append_more c.put_start-after_start.ensures c.put_tables-after_tables.ensures) c.put_all.ensures) (omega arith) (omega (arith, short))
