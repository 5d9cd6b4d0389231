-- `drawing::put_rows`: what was written and the rows of the states from x on are all.
use Rattle.architecture.specs.Struct.{process_in, first_in, entries_of}
use Rattle.append.proofs.Appending.{Appending}
use Rattle.text.proofs.RowTexts.{rows_from}
use Rattle.drawing.specs.Drawing.{row_text, rows_text}
use Rattle.drawing.proofs.put_rows.Given as goal

abbrev pub invariant-loop-x : goal.invariant-loop-x
invariant-loop-x l =
    let p = process_in l.a l.i in
    Appending l.fn.text l.start (rows_text l.tables l.i p (entries_of (first_in l.a l.i))) l.at l.text (rows_from (row_text l.i p.inputs p.bound) l.a l.i l.tables l.x)
