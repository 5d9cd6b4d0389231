-- `text::put_rows`: what was written and the rows of the states from x on are all.
use Rattle.architecture.specs.Struct.{process_in, first_in, entries_of}
use Rattle.append.proofs.Appending.{Appending}
use Rattle.text.specs.Text.{row_text, rows_text}
use Rattle.text.proofs.RowTexts.{rows_from}
use Rattle.text.proofs.put_rows.Given as goal

abbrev pub invariant-loop-x : goal.invariant-loop-x
invariant-loop-x l =
    Appending l.fn.text l.start (rows_text l.tables l.i (process_in l.a l.i) (entries_of (first_in l.a l.i))) l.at l.text (rows_from (row_text l.i) l.a l.i l.tables l.x)
