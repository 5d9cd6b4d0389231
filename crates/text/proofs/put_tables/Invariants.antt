-- `text::put_tables`: what was written and the rows of the processes from i on are all.
use Rattle.architecture.specs.Struct.{processes_in}
use Rattle.append.proofs.Appending.{Appending}
use Rattle.text.specs.Text.{rows_text, tables_text}
use Rattle.text.proofs.RowTexts.{processes_from}
use Rattle.text.proofs.put_tables.Given as goal

abbrev pub invariant-loop-i : goal.invariant-loop-i
invariant-loop-i l = Appending l.fn.text l.start (tables_text (processes_in l.a) l.tables) l.at l.text (processes_from (rows_text l.tables) l.a l.i)
