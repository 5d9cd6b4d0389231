-- `drawing::put_tables`: what was written and the clusters of the processes from i on are all.
use Rattle.architecture.specs.Struct.{processes_in}
use Rattle.append.proofs.Appending.{Appending}
use Rattle.text.proofs.RowTexts.{processes_from}
use Rattle.drawing.specs.Drawing.{table_text, tables_text}
use Rattle.drawing.proofs.put_tables.Given as goal

abbrev pub invariant-loop-i : goal.invariant-loop-i
invariant-loop-i l = Appending l.fn.text l.start (tables_text (processes_in l.a) l.tables) l.at l.text (processes_from (table_text l.tables) l.a l.i)
