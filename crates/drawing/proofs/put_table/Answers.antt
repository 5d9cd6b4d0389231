-- `drawing::put_table`: the front, the rows and the end, each behind the one before.
use Rattle.append.proofs.Appended.{append_more}
use Rattle.drawing.specs.Drawing.{table_text}
use Rattle.drawing.proofs.put_table.Goals as goal

pub returns : goal.returns
unfolding table_text
returns c = append_more (append_more c.put_table_front-after_front.ensures c.put_rows-after_rows.ensures) c.put_all.ensures
