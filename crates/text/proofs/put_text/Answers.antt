-- `text::put_text`: the first line, the rows and the last line, each behind the one before.
use Rattle.architecture.specs.Struct.{architecture_of}
use Rattle.append.proofs.Appended.{append_more}
use Rattle.text.specs.Text.{text_of}
use Rattle.text.proofs.put_text.Goals as goal

pub returns : goal.returns
unfolding text_of architecture_of
returns c = append_more (append_more (rw c.row_count.ensures at c.put_filled-after_count.ensures) c.put_tables-after_tables.ensures) c.put_greatest.ensures
