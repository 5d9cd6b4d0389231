-- `text::put_row`: the head, the next states and a line feed, each behind the one before.
use Rattle.std.proofs.lemmas.List.{take_rest}
use Rattle.append.proofs.Appended.{append_more}
use Rattle.text.specs.Text.{row_text}
use Rattle.text.proofs.put_row.Goals as goal

pub returns : goal.returns
unfolding row_text
returns c = append_more (append_more c.put_head-after_head.ensures (rw (take_rest c.args.row.now 1) at c.put_next-after_next.ensures)) c.put_all.ensures
