-- Four words, and then 0 for each entry, each behind the one before.
use Rattle.append.proofs.Appended.{append_more}
use Rattle.layout.proofs.put_record.Goals as goal

pub returns : goal.returns
returns c =
    let two = append_more c.put-within_mark.ensures c.put-after_mark.ensures in
    let four = append_more (append_more two c.put-after_process.ensures) c.put-after_state.ensures in
    rw (← c.due.ensures, ← c.due-2.ensures, ← c.due_number.ensures, ← c.due-3.ensures) (append_more four c.fill.ensures)
