-- The word of the output mask, and behind it that of the next states.
use Rattle.append.proofs.Appended.{append_more}
use Rattle.choice.proofs.put_row.Goals as goal

pub returns : goal.returns
returns c = rw (← c.output_word.ensures, ← c.next_word.ensures) (append_more c.put-after_output.ensures c.fill.ensures)
