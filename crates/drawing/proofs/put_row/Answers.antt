-- `drawing::put_row`: the state, and behind it the moves.
use Rattle.std.proofs.lemmas.List.{take_rest}
use Rattle.append.proofs.Appended.{append_more}
use Rattle.drawing.specs.Drawing.{row_text}
use Rattle.drawing.proofs.put_row.Goals as goal

pub returns : goal.returns
unfolding row_text
returns c = append_more c.put_state_front-after_state.ensures (rw (take_rest c.args.row.now 1) at c.put_moves.ensures)
