-- `drawing::put_moves`: what was written and the moves to the states from y on are all.
use Rattle.append.proofs.Appending.{Appending}
use Rattle.text.proofs.RowTexts.{text_from}
use Rattle.drawing.specs.Drawing.{move_text, moves_text}
use Rattle.drawing.proofs.put_moves.Given as goal

abbrev pub invariant-loop-y : goal.invariant-loop-y
invariant-loop-y l = Appending l.fn.text l.start (moves_text l.i l.x.0 l.mask l.next l.bound) l.at l.text (text_from (move_text l.i l.x.0 l.mask l.next) l.bound l.y)
