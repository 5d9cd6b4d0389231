-- `drawing::put_conditions`: what was written and the conditions from the index on are all.
use Rattle.append.proofs.Appending.{Appending}
use Rattle.drawing.specs.Drawing.{conditions_text}
use Rattle.drawing.proofs.MovesInTurn.{conditions_from}
use Rattle.drawing.proofs.put_conditions.Given as goal

abbrev pub invariant-loop-index : goal.invariant-loop-index
invariant-loop-index l = Appending l.fn.text l.start (conditions_text l.mask l.y.0 l.next 0) l.at l.text (conditions_from l.mask l.y.0 l.next l.index)
