-- `drawing::put_state`: the mask tells the line.
use borrow.Author.Rules.{rules}
use Rattle.model.specs.Mask.{if}
use Rattle.drawing.specs.Drawing.{state_text}
use Rattle.drawing.proofs.put_state.Goals as goal

pub put_filled-requires : goal.put_filled-requires
unfolding state_text if
put_filled-requires c = search rules

pub returns-then-is_rejecting : goal.returns-then-is_rejecting
unfolding state_text if
returns-then-is_rejecting c = search rules

pub put_filled-requires-2 : goal.put_filled-requires-2
unfolding state_text if
put_filled-requires-2 c = search rules

pub returns : goal.returns
unfolding state_text if
returns c = search rules
