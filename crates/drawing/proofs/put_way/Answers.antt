-- `drawing::put_way`: a condition where the next state is y, and nothing where it is not.
use borrow.Author.Rules.{rules}
use Rattle.model.specs.Mask.{if}
use Rattle.append.proofs.Appended.{append_none}
use Rattle.drawing.proofs.put_way.Goals as goal

pub put_condition-requires : goal.put_condition-requires
unfolding if
put_condition-requires c = search rules

pub returns-then-z-y : goal.returns-then-z-y
unfolding if
returns-then-z-y c = search rules

pub returns : goal.returns
unfolding if
returns c = search (rules, append_none)
