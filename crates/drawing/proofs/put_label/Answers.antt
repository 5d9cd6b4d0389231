-- `drawing::put_label`: `true` where every index leads to y, and the conditions where some do not.
use borrow.Author.Tests.{eq-eqb, ne_eqb}
use Rattle.model.specs.Mask.{if}
use Rattle.drawing.specs.Drawing.{label_text}
use Rattle.drawing.proofs.put_label.Goals as goal

pub put_all-requires : goal.put_all-requires
unfolding label_text if
put_all-requires c = rw (← c.requires.n_value, eq-eqb _ _ c.if-n-next.true) at c.requires.next_in_bounds

pub returns-then-n-next : goal.returns-then-n-next
unfolding label_text if
returns-then-n-next c = rw (← c.requires.n_value, eq-eqb _ _ c.if-n-next.true) c.put_all.ensures

pub put_conditions-requires : goal.put_conditions-requires
unfolding label_text if
put_conditions-requires c = rw (← c.requires.n_value, ne_eqb _ _ c.if-n-next.false) at c.requires.next_in_bounds

pub returns : goal.returns
unfolding label_text if
returns c = rw (← c.requires.n_value, ne_eqb _ _ c.if-n-next.false) c.put_conditions.ensures
