-- `drawing::put_move`: nothing where no index leads to y, and otherwise the front, the label and the end, each behind the one before.
use native.Mathlib.Omega.{arith}
use lib.ListN.{length-append}
use borrow.Author.Tests.{eq-eqb, ne_eqb}
use Rattle.model.specs.Mask.{if}
use Rattle.append.proofs.Appended.{append_none, append_more}
use Rattle.drawing.specs.Drawing.{move_text}
use Rattle.drawing.proofs.put_move.Goals as goal

pub returns-then-n-eq0 : goal.returns-then-n-eq0
unfolding move_text if
returns-then-n-eq0 c = rw (← c.ways-n.ensures, eq-eqb _ _ c.if-n-eq0.true) (append_none _ _)

pub put_move_front-after_front-requires : goal.put_move_front-after_front-requires
unfolding move_text if
put_move_front-after_front-requires c = omega (arith, simp length-append at (rw (← c.ways-n.ensures, ne_eqb _ _ c.if-n-eq0.false) at c.requires))

pub put_label-after_label-requires-clause-next_in_bounds : goal.put_label-after_label-requires-clause-next_in_bounds
unfolding move_text if
put_label-after_label-requires-clause-next_in_bounds c = omega (arith, simp length-append at (rw (← c.ways-n.ensures, ne_eqb _ _ c.if-n-eq0.false) at c.requires))

pub put_all-requires : goal.put_all-requires
unfolding move_text if
put_all-requires c = omega (arith, simp length-append at (rw (← c.ways-n.ensures, ne_eqb _ _ c.if-n-eq0.false) at c.requires))

pub returns : goal.returns
unfolding move_text if
returns c =
    rw (← c.ways-n.ensures, ne_eqb _ _ c.if-n-eq0.false)
    (append_more (append_more c.put_move_front-after_front.ensures c.put_label-after_label.ensures) c.put_all.ensures)
