-- `drawing::put_moves`: in each turn the move to the next state goes behind what was written.
use mathlib.Core.Path.{refl}
use Rattle.append.proofs.Appending.{appending_next, appending_room, appending_all}
use Rattle.text.proofs.RowTexts.{from_open, from_end}
use Rattle.drawing.specs.Drawing.{move_text}
use Rattle.drawing.proofs.put_moves.Goals as goal

pub put_move-at-requires : goal.put_move-at-requires
put_move-at-requires c =
    let a = c.args in
    appending_room c.loop-y.invariant c.requires (from_open (move_text a.i a.x.0 a.mask a.next.now) a.bound c.loop-y.y _ refl c.loop-y-test.true)

pub loop-y-preserved : goal.loop-y-preserved
loop-y-preserved c =
    let a = c.args in
    appending_next c.loop-y.invariant (from_open (move_text a.i a.x.0 a.mask a.next.now) a.bound c.loop-y.y _ refl c.loop-y-test.true) c.put_move-at.ensures

pub returns : goal.returns
returns c =
    let a = c.args in
    appending_all (rw (from_end (move_text a.i a.x.0 a.mask a.next.now) a.bound c.loop-y.y c.loop-y-test.false) at c.loop-y.invariant)
