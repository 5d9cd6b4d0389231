-- `drawing::put_conditions`: in each turn the condition of the next index goes behind what was written.
use Rattle.append.proofs.Appending.{appending_next, appending_room, appending_all}
use Rattle.drawing.proofs.MovesInTurn.{conditions_open, conditions_end}
use Rattle.drawing.proofs.put_conditions.Goals as goal

pub put_way-at-requires : goal.put_way-at-requires
put_way-at-requires c =
    let a = c.args in
    appending_room c.loop-index.invariant c.requires (conditions_open a.mask a.y.0 a.next.now c.loop-index.index c.loop-index-test.true)

pub loop-index-preserved : goal.loop-index-preserved
loop-index-preserved c =
    let a = c.args in
    appending_next c.loop-index.invariant (conditions_open a.mask a.y.0 a.next.now c.loop-index.index c.loop-index-test.true) c.put_way-at.ensures

pub returns : goal.returns
returns c =
    let a = c.args in
    appending_all (rw (conditions_end a.mask a.y.0 a.next.now c.loop-index.index c.loop-index-test.false) at c.loop-index.invariant)
