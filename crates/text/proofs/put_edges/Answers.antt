-- `text::put_edges`: in each turn the next edge goes behind what was written.
use native.Mathlib.Omega.{arith}
use Rattle.append.proofs.Appending.{appending_next, appending_room, appending_all}
use Rattle.text.proofs.RowTexts.{edges_open, edges_none}
use Rattle.text.proofs.put_edges.Goals as goal

pub put_edge-at-requires : goal.put_edge-at-requires
put_edge-at-requires c =
    appending_room c.loop-i.invariant c.requires.edges_in_bounds (edges_open c.args.ed.now c.args.ex.now c.args.u c.loop-i.i _ c.edge.ensures c.loop-i-test.true)

pub loop-i-preserved : goal.loop-i-preserved
loop-i-preserved c = appending_next c.loop-i.invariant (edges_open c.args.ed.now c.args.ex.now c.args.u c.loop-i.i _ c.edge.ensures c.loop-i-test.true) c.put_edge-at.ensures

pub returns : goal.returns
returns c = appending_all (rw (edges_none c.args.ed.now c.args.ex.now c.args.u c.loop-i.i (omega arith)) at c.loop-i.invariant)
