-- Edge i is due next, and behind the last edge nothing is.
use Rattle.std.proofs.Common.{◌+◌, arith}
use Rattle.model.specs.SheetFile.{edge_bytes}
use Rattle.append.proofs.Appending.{Opens, appending_next, appending_room, appending_all}
use Rattle.automaton.specs.Struct.{edge_of}
use Rattle.writing.proofs.EdgeRecords.{edges_from, edges_open, edges_none}
use Rattle.writing.proofs.put_edges.Goals as goal
use Rattle.writing.proofs.put_edges.Goals.{After-edge}

next : (c : After-edge) → Opens (edges_from c.args.u c.loop-i.i) (edge_bytes (edge_of c.edge.result)) (edges_from c.args.u (c.loop-i.i + 1))
next c = edges_open c.args.u c.loop-i.i _ c.edge.ensures c.loop-i-test.true

pub put_edge-at-requires : goal.put_edge-at-requires
put_edge-at-requires c = appending_room c.loop-i.invariant c.requires.edges_in_bounds (next c)

pub loop-i-preserved : goal.loop-i-preserved
loop-i-preserved c = appending_next c.loop-i.invariant (next (goal.at.loop-i-preserved c).After-edge) c.put_edge-at.ensures

pub returns : goal.returns
returns c = appending_all (rw (edges_none c.args.u c.loop-i.i (omega arith)) at c.loop-i.invariant)
