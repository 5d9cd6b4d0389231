-- Reading on from here, behind the edges that were read, is the reading of the whole.
use Rattle.sheet.proofs.ReadingEdges.{EdgesRead}
use Rattle.sheet.proofs.behind.read_edges.Given as goal

abbrev pub invariant-loop : goal.invariant-loop
invariant-loop l = EdgesRead l.sheet l.fn.start l.variables l.counter l.fn.first l.read l.at
