-- What is there and the edges from the index on, moved, are all.
use Rattle.std.proofs.Common.{map}
use Rattle.model.specs.Join.{moved}
use Rattle.joining.proofs.EdgesAdded.{Added}
use Rattle.joining.proofs.automata.with_edges.Given as goal

abbrev pub invariant-loop-edge : goal.invariant-loop-edge
invariant-loop-edge l = Added (map (moved l.by)) l.fn.u l.fn.into l.joined l.edge-index
