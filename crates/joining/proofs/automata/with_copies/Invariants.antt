-- What is there and the copies of the edges from the index on are all.
use Rattle.model.specs.Join.{copies}
use Rattle.joining.proofs.EdgesAdded.{Added}
use Rattle.joining.proofs.automata.with_copies.Given as goal

abbrev pub invariant-loop-edge : goal.invariant-loop-edge
invariant-loop-edge l = Added (copies l.by l.q.0) l.fn.u l.fn.into l.joined l.edge-index
