-- The count, and the edges from the index on that leave q, are all.
use Rattle.std.proofs.Common.{◌≡◌, ◌+◌, length, drop}
use Rattle.model.specs.Join.{leaving}
use Rattle.automaton.specs.Struct.{first_in}
use Rattle.joining.proofs.automata.leaving.Given as goal

abbrev pub invariant-loop-edge : goal.invariant-loop-edge
invariant-loop-edge l =
    let u = l.fn.u in
    l.count + length (leaving l.q.0 (drop l.edge-index (first_in u u.edges))) ≡ length (leaving l.q.0 (first_in u u.edges))
