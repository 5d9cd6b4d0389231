-- The copy of the edge at the index is due next, and there is room for it.
use Rattle.std.proofs.Common.{◌≡◌, ◌<◌, arith, length-take}
use Rattle.automaton.proofs.Edges.{taken, edge_taken}
use Rattle.joining.proofs.EdgesAdded.{copies_each, added_room, added_next, added_all}
use Rattle.joining.proofs.JoinFacts.{ends_few}
use Rattle.joining.proofs.automata.with_copies.Goals as goal

pub with_copy-joined-requires-clause-edge_bound : goal.with_copy-joined-requires-clause-edge_bound
with_copy-joined-requires-clause-edge_bound c =
    let u = c.args.u in
    let k = c.loop-edge.edge-index in
    let inside : k < u.edges = omega (arith, length-take u.edges u.edge_list) in
    added_room (copies_each c.args.by u.initial.0) c.loop-edge.invariant _ (edge_taken u u.edges k inside) inside c.requires.edges_bound

pub with_copy-joined-requires-clause-to_bound : goal.with_copy-joined-requires-clause-to_bound
with_copy-joined-requires-clause-to_bound c =
    let u = c.args.u in
    let k = c.loop-edge.edge-index in
    let inside : k < u.edges = omega (arith, length-take u.edges u.edge_list) in
    omega (arith, ends_few c.requires.arrays.1 k inside (taken u u.edges k) (edge_taken u u.edges k inside))

pub loop-edge-preserved : goal.loop-edge-preserved
loop-edge-preserved c =
    let u = c.args.u in
    let k = c.loop-edge.edge-index in
    let inside : k < u.edges = omega (arith, length-take u.edges u.edge_list) in
    added_next (copies_each c.args.by u.initial.0) c.loop-edge.invariant _ (edge_taken u u.edges k inside) inside c.with_copy-joined.ensures.arrays_after c.with_copy-joined.ensures.result_value

pub returns-clause-result_value : goal.returns-clause-result_value
returns-clause-result_value c =
    let u = c.args.u in
    let over : u.edges ≡ c.loop-edge.edge-index = omega (arith, length-take u.edges u.edge_list) in
    added_all (copies_each c.args.by u.initial.0) c.loop-edge.invariant over
