-- The edge at the index is due next, and there is room for it.
use Rattle.std.proofs.Common.{◌≡◌, ◌+◌, ◌<◌, ◌≤◌, ◌∙◌, ap, [], ◌∷◌, map, length, arith, length-take}
use lib.ListN.{length-map}
use Rattle.model.specs.Sheet as model
use Rattle.model.specs.Join.{moved}
use Rattle.automaton.specs.Struct.{first_in, automaton_of}
use Rattle.automaton.proofs.Edges.{taken, edge_taken, edges_length}
use Rattle.sheet.specs.Steps.{with_edges}
use Rattle.joining.proofs.EdgesAdded.{moved_each, added_room, added_next, added_all}
use Rattle.joining.proofs.JoinFacts.{ends_few}
use Rattle.joining.proofs.automata.with_edges.Goals as goal

pub moved-requires : goal.moved-requires
moved-requires c =
    let u = c.args.u in
    let k = c.loop-edge.edge-index in
    let inside : k < u.edges = omega (arith, length-take u.edges u.edge_list) in
    let own = ends_few c.requires.arrays.1 k inside (taken u u.edges k) (edge_taken u u.edges k inside) in
    (omega arith, omega arith)

pub with_edge-joined-requires-clause-edges_bound : goal.with_edge-joined-requires-clause-edges_bound
with_edge-joined-requires-clause-edges_bound c =
    let u = c.args.u in
    let k = c.loop-edge.edge-index in
    let inside : k < u.edges = omega (arith, length-take u.edges u.edge_list) in
    let room : c.args.into.edges + length (map (moved c.args.by) (first_in u u.edges)) ≤ 64 = omega (arith, length-map (first_in u u.edges) (moved c.args.by), edges_length u, c.requires.edges_bound) in
    omega (arith, added_room (moved_each c.args.by) c.loop-edge.invariant _ (edge_taken u u.edges k inside) inside room)

pub loop-edge-preserved : goal.loop-edge-preserved
unfolding model.with_edge with_edges
loop-edge-preserved c =
    let u = c.args.u in
    let k = c.loop-edge.edge-index in
    let inside : k < u.edges = omega (arith, length-take u.edges u.edge_list) in
    added_next (moved_each c.args.by) c.loop-edge.invariant _ (edge_taken u u.edges k inside) inside c.with_edge-joined.ensures.arrays_after.0
    (c.with_edge-joined.ensures.result_value ∙ ap (λ (e : model.Edge). with_edges (automaton_of c.loop-edge.joined) (e ∷ [])) c.moved.ensures)

pub returns-clause-result_value : goal.returns-clause-result_value
returns-clause-result_value c =
    let u = c.args.u in
    let over : u.edges ≡ c.loop-edge.edge-index = omega (arith, length-take u.edges u.edge_list) in
    added_all (moved_each c.args.by) c.loop-edge.invariant over
