-- The edge at the index is counted where it leaves q.
use Rattle.std.proofs.Common.{◌≡◌, ◌<◌, arith, length-take}
use Rattle.automaton.proofs.Edges.{edge_taken}
use Rattle.joining.proofs.JoinFacts.{leaving_turn, leaving_end, leaving_most}
use Rattle.joining.proofs.automata.leaving.Goals as goal

pub overflow_add-count : goal.overflow_add-count
overflow_add-count c =
    let u = c.args.u in
    let k = c.loop-edge.edge-index in
    let inside : k < u.edges = omega (arith, length-take u.edges u.edge_list) in
    omega (arith, c.count_one-count.ensures, leaving_turn u.initial.0 u k _ (edge_taken u u.edges k inside) inside, c.loop-edge.invariant, leaving_most u.initial.0 u)

pub loop-edge-preserved : goal.loop-edge-preserved
loop-edge-preserved c =
    let u = c.args.u in
    let k = c.loop-edge.edge-index in
    let inside : k < u.edges = omega (arith, length-take u.edges u.edge_list) in
    omega (arith, c.count_one-count.ensures, leaving_turn u.initial.0 u k _ (edge_taken u u.edges k inside) inside, c.loop-edge.invariant)

pub returns-clause-value : goal.returns-clause-value
returns-clause-value c =
    let u = c.args.u in
    let over : u.edges ≡ c.loop-edge.edge-index = omega (arith, length-take u.edges u.edge_list) in
    omega (arith, leaving_end u.initial.0 u c.loop-edge.edge-index over, c.loop-edge.invariant)

pub returns-clause-upper_bound : goal.returns-clause-upper_bound
returns-clause-upper_bound c = let u = c.args.u in omega (arith, c.loop-edge.invariant, leaving_most u.initial.0 u)
