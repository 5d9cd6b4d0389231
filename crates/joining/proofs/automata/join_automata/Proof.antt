-- `automata::join_automata` meets its contract: the new start, and behind it the copies of both and all edges of both, each with room.
use mathlib.Core.Path.{◌≡◌, ap, ◌∙◌}
use mathlib.Core.List.{[], map}
use Prim.Native.Nat.{ℕ, ◌+◌}
use native.Mathlib.Omega.{arith}
use lib.ListN.{length, length-map}
use borrow.Author.Rules.{rules}
use Rattle.model.specs.Sheet as model
use Rattle.model.specs.Join.{moved, copies, join_automata}
use Rattle.automaton.specs.Struct.{first_in, automaton_of}
use Rattle.automaton.proofs.Edges.{edges_length}
use Rattle.sheet.specs.Steps.{with_edges}
use Rattle.joining.proofs.EdgesAdded.{edges_grown}
use Rattle.joining.proofs.JoinFacts.{states_few, edges_few}
use Rattle.joining.proofs.automata.join_automata.Statement.{statement}
use Rattle.joining.proofs.automata.join_automata.Tie as tie

-- ---- back from each part
abbrev entry : tie.After-opened-opened → tie.Start
entry c = c.before.before.before.before

abbrev opened : tie.After-with_copies-copies_of_u → tie.After-opened-opened
opened c = c.before

-- the copies of u are there
first-copies : (c : tie.After-with_copies-copies_of_u) → let u = (entry (opened c)).args.u in c.with_copies-copies_of_u.result.edges ≡ length (copies 1 u.initial.0 (first_in u u.edges))
first-copies c = omega (arith, edges_grown c.with_copies-copies_of_u.result (opened c).opened-opened.result _ c.with_copies-copies_of_u.ensures.0, (opened c).opened-opened.ensures.1.1)

-- and those of w behind them
both-copies : (c : tie.After-with_copies-copies_of_both) → let b = (entry (opened c.before)).args in
    c.with_copies-copies_of_both.result.edges ≡ length (copies 1 b.u.initial.0 (first_in b.u b.u.edges)) + length (copies (1 + b.u.states) b.w.initial.0 (first_in b.w b.w.edges))
both-copies c = omega (arith, edges_grown c.with_copies-copies_of_both.result c.with_copies-copies_of_u.result _ c.with_copies-copies_of_both.ensures.0, first-copies c.before)

-- `let second = 1 + u.states`
add-second : tie.Need-overflow_add-second
add-second c = let b = c.before in omega (arith, states_few b.args.u b.args.w b.requires)

-- `let opened = Automaton::opened(second + w.states, AutomatonState(0), rejecting(u, w))`
add-opened : tie.Need-overflow_add-second-2
add-opened c = let b = c.before.before in omega (arith, states_few b.args.u b.args.w b.requires)

-- `let opened = Automaton::opened(second + w.states, AutomatonState(0), rejecting(u, w))`
rejecting-requires : tie.Need-rejecting-requires
rejecting-requires c κs = search rules

-- `let opened = Automaton::opened(second + w.states, AutomatonState(0), rejecting(u, w))`
opened-requires : tie.Need-opened-opened-requires
opened-requires c κs = search rules

-- `let copies_of_u = with_copies(opened, u, 1)`
with-copies-requires : tie.Need-with_copies-copies_of_u-requires
with-copies-requires c κs =
    let b = entry c in
    ((c.opened-opened.ensures.1.0, b.requires.first, omega arith), omega (arith, c.opened-opened.ensures.1.1, edges_few b.args.u b.args.w b.requires))

-- `let copies_of_both = with_copies(copies_of_u, w, second)`
with-copies-requires-2 : tie.Need-with_copies-copies_of_both-requires
with-copies-requires-2 c κs =
    let b = entry (opened c) in
    ((c.with_copies-copies_of_u.ensures.1, b.requires.second, omega (arith, states_few b.args.u b.args.w b.requires)), omega (arith, first-copies c, edges_few b.args.u b.args.w b.requires))

-- `let edges_of_u = with_edges(copies_of_both, u, 1)`
with-edges-requires : tie.Need-with_edges-edges_of_u-requires
with-edges-requires c κs =
    let b = entry (opened c.before) in
    ((c.with_copies-copies_of_both.ensures.1, b.requires.first, omega arith), omega (arith, both-copies c, edges_few b.args.u b.args.w b.requires))

-- `with_edges(edges_of_u, w, second)`
with-edges-requires-2 : tie.Need-with_edges-requires
with-edges-requires-2 c κs =
    let b = entry (opened c.before.before) in
    let u = b.args.u in
    let grown = edges_grown c.with_edges-edges_of_u.result c.with_copies-copies_of_both.result _ c.with_edges-edges_of_u.ensures.0 in (
      (c.with_edges-edges_of_u.ensures.1, b.requires.second, omega (arith, states_few u b.args.w b.requires)),
      omega (arith, grown, both-copies c.before, length-map (first_in u u.edges) (moved 1), edges_length u, edges_few u b.args.w b.requires),
    )

-- `with_edges(edges_of_u, w, second)`
returns : tie.Need-returns
unfolding join_automata automaton_of with_edges
returns c =
    let e₄ = c.with_edges in
    let e₃ = c.with_edges-edges_of_u in
    let e₂ = c.with_copies-copies_of_both in
    let e₁ = c.with_copies-copies_of_u in
    let o = opened c.before.before.before in
    let b = (entry o).args in
    let r = o.rejecting in
    let second = 1 + b.u.states in (
      e₄.ensures.0
          ∙ ap (λ (x : model.Automaton). with_edges x (map (moved second) (first_in b.w b.w.edges))) (e₃.ensures.0
          ∙ ap (λ (x : model.Automaton). with_edges x (map (moved 1) (first_in b.u b.u.edges))) (e₂.ensures.0
          ∙ ap (λ (x : model.Automaton). with_edges x (copies second b.w.initial.0 (first_in b.w b.w.edges))) (e₁.ensures.0
          ∙ ap (λ (x : model.Automaton). with_edges x (copies 1 b.u.initial.0 (first_in b.u b.u.edges))) (o.opened-opened.ensures.0
          ∙ ap (λ (m : ℕ). record { states = second + b.w.states; initial = 0; rejecting = m; edges = [] }) r.ensures)))),
      e₄.ensures.1,
    )

pub join_automata_spec : {M : Type 1} → statement M
join_automata_spec =
    tie.close
    (tie.spec
    add-second
    add-opened
    rejecting-requires
    opened-requires
    with-copies-requires
    with-copies-requires-2
    with-edges-requires
    with-edges-requires-2
    returns)
