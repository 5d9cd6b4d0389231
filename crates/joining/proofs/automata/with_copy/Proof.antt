-- `automata::with_copy` meets its contract: the copy where the edge leaves q, and nothing where it does not.
use borrow.Author.Rules.{rules}
use mathlib.Core.Path.{sym, ap, ◌∙◌}
use mathlib.Core.List.{[], ◌∷◌}
use native.Mathlib.Omega.{arith}
use lib.ListN.{length}
use Rattle.model.specs.Sheet.{Edge, with_edge}
use Rattle.automaton.specs.Struct.{edge_of, automaton_of}
use Rattle.sheet.specs.Steps.{with_edges}
use Rattle.joining.proofs.EdgesAdded.{copies_on, copies_off, no_more}
use Rattle.joining.proofs.automata.with_copy.Statement.{statement}
use Rattle.joining.proofs.automata.with_copy.Tie as tie

-- `return into`
returns : tie.Need-returns-then-edge-q
returns c =
    let b = c.before.before.before in
    (sym (ap (with_edges (automaton_of b.args.into)) (copies_off b.args.by b.args.q.0 (edge_of b.args.edge) c.if-edge-q.true) ∙ no_more (automaton_of b.args.into)), b.requires.0)

-- `into.with_edge(copied(edge, by))`
copied-requires : tie.Need-copied-requires
copied-requires c κs = search rules

-- `into.with_edge(copied(edge, by))`
with-edge-requires : tie.Need-with_edge-requires
with-edge-requires c κs =
    let b = c.before.before.before.before in
    (b.requires.0, omega (arith, b.requires.1.0, ap length (copies_on b.args.by b.args.q.0 (edge_of b.args.edge) c.if-edge-q.false)))

-- `fn with_copy(into: Automaton, edge: Edge, q: AutomatonState, by: u8) -> Automaton`
returns-2 : tie.Need-returns
unfolding with_edge with_edges
returns-2 c =
    let b = c.before.before.before.before.before in
    let into = automaton_of b.args.into in (
      c.with_edge.ensures.0
          ∙ ap (with_edges into) (ap (λ (e : Edge). e ∷ []) c.copied.ensures ∙ sym (copies_on b.args.by b.args.q.0 (edge_of b.args.edge) c.if-edge-q.false)),
      c.with_edge.ensures.1.0,
    )

pub with_copy_spec : {M : Type 1} → statement M
with_copy_spec = tie.close (tie.spec returns copied-requires with-edge-requires returns-2)
