-- `automata::count_one` meets its contract: the test is that of the definition.
use borrow.Author.Tests.{eq-eqb, ne_eqb}
use Rattle.theory.specs.Lists.{one}
use Rattle.joining.proofs.automata.count_one.Statement.{statement}
use Rattle.joining.proofs.automata.count_one.Tie as tie

-- `return 1`
returns : tie.Need-returns-then-edge-q
unfolding one
returns c = rw (eq-eqb _ _ c.if-edge-q.true)

-- `fn count_one(edge: Edge, q: AutomatonState) -> usize`
returns-2 : tie.Need-returns
unfolding one
returns-2 c = rw (ne_eqb _ _ c.if-edge-q.false)

pub count_one_spec : {M : Type 1} → statement M
count_one_spec = tie.close (tie.spec returns returns-2)
