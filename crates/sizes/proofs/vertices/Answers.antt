-- A proper sheet has at most 4,096 vertices.
use Rattle.std.proofs.Common.{◌≡◌, ◌*◌, ap, arith}
use Rattle.model.specs.RunGraph.{vertices}
use Rattle.model.proofs.RunGraphSteps.{vertices_few}
use Rattle.automaton.specs.Struct.{automaton_of}
use Rattle.sheet.specs.Struct.{sheet_of}
use Rattle.sizes.proofs.vertices.Goals as goal
use Rattle.sizes.proofs.vertices.Goals.{After-composed_states}

product : (c : After-composed_states) → c.args.sheet.automaton.states * c.composed_states.result ≡ vertices (sheet_of c.args.sheet)
unfolding vertices automaton_of
product c = ap (λ n. c.args.sheet.automaton.states * n) c.composed_states.ensures

pub overflow_mul-result : goal.overflow_mul-result
overflow_mul-result c = omega (arith, product (goal.at.overflow_mul-result c).After-composed_states, vertices_few _ c.requires.proper)

pub returns : goal.returns
returns c = let is = product (goal.at.returns c).After-composed_states in (is, omega (arith, vertices_few _ c.requires.proper))
