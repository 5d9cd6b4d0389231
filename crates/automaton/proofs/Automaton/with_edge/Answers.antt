-- A store behind the entries that count leaves those as they are.
use Rattle.std.proofs.Common.{arith}
use Rattle.model.specs.Sheet.{with_edge}
use Rattle.automaton.specs.Struct.{automaton_of}
use Rattle.automaton.proofs.Edges.{edges_more}
use Rattle.automaton.proofs.Automaton.with_edge.Goals as goal

pub returns-clause-result_value : goal.returns-clause-result_value
unfolding with_edge automaton_of
returns-clause-result_value c = rw (edges_more c.args.self.edges c.args.self.edge_list c.args.edge (omega arith))
