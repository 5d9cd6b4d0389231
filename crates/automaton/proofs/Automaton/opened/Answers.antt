-- None of the array's entries counts yet.
use Rattle.std.proofs.Common.{refl}
use Rattle.automaton.specs.Struct.{automaton_of, edges_of}
use Rattle.automaton.proofs.Automaton.opened.Goals as goal

pub returns-clause-result_value : goal.returns-clause-result_value
unfolding automaton_of edges_of
returns-clause-result_value c = refl
