-- What is asked of the structs of two automata that are joined. These are definitions.
use Rattle.std.specs.Prelude.{ℕ}
use Rattle.model.specs.Join.{join_automata}
use Rattle.model.specs.Refusals.{Fitting}
use Rattle.automaton.specs.declared.Automaton.{Automaton}
use Rattle.automaton.specs.Struct.{automaton_of, IsProper}

-- the struct holds a proper automaton, over some variables
pub record Proper (u : Automaton) : Type 0 where
  pub variables : ℕ
  pub is_proper : IsProper variables u

-- so do both, and as one they are not too large
pub record Joinable (u w : Automaton) : Type 0 where
  pub first : Proper u
  pub second : Proper w
  pub fits : Fitting (join_automata (automaton_of u) (automaton_of w))
