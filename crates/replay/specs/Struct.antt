-- What the struct of a run on its way stands for. These are definitions.
use Rattle.std.specs.Prelude.{List, ℕ}
use Rattle.model.specs.Choice.{chosen}
use Rattle.model.specs.declared.AutomatonState.{AutomatonState}
use Rattle.architecture.specs.declared.Architecture.{Architecture}
use Rattle.architecture.specs.Struct.{architecture_of}
use Rattle.sheet.specs.declared.Sheet.{Sheet}
use Rattle.composition.specs.declared.Composed.{Composed}
use Rattle.composition.specs.Struct.{composed_of}
use Rattle.replay.specs.declared.Progress.{Progress}
use Rattle.replay.specs.Run.{Vertex}

-- the choice at the front of the tables
abbrev pub choice_in : Sheet → List ℕ → List ℕ
choice_in s tables = chosen (architecture_of s.architecture) tables

-- the vertex of an automaton state and a composed state
abbrev pub vertex_at : Architecture → AutomatonState → Composed → Vertex
vertex_at a q t = record { automaton = q.0; composed = composed_of a.processes t }

-- the vertex that a run has come to
abbrev pub vertex_of : Architecture → Progress → Vertex
vertex_of a p = vertex_at a p.automaton p.state
