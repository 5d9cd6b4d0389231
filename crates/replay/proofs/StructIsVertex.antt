-- Vertices as structs and as the run has them: the initial one, the one behind a step, and one that a line leaves as it is.
use mathlib.Core.Path.{◌≡◌, sym, ap, ap₂, ◌∙◌}
use mathlib.Core.List.{List}
use Prim.Native.Nat.{ℕ, ◌<◌}
use Rattle.model.specs.declared.AutomatonState.{AutomatonState}
use Rattle.model.specs.Sheet as model
use Rattle.model.specs.Compose as compose
use Rattle.model.specs.Compose.{initial, step}
use Rattle.model.specs.Choice.{IsTables}
use Rattle.architecture.specs.declared.Architecture.{Architecture}
use Rattle.architecture.specs.Struct.{architecture_of}
use Rattle.architecture.proofs.ProcessesOfArrays.{facts}
use Rattle.automaton.specs.declared.Edge.{Edge}
use Rattle.automaton.specs.Struct.{edge_of, edge_in, automaton_of}
use Rattle.automaton.proofs.Edges.{edge_at_lem}
use Rattle.sheet.specs.declared.Sheet.{Sheet}
use Rattle.sheet.specs.Struct.{sheet_of, IsProper}
use Rattle.sheet.proofs.AnswersOfReading.{architecture_proper}
use Rattle.composition.specs.declared.Composed.{Composed}
use Rattle.composition.specs.Struct.{composed_of, IsState}
use Rattle.composition.proofs.StructIsModelState.{state_in}
use Rattle.composition.proofs.ChoiceAtFront.{step_chosen}
use Rattle.replay.specs.Run.{start_of, nowhere, onward}
use Rattle.replay.specs.Struct.{choice_in, vertex_at}

-- the same automaton state and composed state
pub same_vertex : (a : Architecture) {q q' : AutomatonState} {t t' : Composed} → q' ≡ q → t' ≡ t → vertex_at a q' t' ≡ vertex_at a q t
same_vertex a e f = ap₂ (vertex_at a) e f

module _ (sheet : Sheet) where
  -- the initial vertex
  pub start_is : (t : Composed) → composed_of sheet.architecture.processes t ≡ initial (architecture_of sheet.architecture)
      → vertex_at sheet.architecture sheet.automaton.initial t ≡ start_of (sheet_of sheet)
  unfolding start_of automaton_of
  start_is t e = ap (λ (x : compose.Composed). record { automaton = sheet.automaton.initial.0; composed = x }) e

  module _ (z : IsProper sheet) (tables : List ℕ) (choice : IsTables (architecture_of sheet.architecture) (choice_in sheet tables)) (from : Composed) (w : IsState sheet.architecture from) where
    -- the step of the tables is that of the choice
    pub step_is : (d : ℕ) (to : Composed)
        → composed_of sheet.architecture.processes to ≡ step (architecture_of sheet.architecture) tables (composed_of sheet.architecture.processes from) d
        → composed_of sheet.architecture.processes to ≡ step (architecture_of sheet.architecture) (choice_in sheet tables) (composed_of sheet.architecture.processes from) d
    step_is d to e =
        let a = sheet.architecture in
        e ∙ step_chosen (architecture_of a) tables choice (composed_of a.processes from) (state_in a from (facts (architecture_proper sheet z)).few_processes w) d

    -- the vertex behind the step
    pub onward_is : (q : ℕ) (d e : ℕ) (along : Edge) (to : Composed) → e < sheet.automaton.edges → edge_of along ≡ edge_in sheet.automaton e
        → composed_of sheet.architecture.processes to ≡ step (architecture_of sheet.architecture) tables (composed_of sheet.architecture.processes from) d
        → vertex_at sheet.architecture along.to to
        ≡ onward (sheet_of sheet) (choice_in sheet tables) (record { automaton = q; composed = composed_of sheet.architecture.processes from }) d e
    unfolding onward automaton_of
    onward_is q d e along to h edge stepped =
        ap₂ (λ (n : ℕ) (x : compose.Composed). record { automaton = n; composed = x })
        (ap (λ (x : model.Edge). x.to) (edge ∙ sym (edge_at_lem sheet.automaton e nowhere h)))
        (step_is d to stepped)
