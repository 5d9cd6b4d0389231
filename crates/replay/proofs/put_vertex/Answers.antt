-- The label is that of the choice.
use Rattle.std.proofs.Common.{◌≡◌, ◌∙◌}
use Rattle.model.specs.Compose.{label}
use Rattle.model.specs.Choice.{chosen}
use Rattle.architecture.specs.Struct.{architecture_of}
use Rattle.architecture.proofs.ProcessesOfArrays.{facts}
use Rattle.composition.specs.Struct.{composed_of}
use Rattle.composition.proofs.StructIsModelState.{state_in, chosen_long}
use Rattle.composition.proofs.ChoiceAtFront.{label_chosen}
use Rattle.replay.specs.Run.{vertex_text}
use Rattle.replay.proofs.put_vertex.Goals as goal
use Rattle.replay.proofs.put_vertex.Goals.{After-label-label}

label_is : (c : After-label-label) → let a = c.args.a in
    c.label-label.result ≡ label (architecture_of a) (chosen (architecture_of a) c.args.tables.now) (composed_of a.processes c.args.state)
label_is c =
    let a = c.args.a in
    let state = state_in a c.args.state (facts c.requires.proper_architecture).few_processes c.requires.state in
    c.label-label.ensures ∙ label_chosen (architecture_of a) c.args.tables.now c.requires.tables (composed_of a.processes c.args.state) state

pub label-label-requires-clause-a_in_bounds : goal.label-label-requires-clause-a_in_bounds
label-label-requires-clause-a_in_bounds c = chosen_long (architecture_of c.args.a) c.args.tables.now c.requires.tables

pub put_with_states-requires-clause-states_in_bounds : goal.put_with_states-requires-clause-states_in_bounds
unfolding vertex_text
put_with_states-requires-clause-states_in_bounds c = rw (label_is (goal.at.put_with_states-requires-clause-states_in_bounds c).After-label-label) c.requires.state_in_bounds

pub returns : goal.returns
unfolding vertex_text
returns c = rw (label_is (goal.at.returns c).After-label-label) at c.put_with_states.ensures
