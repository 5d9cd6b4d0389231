-- The step leads to a composed state, along the edge to its automaton state, and the line is that of both.
use Rattle.std.proofs.Common.{◌≡◌, ◌∙◌}
use Rattle.sheet.specs.Struct.{sheet_of}
use Rattle.sheet.proofs.AnswersOfReading.{architecture_proper}
use Rattle.composition.specs.Struct.{IsState}
use Rattle.composition.proofs.StructIsModelState.{step_state}
use Rattle.replay.specs.Run.{onward, step_text}
use Rattle.replay.specs.Struct.{choice_in, vertex_at, vertex_of}
use Rattle.replay.proofs.StructIsVertex.{same_vertex, step_is, onward_is}
use Rattle.replay.proofs.put_step.Goals as goal
use Rattle.replay.proofs.put_step.Goals.{After-step-next}

onwards : (c : After-step-next) → let a = c.args in
    vertex_at a.sheet.architecture c.edge-along.result.to c.step-next.result
    ≡ onward (sheet_of a.sheet) (choice_in a.sheet a.tables.now) (vertex_of a.sheet.architecture a.from) a.direction a.edge
onwards c =
    let a = c.args in
    let r = c.requires in
    onward_is a.sheet r.proper a.tables.now r.tables a.from.state r.state a.from.automaton.0 a.direction a.edge c.edge-along.result c.step-next.result
    r.direction_bound.1 c.edge-along.ensures c.step-next.ensures.result_value

in-state : (c : After-step-next) → IsState c.args.sheet.architecture c.step-next.result
in-state c =
    let a = c.args in
    let r = c.requires in
    let to = c.step-next.result in
    let from = a.from.state in
    step_state a.sheet.architecture (architecture_proper a.sheet r.proper) from (choice_in a.sheet a.tables.now) a.direction r.tables r.state r.direction_bound.0 to c.step-next.ensures.states_len
    (step_is a.sheet r.proper a.tables.now r.tables from r.state a.direction to c.step-next.ensures.result_value)

pub put_line-requires-clause-state : goal.put_line-requires-clause-state
put_line-requires-clause-state c = in-state (goal.at.put_line-requires-clause-state c).After-step-next

pub put_line-requires-clause-run_in_bounds : goal.put_line-requires-clause-run_in_bounds
unfolding step_text
put_line-requires-clause-run_in_bounds c = rw (onwards (goal.at.put_line-requires-clause-run_in_bounds c).After-step-next) c.requires.edge_in_bounds

pub returns-clause-appends : goal.returns-clause-appends
unfolding step_text
returns-clause-appends c = rw (onwards (goal.at.returns-clause-appends c).After-step-next) at c.put_line.ensures.appends

pub returns-clause-reaches : goal.returns-clause-reaches
returns-clause-reaches c =
    let kept = c.put_line.ensures.vertex_stays in
    same_vertex c.args.sheet.architecture kept.0 kept.1 ∙ onwards (goal.at.returns-clause-reaches c).After-step-next

pub returns-clause-new_state : goal.returns-clause-new_state
returns-clause-new_state c = rw c.put_line.ensures.vertex_stays.1 (in-state (goal.at.returns-clause-new_state c).After-step-next)
