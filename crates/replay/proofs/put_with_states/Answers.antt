-- The template, the states and a line feed, each behind the one before.
use Rattle.std.proofs.Common.{List, ℕ, ◌++◌, take}
use Rattle.composition.specs.Struct.{numbers}
use Rattle.append.proofs.Appended.{room_front, append_more, append_room}
use Rattle.template.specs.Template.{filled}
use Rattle.text.specs.Text.{fields}
use Rattle.replay.specs.Run.{with_states}
use Rattle.replay.proofs.put_with_states.Goals as goal
use Rattle.replay.proofs.put_with_states.Goals.{Start}

abbrev first : Start → List ℕ
first c = filled c.args.template.now c.args.numbers.now

abbrev states : Start → List ℕ
states c = fields (take c.args.processes (numbers c.args.state.states))

pub put_filled-after_template-requires : goal.put_filled-after_template-requires
unfolding with_states
put_filled-after_template-requires c =
    let b = (goal.at.put_filled-after_template-requires c).Start in
    room_front _ _ (first b) (states b) (room_front _ _ (first b ++ states b) _ c.requires.states_in_bounds)

pub put_states-after_states-requires-clause-states_in_bounds : goal.put_states-after_states-requires-clause-states_in_bounds
unfolding with_states
put_states-after_states-requires-clause-states_in_bounds c =
    let b = (goal.at.put_states-after_states-requires-clause-states_in_bounds c).Start in
    append_room c.put_filled-after_template.ensures _ (room_front _ _ (first b ++ states b) _ c.requires.states_in_bounds)

pub put_all-requires : goal.put_all-requires
unfolding with_states
put_all-requires c = append_room (append_more c.put_filled-after_template.ensures c.put_states-after_states.ensures) _ c.requires.states_in_bounds

pub returns : goal.returns
unfolding with_states
returns c = append_more (append_more c.put_filled-after_template.ensures c.put_states-after_states.ensures) c.put_all.ensures
