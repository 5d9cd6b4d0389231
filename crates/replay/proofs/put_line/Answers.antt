-- The vertex behind the template.
use Rattle.append.proofs.Appended.{room_front, append_more, append_room}
use Rattle.template.specs.Template.{filled}
use Rattle.replay.proofs.put_line.Goals as goal

pub put_filled-after_template-requires : goal.put_filled-after_template-requires
put_filled-after_template-requires c = room_front _ _ (filled c.args.template.now c.args.numbers.now) _ c.requires.run_in_bounds

pub put_vertex-at-requires-clause-state_in_bounds : goal.put_vertex-at-requires-clause-state_in_bounds
put_vertex-at-requires-clause-state_in_bounds c = append_room c.put_filled-after_template.ensures _ c.requires.run_in_bounds

pub returns-clause-appends : goal.returns-clause-appends
returns-clause-appends c = append_more c.put_filled-after_template.ensures c.put_vertex-at.ensures
