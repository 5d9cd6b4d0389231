-- Each desk is as it is said.
use mathlib.Core.Path.{refl}
use Rattle.model.specs.Compose.{initial}
use Rattle.model.specs.Desk.{on_desk, fresh_of, step_of, desk_after, answers, after, possible, due_from}
use Rattle.starred.specs.Desks.{DesksPinned}

pub every_desk : DesksPinned
unfolding initial on_desk fresh_of step_of desk_after answers after possible due_from
every_desk = record {
  fresh_A = refl;
  fresh_D = refl;
  fresh_root = refl;
  fresh_refused = refl;
  step_A = refl;
  step_D = refl;
  step_P = refl;
  unreached = refl;
  direction_out = refl;
  mask_out = refl;
  state_out = refl;
  second_out = refl;
  nothing_but_0 = refl;
  sheet_first = refl;
  book_first = refl;
  row_desk = refl;
  row_answers = refl;
  on_a_desk = refl;
  after_two = refl;
  possible_three = refl;
  due_four = refl;
  codes = (refl, refl);
}
