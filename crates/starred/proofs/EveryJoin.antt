-- Each join is as it is said.
use mathlib.Core.Path.{refl}
use Rattle.model.specs.Join.{join_bytes}
use Rattle.model.specs.Calls.{find_of, join_of}
use Rattle.starred.specs.Joins.{JoinsPinned}

pub every_join : JoinsPinned
unfolding join_bytes find_of join_of
every_join = record {
  A-with-A = refl;
  A-with-B = refl;
  B-with-A = refl;
  E-with-E = refl;
  G-with-G = refl;
  Y-with-Y = refl;
  too_short = refl;
  eight = refl;
  just_enough = refl;
  rest_stays = refl;
  other_machines = refl;
  other_bound = refl;
  other_kind = refl;
  other_tie = refl;
  sixteen_joined = refl;
  seventeen_joined = refl;
  sixty_four_edges = refl;
  sixty_six_edges = refl;
  none_copied = refl;
  X-with-Y = refl;
  first_two_first = refl;
  last_two_first = refl;
  first_before_second = refl;
  second_before_19 = refl;
  nineteen_before_20 = refl;
  twenty_before_8 = refl;
  F-with-E = refl;
  none_of_FE = refl;
  E-with-F = refl;
  none_of_EF = refl;
}
