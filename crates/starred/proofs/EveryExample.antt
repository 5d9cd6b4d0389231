-- Every example holds, by computation.
use mathlib.Core.Path.{refl}
use Rattle.model.specs.Mask.{pack}
use Rattle.model.specs.Compose.{reads, step, initial, T, number, composed}
use Rattle.model.specs.Reading.{read_front}
use Rattle.model.specs.SheetFile.{process_bytes, sheet_bytes}
use Rattle.model.specs.Choice.{entries, table_of, keeps_ties, lowered, pad_rows, padded}
use Rattle.model.specs.RunGraph.{start, meets, met}
use Rattle.model.specs.Computed.{successors}
use Rattle.model.specs.Calls.{check_of, find_of, judge_of, annotate_of, write_of, read_of, part_of}
use Rattle.model.specs.Demands.{read_by, next_of}
use Rattle.model.specs.BenchCases.{longest}
use Rattle.starred.specs.Examples.{Pinned}

pub every_example : Pinned
unfolding pack reads step initial T number composed read_front process_bytes sheet_bytes entries table_of keeps_ties lowered pad_rows padded
    start meets met successors check_of find_of judge_of annotate_of write_of read_of part_of read_by next_of longest
every_example = record {
  index_rises = refl;
  index_of_eight = refl;
  states_multiply = refl;
  numbered = refl;
  unnumbered = refl;
  root_kept = refl;
  stepped = refl;
  reads_both = refl;
  reads_old = refl;
  chain_risen = refl;
  chain_fallen = refl;
  both_new = refl;
  none_prompt = refl;
  as_PR = refl;
  read_by_lem = refl;
  next_of_lem = refl;
  entries_in_order = refl;
  zeros_behind = refl;
  own_rows = refl;
  never_raised = refl;
  prompts_kept = refl;
  packed_first = refl;
  packed_last = refl;
  own_table = refl;
  no_table = refl;
  tie_kept = refl;
  mask_differs = refl;
  later_mask_differs = refl;
  last_next_differs = refl;
  place_by_place = refl;
  chain_kept = refl;
  chain_broken_first = refl;
  chain_broken_last = refl;
  padded_kept = refl;
  starts = refl;
  off_needs_none = refl;
  unless_one_missing = refl;
  unless_off_there = refl;
  unless_neither = refl;
  unless_elsewhere = refl;
  waits_unless = refl;
  never_met = refl;
  follows = refl;
  counts_each = refl;
  start_counts = refl;
  on_the_way = refl;
  unreached = refl;
  longer_loop = refl;
  greatest_number = refl;
  start_numbered = refl;
  successor_numbered = refl;
  no_lower = refl;
  everywhere = refl;
  nine_variables = refl;
  five_of_environment = refl;
  root_bit_unknown = refl;
  bound_0 = refl;
  bound_5 = refl;
  five_inputs = refl;
  at_most_256 = refl;
  above_256 = refl;
  prompts_read = refl;
  prompts_none = refl;
  prompts_none_proper = refl;
  process_written = refl;
  prompts_written = refl;
  prompts_none_written = refl;
  sheet_written = refl;
  longest_sheet_lem = refl;
  prompt_no_input = refl;
  prompt_of_environment = refl;
  prompt_of_later = refl;
  prompt_unknown = refl;
  prompt_own = refl;
  field_before_prompt = refl;
  taken_before_prompt = refl;
  prompt_before_process = refl;
  prompt_before_tie = refl;
  prompt_before_owner = refl;
  prompted_cut = refl;
  four_processes = refl;
  fifth_prompted = refl;
  fifth_prompted_cut = refl;
  fifth_plain = refl;
  fifth_plain_cut = refl;
  prompted_behind_tie = refl;
  ties_read = refl;
  circle_of_ties = refl;
  bounds_differ = refl;
  inputs_differ = refl;
  outputs_differ = refl;
  lengths_agree = refl;
  same_process = refl;
  no_left = refl;
  no_right = refl;
  neither = refl;
  places_differ = refl;
  prompt_alone = refl;
  places_agree = refl;
  kinds_differ = refl;
  tie_before_owner = refl;
  tie_cut = refl;
  fourth_tie = refl;
  fourth_tie_cut = refl;
  tie_first = refl;
  tie_first_cut = refl;
  process_behind_tie = refl;
  tie_behind_automaton = refl;
  five_before_six = refl;
  seventeen_states = refl;
  shared_bit = refl;
  unless_shared_bit = refl;
  unless_cut = refl;
  book_buffer_short = refl;
  annotation_buffer_short = refl;
  book_before_entries = refl;
  output_outside = refl;
  next_at_bound = refl;
  entries_before_room = refl;
  broken_annotated = refl;
  broken_judged = refl;
  broken_read = refl;
  broken_part = refl;
  broken_written = refl;
  broken_malformed = refl;
  broken_part_process = refl;
  rest_not_tied = refl;
  write_entries_first = refl;
  write_room = refl;
  longer_book = refl;
  tables_read = refl;
  none_read = refl;
  part_process_next = refl;
  part_book_last = refl;
  code_none = refl;
  code_tables = refl;
  code_no = refl;
  code_yes = refl;
}
