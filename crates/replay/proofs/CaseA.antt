-- What is printed of a run for case A, with tables that grant only the first client: the second asks, and waits for ever. One computed test.
use mathlib.Core.Path.{◌≡◌, refl}
use mathlib.Core.List.{List, [], ◌∷◌, ◌++◌}
use Prim.Native.Nat.{ℕ}
use Rattle.model.specs.Ascii.{ascii}
use Rattle.model.specs.Mask.{if}
use Rattle.model.specs.Reading.{proper, ◌then◌, read_sheet}
use Rattle.model.specs.BenchCases.{sheet_a}
use Rattle.model.specs.Compose.{label, step, initial}
use Rattle.template.specs.Template as template
use Rattle.text.specs.Text.{fields}
use Rattle.replay.specs.Run.{start_of, onward, after, with_states, vertex_text, step_text, steps_text, opening_text, run_text}

-- state 0 grants g1 and stays
abbrev stays : List ℕ
stays = 4 ∷ 0 ∷ 0 ∷ 0 ∷ 0 ∷ 0 ∷ 0 ∷ 0 ∷ 0 ∷ 0 ∷ []

-- r2 comes, the run goes on to automaton state 2, and there it stays
abbrev waiting : List ℕ
waiting = 2 ∷ 0 ∷ 0 ∷ 3 ∷ 0 ∷ 5 ∷ []

abbrev text_a : List ℕ
text_a =
    ascii "loop 2 1\n"
    ++ ascii "start automaton 0 label 04 states 0\n"
    ++ ascii "direction 02 edge 0 automaton 0 label 06 states 0\n"
    ++ ascii "direction 00 edge 3 automaton 2 label 04 states 0\n"
    ++ ascii "round\n"
    ++ ascii "direction 00 edge 5 automaton 2 label 04 states 0\n"

pub replays_a : (read_sheet (sheet_a 2) then λ s. proper (run_text s stays 2 1 waiting)) ≡ proper text_a
unfolding read_sheet ◌then◌ if label step initial template.digit template.decimal_in template.decimal template.hex template.part template.taken template.filled
    fields start_of onward after with_states vertex_text step_text steps_text opening_text run_text
replays_a = refl
