-- What the showing program prints for case A, in full: one computed test.
use mathlib.Core.Path.{◌≡◌, refl}
use mathlib.Core.List.{List, ◌++◌}
use Prim.Native.Nat.{ℕ}
use Rattle.theory.specs.Lists.{put, from}
use Rattle.model.specs.Ascii.{ascii}
use Rattle.model.specs.Mask.{if, count}
use Rattle.model.specs.Reading.{proper, ◌then◌, read_sheet}
use Rattle.model.specs.BenchCases.{sheet_a}
use Rattle.model.specs.Compose.{T, process_length}
use Rattle.model.specs.Choice.{rows, entries}
use Rattle.ties.specs.Leaders.{join_all, leaders}
use Rattle.template.specs.Template as template
use Rattle.text.specs.Rows.{each_process, edges_text}
use Rattle.listing.specs.Listing.{process_text, ties_text, twos, threes, total, leading, show_text}

abbrev text_a : List ℕ
text_a =
    ascii "variables 4\nenvironment v0 v1\nroot nothing\n"
    ++ ascii "process 0 reads v0 v1 sets v2 v3 states 2\n"
    ++ ascii "automaton states 4 initial 0 rejecting 1 2 3\n"
    ++ ascii "edge 0 to 0 on nothing off nothing\n"
    ++ ascii "edge 0 to 3 on v2 v3 off nothing\n"
    ++ ascii "edge 0 to 1 on v0 off nothing\n"
    ++ ascii "edge 0 to 2 on v1 off nothing\n"
    ++ ascii "edge 1 to 1 on nothing off v2\n"
    ++ ascii "edge 2 to 2 on nothing off v3\n"
    ++ ascii "edge 3 to 3 on nothing off nothing\n"
    ++ ascii "composed 8\nentries 10\nchoices 2^12 3^0\n"

pub shows_a : (read_sheet (sheet_a 2) then λ s. proper (show_text s)) ≡ proper text_a
unfolding read_sheet ◌then◌ if count T process_length entries template.digit template.decimal_in template.decimal template.literal template.literals template.behind template.spaced
    template.variables template.states template.part template.taken template.filled each_process edges_text twos threes total from put leaders join_all leading rows process_text ties_text show_text
shows_a = refl
