-- What the showing program prints for case S, in full, with a tie: the second process counts no choice of its own. One computed test.
use mathlib.Core.Path.{◌≡◌, refl}
use mathlib.Core.List.{List, [], ◌∷◌, ◌++◌}
use Prim.Native.Nat.{ℕ}
use Rattle.theory.specs.Lists.{put, from}
use Rattle.model.specs.Ascii.{ascii}
use Rattle.model.specs.Mask.{if, count}
use Rattle.model.specs.Reading.{proper, ◌then◌, read_sheet}
use Rattle.model.specs.Compose.{T, process_length}
use Rattle.model.specs.Choice.{rows, entries}
use Rattle.ties.specs.Leaders.{instead, join, join_all, leaders}
use Rattle.template.specs.Template as template
use Rattle.text.specs.Rows.{each_process, edges_text}
use Rattle.listing.specs.Listing.{process_text, ties_text, twos, threes, total, leading, show_text}

-- 02, request 4: two processes that read nothing and set two variables each, tied
abbrev sheet_s : List ℕ
sheet_s =
    0x41 ∷ 0x52 ∷ 0x04 ∷ 0x00 ∷ 0x00 ∷ 0x50 ∷ 0x52 ∷ 0x00 ∷ 0x05 ∷ 0x01 ∷ 0x50 ∷ 0x52 ∷ 0x00 ∷ 0x0A ∷ 0x01 ∷ 0x53 ∷ 0x59 ∷ 0x01 ∷ 0x00
    ∷ 0x41 ∷ 0x55 ∷ 0x02 ∷ 0x00 ∷ 0x02 ∷ 0x00 ∷ 0x45 ∷ 0x44 ∷ 0x00 ∷ 0x00 ∷ 0x00 ∷ 0x00 ∷ 0x45 ∷ 0x44 ∷ 0x00 ∷ 0x01 ∷ 0x00 ∷ 0x01
    ∷ 0x45 ∷ 0x44 ∷ 0x00 ∷ 0x01 ∷ 0x00 ∷ 0x08 ∷ 0x45 ∷ 0x44 ∷ 0x01 ∷ 0x01 ∷ 0x00 ∷ 0x00 ∷ 0x45 ∷ 0x4E ∷ []

abbrev text_s : List ℕ
text_s =
    ascii "variables 4\nenvironment nothing\nroot nothing\n"
    ++ ascii "process 0 reads nothing sets v0 v2 states 1\n"
    ++ ascii "process 1 reads nothing sets v1 v3 states 1\n"
    ++ ascii "tie 1 0\n"
    ++ ascii "automaton states 2 initial 0 rejecting 1\n"
    ++ ascii "edge 0 to 0 on nothing off nothing\n"
    ++ ascii "edge 0 to 1 on nothing off v0\n"
    ++ ascii "edge 0 to 1 on nothing off v3\n"
    ++ ascii "edge 1 to 1 on nothing off nothing\n"
    ++ ascii "composed 1\nentries 4\nchoices 2^2 3^0\n"

pub shows_s : (read_sheet sheet_s then λ s. proper (show_text s)) ≡ proper text_s
unfolding read_sheet ◌then◌ if count T process_length entries template.digit template.decimal_in template.decimal template.literal template.literals template.behind template.spaced
    template.variables template.states template.part template.taken template.filled each_process edges_text twos threes total from put leaders join_all join instead leading rows process_text ties_text show_text
shows_s = refl
