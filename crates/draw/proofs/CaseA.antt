-- What the drawing program prints for case A and its book, in full: one computed test.
use mathlib.Core.Path.{◌≡◌, refl}
use mathlib.Core.List.{List, ◌++◌}
use Prim.Native.Nat.{ℕ}
use Rattle.theory.specs.Lists.{filter, put}
use Rattle.model.specs.Ascii.{ascii}
use Rattle.model.specs.Mask.{if, bit}
use Rattle.model.specs.Reading.{◌then◌, read_sheet}
use Rattle.model.specs.BenchCases.{sheet_a, book_a}
use Rattle.model.specs.Compose.{row_length, row_at, process_length}
use Rattle.model.specs.Book.{read_book}
use Rattle.template.specs.Template as template
use Rattle.text.specs.Rows.{each_from, each_process, edges_text}
use Rattle.text.specs.Text.{text_or_refused}
use Rattle.drawing.specs.Drawing.{state_text, automaton_text, ways, label_text, move_text, row_text, table_front, table_text, start_text}
use Rattle.draw.specs.Drawn.{with_book, drawn_with}

abbrev text_a : List ℕ
text_a =
    ascii "digraph sheet {\n"
    ++ ascii "    rankdir=LR;\n"
    ++ ascii "    labelloc=t;\n"
    ++ ascii "    label=\"variables 4, of the environment 2; processes 1; automaton states 4\";\n"
    ++ ascii "    node [shape=circle];\n"
    ++ ascii "    subgraph cluster_automaton {\n"
    ++ ascii "        label=\"automaton (two circles: rejecting)\";\n"
    ++ ascii "        q [shape=point];\n"
    ++ ascii "        q -> q0;\n"
    ++ ascii "        q0 [label=\"0\"];\n"
    ++ ascii "        q1 [label=\"1\", shape=doublecircle];\n"
    ++ ascii "        q2 [label=\"2\", shape=doublecircle];\n"
    ++ ascii "        q3 [label=\"3\", shape=doublecircle];\n"
    ++ ascii "        q0 -> q0 [label=\"true\"];\n"
    ++ ascii "        q0 -> q3 [label=\"v2 v3\"];\n"
    ++ ascii "        q0 -> q1 [label=\"v0\"];\n"
    ++ ascii "        q0 -> q2 [label=\"v1\"];\n"
    ++ ascii "        q1 -> q1 [label=\"!v2\"];\n"
    ++ ascii "        q2 -> q2 [label=\"!v3\"];\n"
    ++ ascii "        q3 -> q3 [label=\"true\"];\n"
    ++ ascii "    }\n"
    ++ ascii "    subgraph cluster_process_0 {\n"
    ++ ascii "        label=\"process 0: reads v0 v1, sets v2 v3\";\n"
    ++ ascii "        p0 [shape=point];\n"
    ++ ascii "        p0 -> p0_0;\n"
    ++ ascii "        p0_0 [label=\"0\\nv2\"];\n"
    ++ ascii "        p0_0 -> p0_1 [label=\"true\"];\n"
    ++ ascii "        p0_1 [label=\"1\\nv3\"];\n"
    ++ ascii "        p0_1 -> p0_0 [label=\"true\"];\n"
    ++ ascii "    }\n"
    ++ ascii "}\n"

pub draws_a : drawn_with (sheet_a 2) book_a ≡ text_a
unfolding read_sheet ◌then◌ if bit filter put row_length row_at process_length read_book template.digit template.decimal_in template.decimal template.literal template.literals template.behind
    template.spaced template.variables template.condition template.part template.taken template.filled each_from each_process edges_text state_text automaton_text ways label_text move_text row_text
    table_front table_text start_text text_or_refused with_book drawn_with
draws_a = refl
