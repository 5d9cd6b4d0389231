-- What the drawing program prints, as bytes: a sheet, and with a book its tables, as one graph for Graphviz.
use Rattle.std.specs.Prelude.{Bool, List, [], ◌∷◌, ◌++◌, ℕ, suc, ◌-◌, eqb, length, get_or, drop}
use Rattle.theory.specs.Lists.{filter}
use Rattle.model.specs.Ascii.{ascii}
use Rattle.model.specs.Mask.{if, bit}
use Rattle.model.specs.Sheet.{Process, Automaton, Sheet}
use Rattle.template.specs.Template.{filled}
use Rattle.text.specs.Rows.{each_from, each_row, each_process, edges_text}
use Rattle.ties.specs.Unpack.{unpack}

-- ---- the automaton: its states are q0, q1, ..
-- a state; a rejecting one has two circles
unfoldable pub state_text : ℕ → Bool → List ℕ
state_text q rejecting =
    if rejecting (filled (ascii "        q# [label=\"#\", shape=doublecircle];\n") (q ∷ q ∷ []))
    (filled (ascii "        q# [label=\"#\"];\n") (q ∷ q ∷ []))

-- n states, with this rejecting mask
abbrev pub states_text : ℕ → ℕ → List ℕ
states_text n rejecting = each_from (λ q. state_text q (bit rejecting q)) n 0

-- an ED, with its on and off variables, by this template
abbrev pub ed_line : List ℕ
ed_line = ascii "        q# -> q# [label=\"?\"];\n"

-- and an EX by this one
abbrev pub ex_line : List ℕ
ex_line = ascii "        q# -> q# [label=\"unless ?\"];\n"

-- the front of its cluster: an arrow from a point leads to the initial state
abbrev pub automaton_front : ℕ → List ℕ
automaton_front initial =
    filled (ascii "    subgraph cluster_automaton {\n        label=\"automaton (two circles: rejecting)\";\n        q [shape=point];\n        q -> q#;\n") (initial ∷ [])

-- the end of a cluster
abbrev pub cluster_end : List ℕ
cluster_end = ascii "    }\n"

-- its cluster
unfoldable pub automaton_text : Automaton → List ℕ
automaton_text u = automaton_front u.initial ++ states_text u.states u.rejecting ++ edges_text ed_line ex_line u.edges ++ cluster_end

-- ---- the tables: the states of process i are pi_0, pi_1, ..
-- how many of the next states are y
unfoldable pub ways : ℕ → List ℕ → ℕ
ways y next = length (filter (λ z. eqb z y) next)

-- the inputs that index k stands for, on a line of their own
abbrev pub condition_text : ℕ → ℕ → List ℕ
condition_text inputs k = filled (ascii "?\\l") (unpack inputs k ∷ (inputs - unpack inputs k) ∷ [])

-- these lines for the next states that are y; the indexes are counted from k on
unfoldable pub conditions_text : ℕ → ℕ → List ℕ → ℕ → List ℕ
conditions_text inputs y [] k = []
conditions_text inputs y (z ∷ next) k = if (eqb z y) (condition_text inputs k) [] ++ conditions_text inputs y next (suc k)

-- the front of a move of process i from state x to y
abbrev pub move_front : ℕ → ℕ → ℕ → List ℕ
move_front i x y = filled (ascii "        p#_# -> p#_# [label=\"") (i ∷ x ∷ i ∷ y ∷ [])

-- its conditions, or `true` where x has no other move
unfoldable pub label_text : ℕ → ℕ → List ℕ → List ℕ
label_text inputs y next = if (eqb (ways y next) (length next)) (ascii "true") (conditions_text inputs y next 0)

-- the move, if there is one
unfoldable pub move_text : ℕ → ℕ → ℕ → List ℕ → ℕ → List ℕ
move_text i x inputs next y = if (eqb (ways y next) 0) [] (move_front i x y ++ label_text inputs y next ++ ascii "\"];\n")

-- the moves to n states
abbrev pub moves_text : ℕ → ℕ → ℕ → List ℕ → ℕ → List ℕ
moves_text i x inputs next n = each_from (move_text i x inputs next) n 0

-- state x with its outputs below its number
abbrev pub state_front : ℕ → ℕ → ℕ → List ℕ
state_front i x mask = filled (ascii "        p#_# [label=\"#\\n@\"];\n") (i ∷ x ∷ x ∷ mask ∷ [])

-- its row: the state, and the moves to `bound` states
unfoldable pub row_text : ℕ → ℕ → ℕ → ℕ → List ℕ → List ℕ
row_text i inputs bound x row = state_front i x (get_or row 0 0) ++ moves_text i x inputs (drop 1 row) bound

-- the front of the cluster of a PR: an arrow from a point leads to state 0, in which it starts
abbrev pub pr_front : ℕ → Process → List ℕ
pr_front i p =
    filled (ascii "    subgraph cluster_process_# {\n        label=\"process #: reads @, sets @\";\n        p# [shape=point];\n        p# -> p#_0;\n")
    (i ∷ i ∷ p.inputs ∷ p.outputs ∷ i ∷ i ∷ i ∷ [])

-- that of a PM says its prompt inputs too
abbrev pub pm_front : ℕ → Process → List ℕ
pm_front i p =
    filled (ascii "    subgraph cluster_process_# {\n        label=\"process #: reads @, prompt @, sets @\";\n        p# [shape=point];\n        p# -> p#_0;\n")
    (i ∷ i ∷ p.inputs ∷ p.prompts ∷ p.outputs ∷ i ∷ i ∷ i ∷ [])

-- either
unfoldable pub table_front : ℕ → Process → List ℕ
unfolding if
table_front i p = if p.prompted (pm_front i p) (pr_front i p)

-- its rows
abbrev pub rows_text : List ℕ → ℕ → Process → ℕ → List ℕ
rows_text c i p at = each_row (row_text i p.inputs p.bound) p at c

-- its cluster, where its entries of c begin at `at`
unfoldable pub table_text : List ℕ → ℕ → Process → ℕ → List ℕ
table_text c i p at = table_front i p ++ rows_text c i p at ++ cluster_end

-- the clusters of all processes
abbrev pub tables_text : List Process → List ℕ → List ℕ
tables_text ps c = each_process (table_text c) 0 ps 0

-- ---- the graph
-- its title says how large the sheet is
abbrev pub graph_front : ℕ → ℕ → ℕ → ℕ → List ℕ
graph_front variables environment processes states =
    filled (ascii "digraph sheet {\n    rankdir=LR;\n    labelloc=t;\n    label=\"variables #, of the environment #; processes #; automaton states #\";\n    node [shape=circle];\n")
    (variables ∷ environment ∷ processes ∷ states ∷ [])

-- the front and the automaton
unfoldable pub start_text : Sheet → List ℕ
start_text s =
    let a = s.architecture in
    let u = s.automaton in
    graph_front a.variables a.environment (length a.processes) u.states ++ automaton_text u

-- these, and other clusters behind them
abbrev pub graph_text : Sheet → List ℕ → List ℕ
graph_text s clusters = start_text s ++ clusters ++ ascii "}\n"

-- a sheet alone
abbrev pub sheet_text : Sheet → List ℕ
sheet_text s = graph_text s []

-- a sheet, and the tables of a choice c
abbrev pub book_text : Sheet → List ℕ → List ℕ
book_text s c = graph_text s (tables_text s.architecture.processes c)
