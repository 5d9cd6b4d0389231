-- The text of a proper sheet and its tables fits into 65,536 bytes.
use mathlib.Core.Bool.{Bool, true, false}
use mathlib.Core.List.{List, [], ◌∷◌, ◌++◌}
use Prim.Native.Nat.{ℕ, suc, ◌*◌, ◌^◌, ◌<◌, ◌≤◌}
use native.Mathlib.Nat.{le_trans}
use native.Mathlib.Omega.{arith}
use lib.Dec.{eqb}
use lib.Pow.{pow_mono}
use lib.ListN.{length, get_or, drop, length-append, length-drop}
use Rattle.model.specs.Ascii.{ascii}
use Rattle.model.specs.Mask.{if, bit}
use Rattle.model.specs.SheetFile.{Bytes}
use Rattle.model.specs.Sheet.{Process, Automaton, Sheet, ProperProcess, ProperAutomaton, ProperSheet}
use Rattle.template.proofs.FilledShort.{longest, filled_short}
use Rattle.text.specs.Rows.{row_of}
use Rattle.text.proofs.RowsShort.{from_short, processes_short, Small, all_small, edges_short}
use Rattle.text.proofs.TextShort.{row_bytes, row_short}
use Rattle.ties.proofs.Unpacked.{unpack_le}
use Rattle.drawing.specs.Drawing as spec
use Rattle.drawing.specs.Drawing.{state_text, ed_line, ex_line, automaton_text, condition_text, conditions_text, label_text, move_text, row_text, pr_front, pm_front, table_front, table_text, start_text, sheet_text, book_text}

-- ---- the automaton
state_short : (q : ℕ) (rejecting : Bool) → q < 1000 → length (state_text q rejecting) ≤ 48
unfolding state_text if longest
state_short q true h = filled_short 2 (ascii "        q# [label=\"#\", shape=doublecircle];\n") _ (h, (h, tt))
state_short q false h = omega (arith, filled_short 2 (ascii "        q# [label=\"#\"];\n") (q ∷ q ∷ []) (h, (h, tt)))

automaton_short : {v : ℕ} (u : Automaton) → v ≤ 8 → ProperAutomaton v u → length (automaton_text u) ≤ 5767
unfolding automaton_text longest
automaton_short u few g =
    let front = filled_short 2 (ascii "    subgraph cluster_automaton {\n        label=\"automaton (two circles: rejecting)\";\n        q [shape=point];\n        q -> q#;\n")
    (u.initial ∷ []) (omega (arith, g.initial_known, g.few_states), tt) in
    let states = from_short (λ q. state_text q (bit u.rejecting q)) 48 16 (λ q h. state_short q (bit u.rejecting q) (omega arith)) u.states 0 (omega (arith, g.few_states)) in
    simp length-append (omega (arith, front, states, g.few_states, edges_short few g.few_states ed_line ex_line 76 (omega arith) (omega arith) u.edges g.edges_proper, g.few_edges))

-- ---- the moves of a state
condition_short : (inputs k : ℕ) → inputs < 256 → length (condition_text inputs k) ≤ 38
unfolding longest
condition_short inputs k h = filled_short 2 (ascii "?\\l") _ (omega (arith, unpack_le inputs k), (omega arith, tt))

conditions_short : (inputs y : ℕ) (next : List ℕ) (k : ℕ) → inputs < 256 → length (conditions_text inputs y next k) ≤ length next * 38
unfolding conditions_text if
conditions_short inputs y [] k h = omega arith
conditions_short inputs y (z ∷ next) k h =
    omega (
      arith,
      length-append (if (eqb z y) (condition_text inputs k) []) (conditions_text inputs y next (suc k)),
      own (eqb z y),
      conditions_short inputs y next (suc k) h,
    )
  where
    own : (t : Bool) → length (if t (condition_text inputs k) []) ≤ 38
    own true = condition_short inputs k h
    own false = omega arith

module _ (inputs : ℕ) (next : List ℕ) (known : inputs < 256) (few : length next ≤ 16) where
  label_short : (y : ℕ) → length (label_text inputs y next) ≤ 608
  unfolding label_text if
  label_short y = by (eqb (spec.ways y next) (length next))
    where
      by : (t : Bool) → length (if t (ascii "true") (conditions_text inputs y next 0)) ≤ 608
      by true = omega arith
      by false = omega (arith, conditions_short inputs y next 0 known)

  move_short : (i x y : ℕ) → i < 1000 → x < 1000 → y < 1000 → length (move_text i x inputs next y) ≤ 649
  unfolding move_text if longest
  move_short i x y hi hx hy = by (eqb (spec.ways y next) 0)
    where
      by : (t : Bool) → length (if t [] (spec.move_front i x y ++ label_text inputs y next ++ ascii "\"];\n")) ≤ 649
      by true = omega arith
      by false =
          let front = filled_short 2 (ascii "        p#_# -> p#_# [label=\"") (i ∷ x ∷ i ∷ y ∷ []) (hi, (hx, (hi, (hy, tt)))) in
          simp length-append (omega (arith, front, label_short y))

-- ---- the tables
row_text_short : (i inputs bound x : ℕ) (row : List ℕ) → i < 1000 → inputs < 256 → bound ≤ 4 → x < 1000 → Bytes row → length row ≤ 17 → length (row_text i inputs bound x row) ≤ 2669
unfolding row_text longest
row_text_short i inputs bound x row hi hm hb hx bytes l =
    let next = drop 1 row in
    let front = filled_short 2 (ascii "        p#_# [label=\"#\\n@\"];\n") (i ∷ x ∷ x ∷ get_or row 0 0 ∷ []) (hi, (hx, (hx, (omega (arith, bytes 0), tt)))) in
    let short : length next ≤ 16 = omega (arith, length-drop 1 row) in
    let moves = from_short (move_text i x inputs next) 649 4 (λ y hy. move_short inputs next hm short i x y hi hx (omega arith)) bound 0 (omega arith) in
    simp length-append (omega (arith, front, moves))

module _ {v : ℕ} (few : v ≤ 8) (c : List ℕ) (bytes : Bytes c) where
  known : 2 ^ v ≤ 256
  known = pow_mono {i = v} {j = 8} few

  front_short : {e : ℕ} (i : ℕ) (p : Process) → i < 4 → Small v e p → length (table_front i p) ≤ 257
  unfolding table_front if longest
  front_short {e} i p hi small = by p.prompted
    where
      own : ProperProcess v e p
      own = small.own

      by : (t : Bool) → length (if t (pm_front i p) (pr_front i p)) ≤ 257
      by true =
          filled_short 2 (ascii "    subgraph cluster_process_# {\n        label=\"process #: reads @, prompt @, sets @\";\n        p# [shape=point];\n        p# -> p#_0;\n") _ (
            omega arith,
            (
              omega arith,
              (
                omega (arith, known, own.inputs_known),
                (
                  omega (arith, known, own.inputs_known, small.prompts),
                  (omega (arith, known, own.outputs_known), (omega arith, (omega arith, (omega arith, tt)))),
                ),
              ),
            ),
          )
      by false =
          let short : length (pr_front i p) ≤ 209 = filled_short 2 (ascii "    subgraph cluster_process_# {\n        label=\"process #: reads @, sets @\";\n        p# [shape=point];\n        p# -> p#_0;\n") _
          (omega arith, (omega arith, (omega (arith, known, own.inputs_known), (omega (arith, known, own.outputs_known), (omega arith, (omega arith, (omega arith, tt))))))) in
          le_trans short (omega arith)

  table_short : {e : ℕ} (i : ℕ) (p : Process) (at : ℕ) → i < 4 → Small v e p → length (table_text c i p at) ≤ 10939
  unfolding table_text
  table_short {e} i p at hi small =
      let rows = from_short (λ x. row_text i p.inputs p.bound x (row_of p at c x)) 2669 4 row p.bound 0 (omega (arith, own.few_states)) in
      simp length-append (omega (arith, front_short i p hi small, rows, own.few_states))
    where
      own : ProperProcess v e p
      own = small.own

      row : (x : ℕ) → x < 4 → length (row_text i p.inputs p.bound x (row_of p at c x)) ≤ 2669
      row x hx =
          row_text_short i p.inputs p.bound x (row_of p at c x) (omega arith) (omega (arith, known, own.inputs_known)) own.few_states (omega arith)
          (row_bytes p at c x bytes) (row_short p at c x own)

-- ---- the graph: at most 4 processes, 16 automaton states and 64 edges
start_short : (s : Sheet) → ProperSheet s → length (start_text s) ≤ 5928
unfolding start_text longest
start_short s g =
    let a = s.architecture in
    let f = g.architecture.front in
    let front = filled_short 2
    (ascii "digraph sheet {\n    rankdir=LR;\n    labelloc=t;\n    label=\"variables #, of the environment #; processes #; automaton states #\";\n    node [shape=circle];\n")
    (a.variables ∷ a.environment ∷ length a.processes ∷ s.automaton.states ∷ [])
    (omega (arith, f.few_variables), (omega (arith, f.few_environment), (omega (arith, f.few_processes), (omega (arith, g.automaton.few_states), tt)))) in
    simp length-append (omega (arith, front, automaton_short s.automaton f.few_variables g.automaton))

pub sheet_short : (s : Sheet) → ProperSheet s → length (sheet_text s) ≤ 65536
sheet_short s g = simp length-append (omega (arith, start_short s g))

pub book_is_short : (s : Sheet) (c : List ℕ) → ProperSheet s → Bytes c → length (book_text s c) ≤ 65536
book_is_short s c g bytes =
    let f = g.architecture.front in
    let ps = s.architecture.processes in
    let tables = processes_short (table_text c) 10939 4 (table_short f.few_variables c bytes) 0 ps 0 (all_small f) (omega (arith, f.few_processes)) in
    simp length-append (omega (arith, start_short s g, tables, f.few_processes))
