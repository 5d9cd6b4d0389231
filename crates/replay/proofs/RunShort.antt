-- How long the text of a run is at most: 64 bytes for each step, and 128 for the rest.
use mathlib.Core.Path.{refl}
use mathlib.Core.List.Memᴰ
use mathlib.Core.List.{List, [], ◌∷◌}
use Prim.Native.Nat.{ℕ, ◌+◌, ◌*◌, ◌^◌, ◌<◌, ◌≤◌}
use native.Mathlib.Omega.{arith}
use lib.Bits.{or_lt}
use lib.ListN.{length, get_or, drop, length-append, length-take}
use Rattle.theory.proofs.ListLaws.{list_has}
use Rattle.model.specs.Ascii.{ascii}
use Rattle.model.specs.Sheet.{Process, Sheet, ProperProcesses, ProperSheet}
use Rattle.model.specs.Compose.{Composed, row_at, process_length, outputs, present, label}
use Rattle.model.specs.Choice.{IsTables}
use Rattle.model.specs.SheetFile.{Bytes}
use Rattle.model.proofs.ComposedNumbers.{InBounds, nobody, also_in, IsState, step_in, initial_in}
use Rattle.graph.proofs.TableEntries.{few_directions}
use Rattle.template.proofs.FilledShort.{longest, filled_short}
use Rattle.text.specs.Text.{field, fields}
use Rattle.replay.specs.Run.{Vertex, start_of, nowhere, onward, after, with_states, vertex_text, step_text, steps_text, opening_text, stem_of, run_text, Possible, none, also, HasRun}

-- a state has one digit
pub states_short : {v e : ℕ} {ps : List Process} {xs : List ℕ} → ProperProcesses v e ps → InBounds ps xs → length (fields xs) ≤ 2 * length ps
unfolding fields longest
states_short g nobody = omega arith
states_short g (also_in {p = p} {ps} {x} {xs} l w) =
    let own : length (field x) ≤ 2 = filled_short 0 (ascii " #") (x ∷ []) (omega (arith, (g p (Memᴰ.head refl)).few_states), tt) in
    omega (arith, length-append (field x) (fields xs), states_short (λ q m. g q (Memᴰ.tail m)) w)

-- ---- the vertices of a run
-- an automaton state of few digits, and a composed state
pub record InRun (s : Sheet) (v : Vertex) : Type 0 where
  pub automaton_few : v.automaton < 16
  pub composed_in : IsState s.architecture v.composed

module _ (s : Sheet) (good : ProperSheet s) (c : List ℕ) (choice : IsTables s.architecture c) where
  -- the initial vertex is one
  pub start_in : InRun s (start_of s)
  unfolding start_of
  start_in = record { automaton_few = omega (arith, good.automaton.initial_known, good.automaton.few_states); composed_in = initial_in s.architecture good.architecture }

  -- and so is the vertex behind a step
  pub onward_in : (v : Vertex) (d e : ℕ) → InRun s v → d < 2 ^ s.architecture.environment → e < length s.automaton.edges → InRun s (onward s c v d e)
  unfolding onward
  onward_in v d e i ld le =
      let own = good.automaton.edges_proper _ (list_has s.automaton.edges e nowhere le) in
      record { automaton_few = omega (arith, own.to_known, good.automaton.few_states); composed_in = step_in s.architecture c v.composed d choice i.composed_in ld }

  -- and behind several
  pub after_in : {steps : List ℕ} (v : Vertex) → Possible s steps → InRun s v → InRun s (after s c v steps)
  unfolding after
  after_in v none i = i
  after_in v (also {d} {e} ld le p) i = after_in (onward s c v d e) p (onward_in v d e i ld le)

  -- ---- lines
  module _ (bytes : Bytes c) where
    -- outputs and labels are bytes
    outputs_few : (ps : List Process) (at : ℕ) (xs : List ℕ) → outputs ps at c xs < 2 ^ 8
    unfolding outputs
    outputs_few [] at xs = omega arith
    outputs_few (p ∷ ps) at [] = omega arith
    outputs_few (p ∷ ps) at (x ∷ xs) = or_lt 8 (get_or c (row_at p at x) 0) (outputs ps (at + process_length p) c xs) (omega (arith, bytes (row_at p at x))) (outputs_few ps (at + process_length p) xs)

    label_few : (t : Composed) → IsState s.architecture t → label s.architecture c t < 2 ^ 8
    unfolding label present
    label_few t w =
        let few = few_directions s.architecture.environment good.architecture.front.few_environment in
        or_lt 8 t.environment _ (omega (arith, w.environment_in)) (outputs_few s.architecture.processes 0 t.states)

    -- what is said of a vertex
    vertex_short : (v : Vertex) → InRun s v → length (vertex_text s.architecture c v) ≤ 38
    unfolding vertex_text with_states longest
    vertex_short v i =
        let a = s.architecture in
        let f = good.architecture.front in
        let few = label_few v.composed i.composed_in in
        let first = filled_short 2 (ascii "automaton # label % states") (v.automaton ∷ label a c v.composed ∷ []) (omega (arith, i.automaton_few), (omega arith, tt)) in
        simp length-append (omega (arith, first, states_short f.processes_proper i.composed_in.states_in, f.few_processes))

    -- a line has at most 64 bytes
    step_short : (v : Vertex) (d e : ℕ) → InRun s v → d < 2 ^ s.architecture.environment → e < length s.automaton.edges → length (step_text s c v d e) ≤ 64
    unfolding step_text longest
    step_short v d e i ld le =
        let few = few_directions s.architecture.environment good.architecture.front.few_environment in
        let first = filled_short 1 (ascii "direction % edge # ") (d ∷ e ∷ []) (omega arith, (omega (arith, good.automaton.few_edges), tt)) in
        simp length-append (omega (arith, first, vertex_short (onward s c v d e) (onward_in v d e i ld le)))

    -- two bytes of the path for each line
    steps_short : {steps : List ℕ} (v : Vertex) → Possible s steps → InRun s v → length (steps_text s c v steps) ≤ 32 * length steps
    unfolding steps_text
    steps_short v none i = omega arith
    steps_short v (also {d} {e} {steps} ld le p) i =
        omega (
          arith,
          length-append (step_text s c v d e) (steps_text s c (onward s c v d e) steps),
          step_short v d e i ld le,
          steps_short (onward s c v d e) p (onward_in v d e i ld le),
        )

    -- the lengths have at most 20 digits each
    opening_short : (stem cycle : ℕ) → stem < 10 ^ 20 → cycle < 10 ^ 20 → length (opening_text s c stem cycle) ≤ 91
    unfolding opening_text longest
    opening_short stem cycle ls lc =
        let first = filled_short 19 (ascii "loop # #\nstart ") (stem ∷ cycle ∷ []) (ls, (lc, tt)) in
        simp length-append (omega (arith, first, vertex_short (start_of s) start_in))

    -- the whole text
    pub run_short : (stem cycle : ℕ) (path : List ℕ) → stem < 10 ^ 20 → cycle < 10 ^ 20 → HasRun s stem cycle path → length (run_text s c stem cycle path) ≤ 64 * (stem + cycle + 2)
    unfolding run_text
    run_short stem cycle path ls lc r =
        let turn = after s c (start_of s) (stem_of stem path) in
        simp length-append (omega (
          arith,
          opening_short stem cycle ls lc,
          steps_short (start_of s) r.stem_possible start_in,
          steps_short turn r.cycle_possible (after_in (start_of s) r.stem_possible start_in),
          length-take (2 * stem) path,
          length-take (2 * cycle) (drop (2 * stem) path),
        ))
