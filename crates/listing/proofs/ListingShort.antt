-- The text of a proper sheet fits into 8,192 bytes.
use mathlib.Core.Path.{refl}
use mathlib.Core.Bool.{Bool, true, false}
use mathlib.Core.List.Memᴰ
use mathlib.Core.List.{List, [], ◌∷◌}
use Prim.Native.Nat.{ℕ, ◌*◌, ◌^◌, ◌<◌, ◌≤◌}
use native.Mathlib.Nat.{le_trans}
use native.Mathlib.Omega.{arith}
use lib.Pow.{pow_mono}
use lib.ListN.{length, length-append}
use Rattle.model.specs.Ascii.{ascii}
use Rattle.model.specs.Mask.{if}
use Rattle.model.specs.Sheet.{Process, Tie, Architecture, Automaton, Sheet, ProperProcess, ProperProcesses, ProperTies, ProperArchitecture, ProperAutomaton, ProperSheet}
use Rattle.model.specs.Compose.{T}
use Rattle.model.specs.Choice.{rows, entries}
use Rattle.model.proofs.EntriesBound.{rows_short}
use Rattle.template.proofs.FilledShort.{longest, filled_short}
use Rattle.text.proofs.RowsShort.{processes_short, Small, all_small, edges_short}
use Rattle.ties.specs.Leaders.{leaders}
use Rattle.listing.specs.Listing.{front_text, pr_text, pm_text, process_text, tie_text, ties_text, states_text, ed_line, ex_line, twos, threes, total, once, counts_text, show_text}
use Rattle.listing.proofs.Exponents.{twos_few, threes_few, total_few}
use Rattle.listing.proofs.LeadingRows.{leading_has, leading_short}

-- ---- the records
front_short : (a : Architecture) → ProperArchitecture a → length (front_text a.variables a.environment a.root) ≤ 111
unfolding longest
front_short a g =
    let f = g.front in
    let few : 2 ^ a.environment ≤ 16 = pow_mono {i = a.environment} {j = 4} f.few_environment in
    filled_short 2 (ascii "variables #\nenvironment @\nroot @\n") _ (omega (arith, f.few_variables), (omega arith, (omega (arith, f.root_known), tt)))

process_short : {v e : ℕ} → v ≤ 8 → (i : ℕ) (p : Process) (at : ℕ) → i < 4 → Small v e p → length (process_text i p) ≤ 161
unfolding longest process_text if
process_short {v} {e} few i p at h small = by p.prompted
  where
    own : ProperProcess v e p
    own = small.own

    known : 2 ^ v ≤ 256
    known = pow_mono {i = v} {j = 8} few

    by : (t : Bool) → length (if t (pm_text i p) (pr_text i p)) ≤ 161
    by true =
        filled_short 2 (ascii "process # reads @ prompt @ sets @ states #\n") _ (
          omega arith,
          (
            omega (arith, own.inputs_known, known),
            (
              omega (arith, own.inputs_known, small.prompts, known),
              (omega (arith, own.outputs_known, known), (omega (arith, own.few_states), tt)),
            ),
          ),
        )
    by false =
        let short : length (pr_text i p) ≤ 114 = filled_short 2 (ascii "process # reads @ sets @ states #\n") _
        (omega arith, (omega (arith, own.inputs_known, known), (omega (arith, own.outputs_known, known), (omega (arith, own.few_states), tt)))) in
        le_trans short (omega arith)

-- a process has a number of one digit
tie_short : (t : Tie) → t.left < 10 → t.right < 10 → length (tie_text t) ≤ 8
unfolding longest
tie_short t l r = filled_short 0 (ascii "tie # #\n") _ (l, (r, tt))

ties_short : (ps : List Process) (ts : List Tie) → length ps ≤ 4 → ProperTies ps ts → length (ties_text ts) ≤ 8 * length ts
unfolding ties_text
ties_short ps [] few g = omega arith
ties_short ps (t ∷ ts) few g =
    let own = g t (Memᴰ.head refl) in
    omega (
      arith,
      length-append (tie_text t) (ties_text ts),
      tie_short t (omega (arith, own.left_known)) (omega (arith, own.right_known)),
      ties_short ps ts few (λ u m. g u (Memᴰ.tail m)),
    )

states_short : {v : ℕ} (u : Automaton) → ProperAutomaton v u → length (states_text u.states u.initial u.rejecting) ≤ 119
unfolding longest
states_short u g =
    let few : 2 ^ u.states ≤ 2 ^ 16 = pow_mono {i = u.states} {j = 16} g.few_states in
    filled_short 4 (ascii "automaton states # initial # rejecting $\n") _
    (omega (arith, g.few_states), (omega (arith, g.few_states, g.initial_known), (omega (arith, g.rejecting_known), tt)))

-- ---- the counts
counts_short : (a : Architecture) → ProperArchitecture a → length (counts_text a) ≤ 45
unfolding longest T entries
counts_short a g =
    let f = g.front in
    let ps = a.processes in
    let n = f.few_processes in
    let own : ProperProcesses a.variables a.environment (once a) = λ p m. f.processes_proper p (leading_has (leaders (length ps) a.ties) 0 ps p m) in
    let few = leading_short (leaders (length ps) a.ties) 0 ps in
    let all : length (rows ps) < 1000 = omega (arith, n, rows_short ps f.processes_proper) in
    let two : total twos (rows (once a)) < 1000 = omega (arith, n, few, total_few twos (once a) twos_few f.few_variables own) in
    let three : total threes (rows (once a)) < 1000 = omega (arith, n, few, total_few threes (once a) threes_few f.few_variables own) in
    filled_short 2 (ascii "composed #\nentries #\nchoices 2^# 3^#\n") _ (omega (arith, g.few_composed), (all, (two, (three, tt))))

-- ---- the text: at most 4 processes, 3 ties and 64 edges
pub show_short : (s : Sheet) → ProperSheet s → length (show_text s) ≤ 8192
unfolding show_text longest
show_short s g =
    let a = g.architecture in
    let u = g.automaton in
    let f = a.front in
    simp length-append
    (omega (
      arith,
      front_short s.architecture a,
      processes_short (λ i p at. process_text i p) 161 4 (process_short f.few_variables) 0 s.architecture.processes 0
          (all_small f) (omega (arith, f.few_processes)),
      f.few_processes,
      ties_short s.architecture.processes s.architecture.ties f.few_processes f.ties_proper,
      f.few_ties,
      states_short s.automaton u,
      edges_short f.few_variables u.few_states ed_line ex_line 110 (omega arith) (omega arith) s.automaton.edges u.edges_proper,
      u.few_edges,
      counts_short s.architecture a,
    ))
