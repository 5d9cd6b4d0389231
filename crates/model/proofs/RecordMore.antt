-- One record more: the writing of it stands behind that of the records before it, and a proper edge leaves an automaton proper.
use mathlib.Core.Path.{◌≡◌, sym, ap, ◌∙◌, subst}
use mathlib.Core.Logic.{⊎_elim}
use mathlib.Core.Bool.{false}
use mathlib.Core.List.Memᴰ
use mathlib.Core.List.{List, [], ◌∷◌, ◌++◌, append_assoc, append-nil}
use Prim.Native.Nat.{ℕ, ◌+◌, ◌*◌, ◌/◌, ◌%◌, ◌<◌}
use native.Mathlib.Omega.{arith}
use lib.ListN.{length, length-append}
use lib.Arith.{digits_div, digits_mod}
use Rattle.model.specs.Sheet.{Process, Tie, Architecture, Edge, Automaton, with_process, with_tie, with_edge, ProperEdge, ProperAutomaton}
use Rattle.model.specs.Reading.{ed_fault}
use Rattle.model.specs.SheetFile.{process_bytes, tie_bytes, edge_bytes, states_bytes, processes_bytes, ties_bytes, edges_bytes, front_bytes, automaton_bytes, records_bytes}
use Rattle.model.proofs.ProperSheet.{edge_proper}

-- ---- the processes
pub processes_more : (ps : List Process) (p : Process) → processes_bytes (ps ++ (p ∷ [])) ≡ processes_bytes ps ++ process_bytes p
unfolding processes_bytes
processes_more [] p = append-nil (process_bytes p)
processes_more (q ∷ ps) p = ap (λ (x : List ℕ). process_bytes q ++ x) (processes_more ps p) ∙ sym (append_assoc (process_bytes q) (processes_bytes ps) (process_bytes p))

pub front_more : (a : Architecture) (p : Process) → a.ties ≡ [] → front_bytes (with_process a p) ≡ front_bytes a ++ process_bytes p
unfolding front_bytes with_process ties_bytes
front_more a p untied = rw (untied, processes_more a.processes p, append-nil (processes_bytes a.processes), append-nil (processes_bytes a.processes ++ process_bytes p))

-- ---- the ties
ties_more : (ts : List Tie) (t : Tie) → ties_bytes (ts ++ (t ∷ [])) ≡ ties_bytes ts ++ tie_bytes t
unfolding ties_bytes
ties_more [] t = append-nil (tie_bytes t)
ties_more (u ∷ ts) t = ap (λ (x : List ℕ). tie_bytes u ++ x) (ties_more ts t) ∙ sym (append_assoc (tie_bytes u) (ties_bytes ts) (tie_bytes t))

pub front_tied : (a : Architecture) (t : Tie) → front_bytes (with_tie a t) ≡ front_bytes a ++ tie_bytes t
unfolding front_bytes with_tie
front_tied a t = rw (ties_more a.ties t, append_assoc (processes_bytes a.processes) (ties_bytes a.ties) (tie_bytes t))

-- AR alone
pub front_alone : (a : Architecture) → a.processes ≡ [] → a.ties ≡ [] → front_bytes a ≡ 0x41 ∷ 0x52 ∷ a.variables ∷ a.environment ∷ a.root ∷ []
unfolding front_bytes processes_bytes ties_bytes
front_alone a none untied = rw (none, untied)

-- ---- the edges
edges_more : (es : List Edge) (e : Edge) → edges_bytes (es ++ (e ∷ [])) ≡ edges_bytes es ++ edge_bytes e
unfolding edges_bytes
edges_more [] e = append-nil (edge_bytes e)
edges_more (f ∷ es) e = ap (λ (x : List ℕ). edge_bytes f ++ x) (edges_more es e) ∙ sym (append_assoc (edge_bytes f) (edges_bytes es) (edge_bytes e))

automaton_more : (u : Automaton) (e : Edge) → automaton_bytes (with_edge u e) ≡ automaton_bytes u ++ edge_bytes e
unfolding automaton_bytes states_bytes with_edge
automaton_more u e = rw edges_more

-- all records
pub records_more : (a : Architecture) (u : Automaton) (e : Edge)
    → records_bytes record { architecture = a; automaton = with_edge u e } ≡ records_bytes record { architecture = a; automaton = u } ++ edge_bytes e
unfolding records_bytes
records_more a u e = rw (automaton_more u e, append_assoc (front_bytes a) (automaton_bytes u) (edge_bytes e))

-- AU alone behind the front
pub records_alone : (a : Architecture) (u : Automaton) → u.edges ≡ [] → records_bytes record { architecture = a; automaton = u } ≡ front_bytes a ++ states_bytes u
unfolding records_bytes automaton_bytes edges_bytes
records_alone a u none = rw (none, append-nil (states_bytes u))

-- the two bytes of the rejecting mask, low byte first
pub low_byte : (low high : ℕ) → low < 256 → (low + 256 * high) % 256 ≡ low
low_byte low high l = let e : low + 256 * high ≡ high * 256 + low = omega arith in rw e (digits_mod high l)

pub high_byte : (low high : ℕ) → low < 256 → (low + 256 * high) / 256 ≡ high
high_byte low high l = let e : low + 256 * high ≡ high * 256 + low = omega arith in rw e (digits_div high l)

-- one proper edge more
pub edge_more : (variables : ℕ) (u : Automaton) (e : Edge) → ProperAutomaton variables u → length u.edges < 64 → ed_fault variables u.states e ≡ false
    → ProperAutomaton variables (with_edge u e)
unfolding with_edge
edge_more variables u e g few f = record {
  some_states = g.some_states;
  few_states = g.few_states;
  initial_known = g.initial_known;
  rejecting_known = g.rejecting_known;
  few_edges = omega (arith, length-append u.edges (e ∷ []));
  edges_proper = λ x m. ⊎_elim (λ i. g.edges_proper x i)
      (λ i. subst (ProperEdge variables u.states) (sym (Memᴰ.eq_of_singleton i)) (edge_proper variables u.states e f)) (Memᴰ.append_cases u.edges m);
}
