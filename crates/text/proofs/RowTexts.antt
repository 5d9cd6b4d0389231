-- The texts of numbers, processes and edges, one behind another: which is due next, and what is left behind it; and where the rows are.
use mathlib.Core.Path.{◌≡◌, ap}
use mathlib.Core.List.{List, []}
use Prim.Native.Nat.{ℕ, suc, ◌+◌, ◌-◌, ◌<◌, ◌≤◌}
use native.Mathlib.Numerals.{add-one}
use native.Mathlib.Nat.{suc-mul}
use native.Mathlib.Omega.{arith}
use lib.ListN.{length, get_or, take, drop}
use lib.Seq.{drop-cons}
use Rattle.model.specs.Sheet.{Process, Edge}
use Rattle.model.specs.Compose.{row_length, row_at}
use Rattle.architecture.specs.Struct.{entries_of, process_in, first_in, processes_in}
use Rattle.architecture.specs.declared.Architecture.{Architecture}
use Rattle.architecture.proofs.ProcessesOfArrays.{start_next, process_next, processes_end}
use Rattle.automaton.specs.declared.Automaton.{Automaton}
use Rattle.automaton.specs.Struct as edges
use Rattle.automaton.proofs.Edges.{edge_next, edges_end}
use Rattle.append.proofs.Appending.{Opens}
use Rattle.text.specs.Rows.{row_of, each_from, each_process, edge_text, edges_text}
use Rattle.text.specs.Text.{field, fields}

-- where the rows begin
pub row_first : (p : Process) (at : ℕ) → row_at p at 0 ≡ at
unfolding row_at
row_first p at = omega arith

pub row_next : (p : Process) (at x : ℕ) → row_at p at (suc x) ≡ row_at p at x + row_length p
unfolding row_at
row_next p at x = omega (arith, suc-mul x (row_length p))

-- ---- the next states
-- the next of them, and those after it
pub fields_open : (ns : List ℕ) (k : ℕ) → k < length ns → Opens (fields (drop k ns)) (field (get_or ns k 0)) (fields (drop (k + 1) ns))
unfolding fields
fields_open ns k h = record { is = rw (add-one k, drop-cons ns k 0 h) }

-- ---- numbers
module _ (one : ℕ → List ℕ) (n : ℕ) where
  -- the text from number x on
  abbrev pub text_from : ℕ → List ℕ
  text_from x = each_from one (n - x) x

  -- number x, whose text this is, and those after it
  pub from_open : (x : ℕ) (text : List ℕ) → text ≡ one x → x < n → Opens (text_from x) text (text_from (x + 1))
  unfolding each_from
  from_open x text is h = let e : n - x ≡ suc (n - (x + 1)) = omega arith in record { is = rw (e, is, add-one x) }

  -- no number is left
  pub from_end : (x : ℕ) → n ≤ x → text_from x ≡ []
  unfolding each_from
  from_end x h = let e : n - x ≡ 0 = omega arith in rw e

-- ---- the rows of process i, where `one` has the text of a state's row
module _ (one : ℕ → List ℕ → List ℕ) (a : Architecture) (i : ℕ) (tables : List ℕ) where
  -- the row of state x
  abbrev row_in : ℕ → List ℕ
  row_in = row_of (process_in a i) (entries_of (first_in a i)) tables

  -- the text from state x on
  abbrev pub rows_from : ℕ → List ℕ
  rows_from = text_from (λ x. one x (row_in x)) (process_in a i).bound

  -- state x, and those after it
  pub rows_open : (x : ℕ) (row : List ℕ) → row ≡ row_in x → x < (process_in a i).bound → Opens (rows_from x) (one x row) (rows_from (x + 1))
  rows_open x row is = from_open (λ x. one x (row_in x)) (process_in a i).bound x (one x row) (ap (one x) is)

  -- no state is left
  pub rows_none : (x : ℕ) → (process_in a i).bound ≤ x → rows_from x ≡ []
  rows_none = from_end (λ x. one x (row_in x)) (process_in a i).bound

-- ---- processes
module _ (one : ℕ → Process → ℕ → List ℕ) (a : Architecture) where
  -- the text from process j on
  abbrev pub processes_from : ℕ → List ℕ
  processes_from j = each_process one j (drop j (processes_in a)) (entries_of (first_in a j))

  -- process j, and those after it
  pub processes_open : (j : ℕ) → j < a.processes → Opens (processes_from j) (one j (process_in a j) (entries_of (first_in a j))) (processes_from (j + 1))
  unfolding each_process
  processes_open j h =
      record { is = rw (start_next (process_in a) j, process_next (process_in a) a.processes j h, add-one j) }

  -- no process is left
  pub processes_none : (j : ℕ) → a.processes ≡ j → processes_from j ≡ []
  unfolding each_process
  processes_none j e = rw (← e, processes_end (process_in a) a.processes)

-- ---- edges
module _ (ed ex : List ℕ) (u : Automaton) where
  -- the text from edge j on
  abbrev pub edges_from : ℕ → List ℕ
  edges_from j = edges_text ed ex (drop j (edges.first_in u u.edges))

  -- edge j, and those after it
  pub edges_open : (j : ℕ) (e : Edge) → e ≡ edges.edge_in u j → j < u.edges → Opens (edges_from j) (edge_text ed ex e) (edges_from (j + 1))
  unfolding edges_text
  edges_open j e is h = record { is = rw (edge_next u j e is h) }

  -- no edge is left
  pub edges_none : (j : ℕ) → u.edges ≡ j → edges_from j ≡ []
  unfolding edges_text
  edges_none j e = rw (edges_end u j e)

-- ---- a row
-- the part that the code cuts out
pub row_part : (p : Process) (at : ℕ) (c : List ℕ) (x from row : ℕ) → from ≡ row_at p at x → row ≡ row_length p → take (from + row - from) (drop from c) ≡ row_of p at c x
row_part p at c x from row ef er = let e : from + row - from ≡ row_length p = omega arith in rw (e, ef)
