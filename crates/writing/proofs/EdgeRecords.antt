-- The records of an automaton's edges, one behind another.
use mathlib.Core.Path.{◌≡◌}
use mathlib.Core.List.{List, []}
use Prim.Native.Nat.{ℕ, ◌+◌, ◌<◌}
use lib.ListN.{drop}
use Rattle.model.specs.Sheet.{Edge}
use Rattle.model.specs.SheetFile.{edge_bytes, edges_bytes}
use Rattle.append.proofs.Appending.{Opens}
use Rattle.automaton.specs.declared.Automaton.{Automaton}
use Rattle.automaton.specs.Struct.{edge_in, first_in}
use Rattle.automaton.proofs.Edges.{edge_next, edges_end}

module _ (u : Automaton) where
  -- from edge j on
  abbrev pub edges_from : ℕ → List ℕ
  edges_from j = edges_bytes (drop j (first_in u u.edges))

  -- edge j, and those after it
  pub edges_open : (j : ℕ) (e : Edge) → e ≡ edge_in u j → j < u.edges → Opens (edges_from j) (edge_bytes e) (edges_from (j + 1))
  unfolding edges_bytes
  edges_open j e is h = record { is = rw (edge_next u j e is h) }

  -- no edge is left
  pub edges_none : (j : ℕ) → u.edges ≡ j → edges_from j ≡ []
  unfolding edges_bytes
  edges_none j e = rw (edges_end u j e)
