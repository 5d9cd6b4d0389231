-- The edges of an array, one at a time, whatever struct it stands in.
use mathlib.Core.Path.{◌≡◌}
use mathlib.Core.List.{List, [], ◌∷◌}
use Prim.Native.Nat.{ℕ, ◌+◌, ◌<◌}
use lib.ListN.{length, drop}
use Rattle.theory.proofs.ListLaws.{grown_length, grown_next, grown_end}
use Rattle.automaton.specs.declared.Edge.{Edge}
use Rattle.automaton.specs.Struct.{edge_at, edges_of}
use Rattle.automaton.proofs.Edges.{edges_grow}

pub edges_length : (n : ℕ) (es : List Edge) → length (edges_of n es) ≡ n
edges_length n es = grown_length (edges_grow es) n

module _ (es : List Edge) where
  -- from j on, and from j + 1 on
  pub edge_next : (n j : ℕ) → j < n → drop j (edges_of n es) ≡ edge_at es j ∷ drop (j + 1) (edges_of n es)
  edge_next = grown_next (edges_grow es)

  pub edges_end : (n : ℕ) → drop n (edges_of n es) ≡ []
  edges_end = grown_end (edges_grow es)
