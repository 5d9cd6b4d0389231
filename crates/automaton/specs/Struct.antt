-- What the structs of an automaton and of its edges stand for in the model, and what is asked of them. These are definitions.
use Rattle.std.specs.Prelude.{◌≡◌, List, [], ◌∷◌, ◌++◌, ℕ, zero, suc, ◌≤◌, length, get_or}
use Rattle.model.specs.Sheet as model
use Rattle.model.specs.Sheet.{ProperAutomaton}
use Rattle.automaton.specs.declared.TheConstants.{NO_EDGE}
use Rattle.automaton.specs.declared.Edge.{Edge}
use Rattle.automaton.specs.declared.Automaton.{Automaton}

-- the edge of the struct
abbrev pub edge_of : Edge → model.Edge
edge_of e = record { from = e.from.0; to = e.to.0; on = e.on; off = e.off; unless = e.unless }

-- entry i of the array, as an edge
abbrev pub edge_at : List Edge → ℕ → model.Edge
edge_at es i = edge_of (get_or es i NO_EDGE)

-- the first n entries, as edges
unfoldable pub edges_of : ℕ → List Edge → List model.Edge
edges_of zero es = []
edges_of (suc n) es = edges_of n es ++ (edge_at es n ∷ [])

-- edge i of an automaton
abbrev pub edge_in : Automaton → ℕ → model.Edge
edge_in u = edge_at u.edge_list

-- the first n edges
abbrev pub first_in : Automaton → ℕ → List model.Edge
first_in u n = edges_of n u.edge_list

-- the automaton of the struct
unfoldable pub automaton_of : Automaton → model.Automaton
unfolding edges_of
automaton_of u = record { states = u.states; initial = u.initial.0; rejecting = u.rejecting; edges = first_in u u.edges }

-- the struct's array is whole, and its count is at most its length
pub record Arrays (u : Automaton) : Type 0 where
  pub few_edges : u.edges ≤ 64
  pub edges_long : length u.edge_list ≡ 64

-- the struct holds a proper automaton over so many variables
pub record IsProper (variables : ℕ) (u : Automaton) : Type 0 where
  pub arrays : Arrays u
  pub proper : ProperAutomaton variables (automaton_of u)
