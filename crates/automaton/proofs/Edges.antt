-- The edges of an array, one at a time; a store behind those that count leaves them as they are, and each of a proper automaton's is a proper edge.
use mathlib.Core.Path.{◌≡◌, refl, sym, ap, ◌∙◌}
use mathlib.Core.List.{List, [], ◌∷◌, ◌++◌}
use Prim.Native.Nat.{ℕ, ◌+◌, ◌<◌}
use native.Mathlib.Numerals.{add-one}
use native.Mathlib.Omega.{arith}
use lib.ListN.{length, get_or, take, drop, set}
use lib.Seq.{get_or-set_same, get_or-set_other, get_or-take}
use Rattle.theory.proofs.ListLaws.{Grows, grown_length, grown_at, grown_has, grown_next, grown_end, grown_same}
use Rattle.model.specs.Sheet as model
use Rattle.model.specs.Sheet.{ProperEdge}
use Rattle.automaton.specs.declared.TheConstants.{NO_EDGE}
use Rattle.automaton.specs.declared.Edge.{Edge}
use Rattle.automaton.specs.declared.Automaton.{Automaton}
use Rattle.automaton.specs.Struct.{edge_of, edge_at, edges_of, edge_in, first_in, automaton_of, IsProper}

pub edges_grow : (es : List Edge) → Grows (edge_at es) (λ n. edges_of n es)
unfolding edges_of
edges_grow es = record { none = refl; more = λ n. refl }

-- ---- the edges of a struct
module _ (u : Automaton) where
  first_grow : Grows (edge_in u) (first_in u)
  first_grow = edges_grow u.edge_list

  pub edges_length : length (first_in u u.edges) ≡ u.edges
  edges_length = grown_length first_grow u.edges

  -- as its automaton has them
  pub edges_many : length (automaton_of u).edges ≡ u.edges
  unfolding automaton_of
  edges_many = edges_length

  -- edge i
  pub edge_at_lem : (i : ℕ) (d : model.Edge) → i < u.edges → get_or (first_in u u.edges) i d ≡ edge_in u i
  edge_at_lem = grown_at first_grow u.edges

  -- also among the first n
  abbrev pub taken : ℕ → ℕ → Edge
  taken n i = get_or (take n u.edge_list) i NO_EDGE

  pub edge_taken : (n i : ℕ) → i < n → edge_of (taken n i) ≡ edge_in u i
  edge_taken n i h = ap edge_of (get_or-take n u.edge_list i NO_EDGE h)

  -- from i on: edge i, which is e, and those from i + 1 on
  pub edge_next : (i : ℕ) (e : model.Edge) → e ≡ edge_in u i → i < u.edges → drop i (first_in u u.edges) ≡ e ∷ drop (i + 1) (first_in u u.edges)
  edge_next i e is l = grown_next first_grow u.edges i l ∙ ap (λ (x : model.Edge). x ∷ drop (i + 1) (first_in u u.edges)) (sym is)

  -- behind the last there is none
  pub edges_end : (i : ℕ) → u.edges ≡ i → drop i (first_in u u.edges) ≡ []
  edges_end i e = ap (λ (n : ℕ). drop n (first_in u u.edges)) (sym e) ∙ grown_end first_grow u.edges

-- ---- one edge more
-- a store at n leaves the entries before it
pub edges_more : (n : ℕ) (es : List Edge) (e : Edge) → n < length es → edges_of (n + 1) (set es n e) ≡ edges_of n es ++ (edge_of e ∷ [])
unfolding edges_of
edges_more n es e h =
    rw (add-one n, grown_same (edges_grow (set es n e)) (edges_grow es) n before, get_or-set_same es n e NO_EDGE h)
  where
    before : (j : ℕ) → j < n → edge_at (set es n e) j ≡ edge_at es j
    before j l = let ne : j ≡ n → ⊥ = λ e. omega arith in ap edge_of (get_or-set_other es n j e NO_EDGE ne)

-- ---- each of a proper automaton's edges is a proper one
pub edge_proper : {variables : ℕ} {u : Automaton} → IsProper variables u → (i : ℕ) → i < u.edges → ProperEdge variables u.states (edge_in u i)
unfolding automaton_of
edge_proper {u = u} z i h = z.proper.edges_proper (edge_in u i) (grown_has (first_grow u) u.edges i h)
