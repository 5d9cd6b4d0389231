-- Facts on two structs of automata, and on both as one.
use mathlib.Core.Path.{◌≡◌, sym, ap, ◌∙◌, subst}
use mathlib.Core.List.{List, [], ◌∷◌, ◌++◌, map}
use Prim.Native.Nat.{ℕ, ◌+◌, ◌*◌, ◌^◌, ◌<◌, ◌≤◌}
use native.Mathlib.Omega.{arith}
use lib.Dec.{eqb}
use lib.ListN.{length, drop, length-append, length-map}
use lib.Pow.{pow_mono}
use Rattle.theory.specs.Lists.{one, filter}
use Rattle.theory.proofs.ListLaws.{filter_length, one_le}
use Rattle.model.specs.Sheet as model
use Rattle.model.specs.Join.{moved, leaving, copies, join_automata}
use Rattle.model.proofs.JoinedAutomata.{rejecting_low, rejecting_joined}
use Rattle.automaton.specs.declared.Edge.{Edge}
use Rattle.automaton.specs.declared.Automaton.{Automaton}
use Rattle.automaton.specs.Struct.{Arrays, edge_of, edge_in, first_in, automaton_of}
use Rattle.automaton.proofs.Edges.{edges_length, edge_next, edges_end, edge_proper}
use Rattle.joining.specs.Parts.{Proper, Joinable}
use Rattle.joining.proofs.EdgesAdded.{copies_many}

-- ---- one struct
module _ {u : Automaton} (z : Proper u) where
  pub arrays : Arrays u
  arrays = z.is_proper.arrays

  -- the counts and the mask of its automaton are the struct's own
  pub record Own : Type 0 where
    pub some_states : 1 ≤ u.states
    pub few_states : u.states ≤ 16
    pub rejecting_known : u.rejecting < 2 ^ u.states

  pub own : Own
  unfolding automaton_of
  own = let p = z.is_proper.proper in record { some_states = p.some_states; few_states = p.few_states; rejecting_known = p.rejecting_known }

  -- the ends of an edge
  pub ends_few : (i : ℕ) → i < u.edges → (e : Edge) → edge_of e ≡ edge_in u i → (e.from.0 < 16) × (e.to.0 < 16)
  ends_few i l e is =
      let p = subst (model.ProperEdge z.variables u.states) (sym is) (edge_proper z.is_proper i l) in
      (omega (arith, p.from_known, own.few_states), omega (arith, p.to_known, own.few_states))

-- ---- the edges that leave a state
leaving_next : (q : ℕ) (e : model.Edge) (es : List model.Edge) → length (leaving q (e ∷ es)) ≡ one (eqb e.from q) + length (leaving q es)
unfolding leaving
leaving_next q e es = filter_length (λ (x : model.Edge). eqb x.from q) e es

-- from edge i on, which is e
pub leaving_turn : (q : ℕ) (u : Automaton) (i : ℕ) (e : model.Edge) → e ≡ edge_in u i → i < u.edges
    → length (leaving q (drop i (first_in u u.edges))) ≡ one (eqb e.from q) + length (leaving q (drop (i + 1) (first_in u u.edges)))
leaving_turn q u i e is l = ap (λ (es : List model.Edge). length (leaving q es)) (edge_next u i e is l) ∙ leaving_next q e _

-- behind the last
pub leaving_end : (q : ℕ) (u : Automaton) (i : ℕ) → u.edges ≡ i → length (leaving q (drop i (first_in u u.edges))) ≡ 0
unfolding leaving
leaving_end q u i e = ap (λ (es : List model.Edge). length (leaving q es)) (edges_end u i e)

leaving_few : (q : ℕ) (es : List model.Edge) → length (leaving q es) ≤ length es
unfolding leaving filter
leaving_few q [] = omega arith
leaving_few q (e ∷ es) = omega (arith, leaving_next q e es, one_le (eqb e.from q), leaving_few q es)

-- no more than all
pub leaving_most : (q : ℕ) (u : Automaton) → length (leaving q (first_in u u.edges)) ≤ u.edges
leaving_most q u = omega (arith, leaving_few q (first_in u u.edges), edges_length u)

-- ---- both as one
module _ (u w : Automaton) where
  abbrev second : ℕ
  second = 1 + u.states

  -- how many edges there are: copies, and all edges
  pub edges_counted : length (join_automata (automaton_of u) (automaton_of w)).edges
      ≡ length (leaving u.initial.0 (first_in u u.edges)) + length (leaving w.initial.0 (first_in w w.edges)) + u.edges + w.edges
  unfolding join_automata automaton_of
  edges_counted =
      let es = first_in u u.edges in
      let fs = first_in w w.edges in
      let c₁ = copies 1 u.initial.0 es in
      let c₂ = copies second w.initial.0 fs in
      omega (
        arith,
        length-append (c₁ ++ c₂ ++ map (moved 1) es) (map (moved second) fs),
        length-append (c₁ ++ c₂) (map (moved 1) es),
        length-append c₁ c₂,
        copies_many 1 u.initial.0 es,
        copies_many second w.initial.0 fs,
        length-map es (moved 1),
        length-map fs (moved second),
        edges_length u,
        edges_length w,
      )

  module _ (z : Joinable u w) where
    -- how many states there are
    pub states_few : second + w.states ≤ 16
    unfolding join_automata automaton_of
    states_few = z.fits.few_states

    -- and edges
    pub edges_few : length (copies 1 u.initial.0 (first_in u u.edges)) + length (copies second w.initial.0 (first_in w w.edges)) + u.edges + w.edges ≤ 64
    edges_few =
        omega (arith, z.fits.few_edges, edges_counted, copies_many 1 u.initial.0 (first_in u u.edges), copies_many second w.initial.0 (first_in w w.edges))

    -- the mask of the first is below that of the second, and both fit 16 bits
    pub mask_low : u.rejecting * 2 < 2 ^ second
    mask_low = rejecting_low u.states u.rejecting (own z.first).rejecting_known

    pub mask_few : w.rejecting * 2 ^ second + u.rejecting * 2 < 2 ^ 16
    mask_few =
        omega (arith, rejecting_joined u.states w.states u.rejecting w.rejecting (own z.first).rejecting_known (own z.second).rejecting_known, pow_mono states_few)
