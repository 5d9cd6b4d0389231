-- Where an automaton is a part of another, its run graph stands in the other's, with the same tables: k automaton states further on, and with copies of its first steps
-- at the new start. So both of two automata are in the run graph of the two as one.
use mathlib.Core.Path.{◌≡◌, refl, sym, ap, ap₂, ◌∙◌, subst}
use mathlib.Core.Bool.{true}
use mathlib.Core.Logic.{◌⊎◌, inl, inr, ◌↔◌, ⊎_elim}
use mathlib.Core.List.{List, Memᴰ}
use Prim.Native.Nat.{ℕ, ◌+◌, ◌*◌, ◌≤◌, ◌<◌}
use native.Mathlib.Nat.{add-mul, mul-add-div_right, mul-add-mod_self_right, mul-le-mul_right, div-lt_iff_lt-mul}
use native.Mathlib.Omega.{arith}
use lib.Arith.{digits_div, digits_mod}
use lib.Dec.{eqb}
use borrow.Author.Tests.{eqb-true, eq-eqb}
use Rattle.theory.proofs.Bools.{and_is}
use Rattle.theory.specs.Graph
use Rattle.theory.proofs.Joined.{Copied, Joined, loops_joined}
use Rattle.model.specs.Mask.{bit}
use Rattle.model.specs.Sheet.{Architecture, Edge, Automaton, Sheet, ProperArchitecture, ProperSheet}
use Rattle.model.specs.Compose.{Composed, label, step, initial, T, number, composed}
use Rattle.model.specs.Choice.{IsTables}
use Rattle.model.specs.RunGraph.{vertex, automaton_state, composed_state, vertices, start, rejects, matches, meets, met, Step, RejectingLoop}
use Rattle.model.specs.Computed.{run_graph}
use Rattle.model.specs.Join.{moved, copied, join_automata}
use Rattle.model.proofs.ComposedNumbers.{T-pos, number_lt, initial_in}
use Rattle.model.proofs.RunGraphSteps.{step_right, start_lt, graph_finite}
use Rattle.model.proofs.ComputedTests.{loop_to, loop_from}
use Rattle.model.proofs.JoinedAutomata.{CopyOf, MovedOf, Part, edge_cases, first_part, second_part}

-- ---- edges
-- an edge out of q that the label meets
met_is : (e : Edge) (q l : ℕ) → (met e q l ≡ true) ↔ ((e.from ≡ q) × (meets e l ≡ true))
unfolding met
met_is e q l =
    let both = and_is (eqb e.from q) (meets e l) in
    (λ h. let r = both.0 h in (eqb-true e.from q r.0, r.1), λ h. both.1 (eq-eqb e.from q h.0, h.1))

-- d does what e does, k automaton states further on
record Acts (k : ℕ) (d e : Edge) : Type 0 where
  leads : d.to ≡ k + e.to
  same_met : (l : ℕ) → meets d l ≡ meets e l

moved_acts : (k : ℕ) (e : Edge) → Acts k (moved k e) e
unfolding moved meets matches
moved_acts k e = record { leads = refl; same_met = λ l. refl }

copied_acts : (k : ℕ) (e : Edge) → Acts k (copied k e) e
unfolding copied meets matches
copied_acts k e = record { leads = refl; same_met = λ l. refl }

module _ (a : Architecture) (c : List ℕ) (good : ProperArchitecture a) where
  abbrev sheet : Automaton → Sheet
  sheet u = record { architecture = a; automaton = u }

  -- ---- vertices
  -- k automaton states further on
  abbrev pub at : ℕ → ℕ → ℕ
  at k v = k * T a + v

  state_at : (k v : ℕ) → automaton_state a (at k v) ≡ k + automaton_state a v
  unfolding automaton_state
  state_at k v = mul-add-div_right (T-pos a good) k v

  composed_at : (k v : ℕ) → composed_state a (at k v) ≡ composed_state a v
  unfolding composed_state
  composed_at k v = ap (composed a) (mul-add-mod_self_right k (T a) v)

  vertex_at_lem : (k q : ℕ) (t : Composed) → vertex a (k + q) t ≡ at k (vertex a q t)
  unfolding vertex
  vertex_at_lem k q t = omega (arith, add-mul k q (T a))

  first_lt : number a (initial a) < T a
  first_lt = number_lt a (initial_in a good)

  start_state : (u : Automaton) → automaton_state a (start (sheet u)) ≡ u.initial
  unfolding start vertex automaton_state
  start_state u = digits_div u.initial first_lt

  start_composed : (u : Automaton) → composed_state a (start (sheet u)) ≡ composed a (number a (initial a))
  unfolding start vertex composed_state
  start_composed u = ap (composed a) (digits_mod u.initial first_lt)

  -- ---- a step in one and in the other, from vertices with the same composed state
  module _ (u j : Automaton) (k v v' : ℕ) (same : composed_state a v ≡ composed_state a v') where
    carried : {w : ℕ} (x : Step (sheet u) c v w) (d : Edge) → Acts k d x.edge → Memᴰ d j.edges → d.from ≡ automaton_state a v' → Step (sheet j) c v' (at k w)
    carried x d acts drawn leaves = record {
      edge = d;
      direction = x.direction;
      drawn = drawn;
      is_met = (met_is d _ _).1 (leaves, acts.same_met _ ∙ ap (λ (t : Composed). meets x.edge (label a c t)) (sym same) ∙ ((met_is x.edge _ _).0 x.is_met).1);
      possible = x.possible;
      leads = ap (at k) x.leads ∙ sym (vertex_at_lem k x.edge.to _) ∙ ap₂ (λ (q : ℕ) (t : Composed). vertex a q (step a c t x.direction)) (sym acts.leads) same;
    }

    returned : {w : ℕ} (x : Step (sheet j) c v' w) (e : Edge) → Acts k x.edge e → Memᴰ e u.edges → e.from ≡ automaton_state a v → (y : ℕ) × (w ≡ at k y) × Step (sheet u) c v y
    returned x e acts drawn leaves = (
      vertex a e.to (step a c (composed_state a v) x.direction),
      x.leads ∙ ap₂ (λ (q : ℕ) (t : Composed). vertex a q (step a c t x.direction)) acts.leads (sym same) ∙ vertex_at_lem k e.to _,
      record {
        edge = e;
        direction = x.direction;
        drawn = drawn;
        is_met = (met_is e _ _).1 (leaves, sym (acts.same_met _) ∙ ap (λ (t : Composed). meets x.edge (label a c t)) same ∙ ((met_is x.edge _ _).0 x.is_met).1);
        possible = x.possible;
        leads = refl;
      },
    )

  module _ (tables : IsTables a c) where
    -- ---- a part of an automaton
    module _ {u j : Automaton} {k : ℕ} (part : Part j u k) (gu : ProperSheet (sheet u)) (gj : ProperSheet (sheet j)) where
      at_lt : (v : ℕ) → v < vertices (sheet u) → at k v < vertices (sheet j)
      unfolding vertices
      at_lt v l = omega (arith, add-mul k u.states (T a), mul-le-mul_right (T a) part.inside)

      state_lt : (v : ℕ) → v < vertices (sheet u) → automaton_state a v < u.states
      unfolding vertices automaton_state
      state_lt v l = (div-lt_iff_lt-mul (T-pos a good)).1 l

      same_start : composed_state a (start (sheet u)) ≡ composed_state a (start (sheet j))
      same_start = start_composed u ∙ sym (start_composed j)

      -- a step of the new start along a copy is one of u's start
      opened : {w : ℕ} (x : Step (sheet j) c (start (sheet j)) w) → CopyOf k u x.edge → (y : ℕ) × (w ≡ at k y) × Graph.Step (run_graph (sheet u) c) (start (sheet u)) y
      opened x o =
          let acts = subst (λ (d : Edge). Acts k d o.edge) o.is (copied_acts k o.edge) in
          let r = returned u j k (start (sheet u)) (start (sheet j)) same_start x o.edge acts o.drawn (o.leaves ∙ sym (start_state u)) in
          (r.0, r.1, (step_right (sheet u) c gu (start (sheet u)) r.0 (start_lt (sheet u) c gu)).1 r.2)

      stands : Copied (run_graph (sheet j) c) (run_graph (sheet u) c) (at k)
      unfolding run_graph rejects copied moved
      stands = record {
        one_to_one = λ e. omega arith;
        opens = λ {u = y} m.
            let x = (step_right (sheet u) c gu (start (sheet u)) y (start_lt (sheet u) c gu)).0 m in
            let from : x.edge.from ≡ u.initial = ((met_is x.edge _ _).0 x.is_met).0 ∙ start_state u in
            (step_right (sheet j) c gj (start (sheet j)) (at k y) (start_lt (sheet j) c gj)).1
            (carried u j k (start (sheet u)) (start (sheet j)) same_start x (copied k x.edge) (copied_acts k x.edge) (part.copies_in x.edge x.drawn from)
            (sym (start_state j ∙ part.starts)));
        steps = λ {v} {u = y} l m.
            let x = (step_right (sheet u) c gu v y l).0 m in
            (step_right (sheet j) c gj (at k v) (at k y) (at_lt v l)).1
            (carried u j k v (at k v) (sym (composed_at k v)) x (moved k x.edge) (moved_acts k x.edge) (part.moved_in x.edge x.drawn)
            (ap (λ (q : ℕ). k + q) ((met_is x.edge _ _).0 x.is_met).0 ∙ sym (state_at k v)));
        back = λ {v} {w} l m.
            let x = (step_right (sheet j) c gj (at k v) w (at_lt v l)).0 m in
            let from : x.edge.from ≡ k + automaton_state a v = ((met_is x.edge _ _).0 x.is_met).0 ∙ state_at k v in
            let o = part.only x.edge (automaton_state a v) x.drawn from (state_lt v l) in
            let own : k + o.edge.from ≡ x.edge.from = ap (λ (d : Edge). d.from) o.is in
            let r = returned u j k v (at k v) (sym (composed_at k v)) x o.edge (subst (λ (d : Edge). Acts k d o.edge) o.is (moved_acts k o.edge)) o.drawn (omega arith) in
            (r.0, r.1, (step_right (sheet u) c gu v r.0 l).1 r.2);
        agree = λ v l. part.agree (automaton_state a v) (state_lt v l) ∙ ap (bit j.rejecting) (sym (state_at k v));
      }

    -- ---- two automata as one
    module _ (u w : Automaton) (gu : ProperSheet (sheet u)) (gw : ProperSheet (sheet w)) (gj : ProperSheet (sheet (join_automata u w))) where
      abbrev j : Automaton
      j = join_automata u w

      -- an edge out of the new start is none of theirs
      no_moved : {k : ℕ} {v : Automaton} (d : Edge) → 1 ≤ k → d.from ≡ 0 → MovedOf k v d → ⊥
      unfolding moved
      no_moved {k} d l e m = let own : k + m.edge.from ≡ d.from = ap (λ (x : Edge). x.from) m.is in omega arith

      pub runs_joined : Joined (run_graph (sheet j) c) (run_graph (sheet u) c) (run_graph (sheet w) c) (at 1) (at (1 + u.states))
      unfolding run_graph
      runs_joined = record {
        first = stands (first_part u w) gu gj;
        second = stands (second_part u w gu.automaton) gw gj;
        only = λ {w = y} m.
            let x = (step_right (sheet j) c gj (start (sheet j)) y (start_lt (sheet j) c gj)).0 m in
            let from : x.edge.from ≡ 0 = ((met_is x.edge _ _).0 x.is_met).0 ∙ start_state j ∙ (first_part u w).starts in
            ⊎_elim
            (λ o. ⊎_elim (λ n. inl (opened (first_part u w) gu gj x n)) (λ n. inr (opened (second_part u w gu.automaton) gw gj x n)) o)
            (λ o. absurd (⊎_elim (no_moved x.edge (omega arith) from) (no_moved x.edge (omega arith) from) o))
            (edge_cases u w x.edge x.drawn);
      }

      -- a rejecting loop is one of theirs
      pub loops_either : RejectingLoop (sheet j) c ↔ (RejectingLoop (sheet u) c ⊎ RejectingLoop (sheet w) c)
      loops_either =
          let both = loops_joined (graph_finite (sheet u) c gu tables) (graph_finite (sheet w) c gw tables) runs_joined in (
            λ o. ⊎_elim (λ x. inl (loop_from (sheet u) c gu tables x)) (λ x. inr (loop_from (sheet w) c gw tables x)) (both.0 (loop_to (sheet j) c gj tables o)),
            λ o. loop_from (sheet j) c gj tables (both.1 (⊎_elim (λ x. inl (loop_to (sheet u) c gu tables x)) (λ x. inr (loop_to (sheet w) c gw tables x)) o)),
          )
