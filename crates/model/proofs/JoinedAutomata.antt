-- Each of two automata is a part of both as one: its edges and its rejecting states stand there, moved, and at the new start copies of the edges that leave its own.
-- And what is joined is proper, unless there is too much of it.
use mathlib.Core.Path.{◌≡◌, refl, sym, ap, ◌∙◌, subst}
use mathlib.Core.Logic.{◌⊎◌, inl, inr, ⊎_elim}
use mathlib.Core.List.Memᴰ
use mathlib.Core.List.{List, ◌++◌, map, Memᴰ}
use Prim.Native.Nat.{ℕ, ◌+◌, ◌*◌, ◌^◌, ◌≤◌, ◌<◌}
use native.Mathlib.Omega.{arith}
use lib.Arith.{digits_lt}
use lib.Dec.{eqb}
use lib.Pow.{pow-add, shl_lt}
use borrow.Author.Tests.{eqb-true, eq-eqb}
use Rattle.theory.proofs.BitLaws.{bit_below, bit_above}
use Rattle.theory.proofs.ListLaws.{filter_sound, filter_complete}
use Rattle.model.specs.Mask.{bit}
use Rattle.model.specs.Sheet.{Edge, Automaton, ProperEdge, ProperAutomaton}
use Rattle.model.specs.Join.{moved, copied, leaving, copies, join_automata}
use Rattle.model.specs.Refusals.{Fitting}

-- ---- where an edge comes from
-- d is the copy of an edge that leaves u's initial state
pub record CopyOf (k : ℕ) (u : Automaton) (d : Edge) : Type 0 where
  pub edge : Edge
  pub drawn : Memᴰ edge u.edges
  pub leaves : edge.from ≡ u.initial
  pub is : copied k edge ≡ d

-- d is an edge of u, moved
pub record MovedOf (k : ℕ) (u : Automaton) (d : Edge) : Type 0 where
  pub edge : Edge
  pub drawn : Memᴰ edge u.edges
  pub is : moved k edge ≡ d

-- the copies of u's edges
abbrev copies_of : ℕ → Automaton → List Edge
copies_of k u = copies k u.initial u.edges

copies_are : (k : ℕ) (u : Automaton) (d : Edge) → Memᴰ d (copies_of k u) → CopyOf k u d
unfolding copies leaving
copies_are k u d m =
    let r = Memᴰ.of_map (copied k) (leaving u.initial u.edges) m in
    let f = filter_sound (λ (e : Edge). eqb e.from u.initial) r.0 u.edges r.1 in
    record { edge = r.0; drawn = f.0; leaves = eqb-true r.0.from u.initial f.1; is = r.2 }

copies_have : (k : ℕ) (u : Automaton) (e : Edge) → Memᴰ e u.edges → e.from ≡ u.initial → Memᴰ (copied k e) (copies_of k u)
unfolding copies leaving
copies_have k u e m l = Memᴰ.map (copied k) (filter_complete (λ (e : Edge). eqb e.from u.initial) e u.edges m (eq-eqb e.from u.initial l))

-- all of u's edges
abbrev moved_of : ℕ → Automaton → List Edge
moved_of k u = map (moved k) u.edges

moved_are : (k : ℕ) (u : Automaton) (d : Edge) → Memᴰ d (moved_of k u) → MovedOf k u d
moved_are k u d m = let r = Memᴰ.of_map (moved k) u.edges m in record { edge = r.0; drawn = r.1; is = r.2 }

-- ---- the rejecting states of both, with n and m states
-- those of the first, one further on, are below the second's
pub rejecting_low : (n r : ℕ) → r < 2 ^ n → r * 2 < 2 ^ (1 + n)
rejecting_low n r l = subst (λ (k : ℕ). r * 2 < 2 ^ k) (omega arith) (shl_lt n 1 l)

-- and all are states
pub rejecting_joined : (n m r x : ℕ) → r < 2 ^ n → x < 2 ^ m → x * 2 ^ (1 + n) + r * 2 < 2 ^ (1 + n + m)
rejecting_joined n m r x l h =
    subst (λ (k : ℕ). x * 2 ^ (1 + n) + r * 2 < k) (sym (pow-add 2 m (1 + n)) ∙ ap (λ (k : ℕ). 2 ^ k) (omega arith)) (digits_lt h (rejecting_low n r l))

-- ---- an automaton within another
-- u is a part of j, its states k further on, behind a new start
pub record Part (j u : Automaton) (k : ℕ) : Type 0 where
  pub starts : j.initial ≡ 0
  pub inside : k + u.states ≤ j.states
  pub copies_in : (e : Edge) → Memᴰ e u.edges → e.from ≡ u.initial → Memᴰ (copied k e) j.edges
  pub moved_in : (e : Edge) → Memᴰ e u.edges → Memᴰ (moved k e) j.edges
  pub only : (d : Edge) (q : ℕ) → Memᴰ d j.edges → d.from ≡ k + q → q < u.states → MovedOf k u d
  pub agree : (q : ℕ) → q < u.states → bit u.rejecting q ≡ bit j.rejecting (k + q)

module _ (u w : Automaton) where
  -- where the states of w begin
  abbrev second : ℕ
  second = 1 + u.states

  -- a copy of an edge of the one or of the other, or one of their edges
  pub edge_cases : (d : Edge) → Memᴰ d (join_automata u w).edges → (CopyOf 1 u d ⊎ CopyOf second w d) ⊎ (MovedOf 1 u d ⊎ MovedOf second w d)
  unfolding join_automata
  edge_cases d m = ⊎_elim
      (λ i. ⊎_elim
      (λ n. inl (⊎_elim (λ o. inl (copies_are 1 u d o)) (λ o. inr (copies_are second w d o)) (Memᴰ.append_cases (copies_of 1 u) n)))
      (λ n. inr (inl (moved_are 1 u d n)))
      (Memᴰ.append_cases (copies_of 1 u ++ copies_of second w) i))
      (λ i. inr (inr (moved_are second w d i)))
      (Memᴰ.append_cases (copies_of 1 u ++ copies_of second w ++ moved_of 1 u) m)

  -- what leaves a state other than the new start is no copy
  no_copy : {k : ℕ} {v : Automaton} (d : Edge) → 1 ≤ d.from → CopyOf k v d → ⊥
  unfolding copied
  no_copy d l c = let e : 0 ≡ d.from = ap (λ (x : Edge). x.from) c.is in omega arith

  -- where a moved edge leaves
  moved_from : {k : ℕ} {v : Automaton} (d : Edge) (m : MovedOf k v d) → k + m.edge.from ≡ d.from
  unfolding moved
  moved_from d m = ap (λ (x : Edge). x.from) m.is

  pub first_part : Part (join_automata u w) u 1
  unfolding join_automata
  first_part = record {
    starts = refl;
    inside = omega arith;
    copies_in = λ e m l. Memᴰ.append_left _ (Memᴰ.append_left _ (Memᴰ.append_left _ (copies_have 1 u e m l)));
    moved_in = λ e m. Memᴰ.append_left _ (Memᴰ.append_right (copies_of 1 u ++ copies_of second w) (Memᴰ.map (moved 1) m));
    only = λ d q m e l. ⊎_elim
        (λ c. absurd (⊎_elim (no_copy d (omega arith)) (no_copy d (omega arith)) c))
        (λ c. ⊎_elim (λ n. n) (λ (n : MovedOf second w d). absurd (omega (arith, moved_from d n))) c)
        (edge_cases d m);
    agree = λ q l.
        sym (bit_below w.rejecting second (u.rejecting * 2) (1 + q) (omega arith) ∙ ap (λ (x : ℕ). bit x (1 + q)) (omega arith) ∙ bit_above u.rejecting 1 0 q (omega arith));
  }

  module _ {variables : ℕ} (good : ProperAutomaton variables u) where
    pub second_part : Part (join_automata u w) w second
    unfolding join_automata
    second_part = record {
      starts = refl;
      inside = omega arith;
      copies_in = λ e m l. Memᴰ.append_left _ (Memᴰ.append_left _ (Memᴰ.append_right (copies_of 1 u) (copies_have second w e m l)));
      moved_in = λ e m. Memᴰ.append_right (copies_of 1 u ++ copies_of second w ++ moved_of 1 u) (Memᴰ.map (moved second) m);
      only = λ d q m e l. ⊎_elim
          (λ c. absurd (⊎_elim (no_copy d (omega arith)) (no_copy d (omega arith)) c))
          (λ c. ⊎_elim (λ (n : MovedOf 1 u d). absurd (omega (arith, moved_from d n, (good.edges_proper n.edge n.drawn).from_known))) (λ n. n) c)
          (edge_cases d m);
      agree = λ q l. sym (bit_above w.rejecting second (u.rejecting * 2) q (rejecting_low u.states u.rejecting good.rejecting_known));
    }

    -- ---- what is joined is proper
    module _ (good' : ProperAutomaton variables w) (fits : Fitting (join_automata u w)) where
      all_states : ℕ
      all_states = second + w.states

      -- an edge of an automaton whose states stand n further on, of all these
      module _ (n old : ℕ) (inside : n + old ≤ all_states) (e : Edge) (own : ProperEdge variables old e) where
        -- whatever it leaves
        leaving_proper : (q : ℕ) → q < all_states → ProperEdge variables all_states record { from = q; to = n + e.to; on = e.on; off = e.off; unless = e.unless }
        leaving_proper q l = record {
          from_known = l;
          to_known = omega (arith, own.to_known);
          on_known = own.on_known;
          off_known = own.off_known;
          on_off_apart = own.on_off_apart;
        }

        copied_proper : ProperEdge variables all_states (copied n e)
        unfolding copied
        copied_proper = leaving_proper 0 (omega (arith, own.to_known))

        moved_proper : ProperEdge variables all_states (moved n e)
        unfolding moved
        moved_proper = leaving_proper (n + e.from) (omega (arith, own.from_known))

      module _ (n : ℕ) (v : Automaton) (inside : n + v.states ≤ all_states) (proper : ProperAutomaton variables v) (d : Edge) where
        copy_proper : CopyOf n v d → ProperEdge variables all_states d
        copy_proper c = subst (ProperEdge variables all_states) c.is (copied_proper n v.states inside c.edge (proper.edges_proper c.edge c.drawn))

        move_proper : MovedOf n v d → ProperEdge variables all_states d
        move_proper c = subst (ProperEdge variables all_states) c.is (moved_proper n v.states inside c.edge (proper.edges_proper c.edge c.drawn))

      pub joined_proper : ProperAutomaton variables (join_automata u w)
      unfolding join_automata all_states
      joined_proper = record {
        some_states = omega arith;
        few_states = fits.few_states;
        initial_known = omega arith;
        rejecting_known = rejecting_joined u.states w.states u.rejecting w.rejecting good.rejecting_known good'.rejecting_known;
        few_edges = fits.few_edges;
        edges_proper = λ d m. ⊎_elim
            (λ c. ⊎_elim (copy_proper 1 u (omega arith) good d) (copy_proper second w (omega arith) good' d) c)
            (λ c. ⊎_elim (move_proper 1 u (omega arith) good d) (move_proper second w (omega arith) good' d) c)
            (edge_cases d m);
      }
