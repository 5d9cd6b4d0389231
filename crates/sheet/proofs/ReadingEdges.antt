-- Reading on behind edges that were read: one edge and then the rest, or EN, is the reading of the whole; and AU, behind which no edge was read yet.
use mathlib.Core.Path.{◌≡◌, refl, sym, ap, ◌∙◌}
use mathlib.Core.Bool.{Bool, true, false, ◌||◌, not}
use mathlib.Core.Logic.{◌⊎◌, inl, inr}
use mathlib.Core.List.{List, [], ◌∷◌, append_assoc, append-nil}
use Prim.Native.Nat.{ℕ, zero, suc, ◌+◌, ◌-◌, ◌*◌, ◌<◌, ◌≤◌}
use native.Mathlib.Omega.{arith}
use lib.Dec.{eqb}
use lib.ListN.{length}
use Rattle.model.specs.declared.Refusal.{Refusal}
use Rattle.model.specs.declared.Refusal.TheVariants.{SheetTooShort, WrongMark, NoOwnerOrTooMany, BadEdge}
use Rattle.model.specs.Mask.{if}
use Rattle.model.specs.Sheet.{Architecture, Edge, Automaton, with_edge}
use Rattle.model.specs.Reading.{Reading, refused, proper, refuse◌when◌else◌, ◌then◌, byte, short, marked, edge_marked, AU, edge_at, all_fault, ed_fault}
use Rattle.model.specs.Reading.{read_end, read_edge, read_edges, read_automaton}
use Rattle.model.proofs.Refusing.{then_refused, then_read}
use Rattle.automaton.specs.declared.Automaton as Struct
use Rattle.automaton.specs.Struct.{automaton_of, Arrays}
use Rattle.sheet.specs.Steps.{edge_tested, with_edges, behind, edges_from, states_from}
use Rattle.sheet.proofs.ReadingOn.{refuse_then}

-- an edge before those that are read goes behind those of u
behind_cons : (u : Automaton) (e : Edge) (m : Reading (List Edge)) → behind u (m then λ es. proper (e ∷ es)) ≡ behind (with_edge u e) m
unfolding behind ◌then◌ with_edge with_edges
behind_cons u e (refused r) = refl
behind_cons u e (proper es) = rw (append_assoc u.edges (e ∷ []) es)

-- no edge more is the automaton itself
behind_none : (u : Automaton) → behind u (proper []) ≡ proper u
unfolding behind with_edges ◌then◌
behind_none u = rw (append-nil u.edges)

behind_refuse : (u : Automaton) (r : Refusal) (t : Bool) (m : Reading (List Edge)) → behind u (refuse◌when◌else◌ r t m) ≡ refuse◌when◌else◌ r t (behind u m)
unfolding behind
behind_refuse u r t m = refuse_then r t m (λ es. proper (with_edges u es))

module _ (u : Automaton) (b : List ℕ) (i : ℕ) where
  module _ (variables : ℕ) where
    pub edges_none : (k : ℕ) → edge_marked b i ≡ false → edges_from k variables u b i ≡ behind u (read_end b i)
    unfolding edges_from read_edges if
    edges_none zero h = refl
    edges_none (suc k) h = rw h

    pub edges_last : edges_from 0 variables u b i ≡ behind u (read_end b i)
    unfolding edges_from read_edges
    edges_last = refl

    -- one edge, and then what follows it
    edge_then : (rest : Reading (List Edge)) (f : Edge → Reading Automaton) → behind (with_edge u (edge_at b i)) rest ≡ f (edge_at b i)
        → behind u (read_edge variables u.states b i rest) ≡ (edge_tested variables u.states b i then f)
    unfolding edge_tested read_edge ◌then◌
    edge_then rest f e =
        let fault : Bool = ed_fault variables u.states (edge_at b i) in
        behind_refuse u SheetTooShort (short b i 6) _
        ∙ ap (refuse◌when◌else◌ SheetTooShort (short b i 6))
        (behind_refuse u BadEdge fault _ ∙ ap (refuse◌when◌else◌ BadEdge fault) (behind_cons u (edge_at b i) rest ∙ e) ∙ sym (refuse_then BadEdge fault _ f))
        ∙ sym (refuse_then SheetTooShort (short b i 6) _ f)

    pub edges_turn : (m n : ℕ) → n < m → edge_marked b i ≡ true
        → edges_from (m - n) variables u b i ≡ (edge_tested variables u.states b i then λ e. edges_from (m - (n + 1)) variables (with_edge u e) b (i + 6))
    unfolding edges_from read_edges if with_edge
    edges_turn m n l h =
        let e : m - n ≡ suc (m - (n + 1)) = omega arith in
        rw (e, h) (edge_then (read_edges variables u.states (m - (n + 1)) b (i + 6)) (λ e. edges_from (m - (n + 1)) variables (with_edge u e) b (i + 6)) refl)

-- what the loop over the edges keeps, `count` of them read: reading on from `at`, behind those of u, is reading from the start
pub record EdgesRead (b : List ℕ) (start variables count : ℕ) (first u : Struct.Automaton) (at : ℕ) : Type 0 where
  pub arrays : Arrays u
  pub counted : u.edges ≡ count
  pub inside : at ≤ length b
  pub rest : edges_from (64 - count) variables (automaton_of u) b at ≡ edges_from 64 variables (automaton_of first) b start

module _ {b : List ℕ} {start variables count : ℕ} {first u : Struct.Automaton} {at : ℕ} (i : EdgesRead b start variables count first u at) where
  abbrev here : Automaton
  here = automaton_of u

  abbrev all : Reading Automaton
  all = edges_from 64 variables (automaton_of first) b start

  -- no mark, or enough edges: EN is what is left
  pub reads_end : (edge_marked b at ≡ false) ⊎ (64 ≤ count) → behind here (read_end b at) ≡ all
  reads_end (inl h) = sym (edges_none here b at variables (64 - count) h) ∙ i.rest
  reads_end (inr h) =
      let none : 64 - count ≡ 0 = omega arith in
      sym (ap (λ (k : ℕ). edges_from k variables here b at) none ∙ edges_last here b at variables) ∙ i.rest

  module _ (over : (edge_marked b at ≡ false) ⊎ (64 ≤ count)) where
    pub end_refused : (r : Refusal) → refused r ≡ read_end b at → refused r ≡ all
    unfolding behind ◌then◌
    end_refused r e = ap (behind here) e ∙ reads_end over

    pub end_read : proper [] ≡ read_end b at → proper here ≡ all
    end_read e = sym (behind_none here) ∙ ap (behind here) e ∙ reads_end over

  -- behind an edge at a mark
  abbrev rest : Edge → Reading Automaton
  rest e = edges_from (64 - (count + 1)) variables (with_edge here e) b (at + 6)

  module _ (room : count < 64) (h : edge_marked b at ≡ true) where
    stepped : (edge_tested variables u.states b at then rest) ≡ all
    unfolding automaton_of
    stepped = sym (edges_turn here b at variables 64 count room h) ∙ i.rest

    pub reads_refused : (r : Refusal) → refused r ≡ edge_tested variables u.states b at → refused r ≡ all
    reads_refused r e = sym (then_refused rest (sym e)) ∙ stepped

    pub reads_on : (v : Struct.Automaton) (x : Edge) → proper x ≡ edge_tested variables u.states b at → automaton_of v ≡ with_edge here x → Arrays v → v.edges ≡ count + 1 → at + 6 ≤ length b
        → EdgesRead b start variables (count + 1) first v (at + 6)
    reads_on v x e is arrays counted inside = record {
      arrays = arrays;
      counted = counted;
      inside = inside;
      rest = ap (λ (y : Automaton). edges_from (64 - (count + 1)) variables y b (at + 6)) is ∙ sym (then_read rest (sym e)) ∙ stepped;
    }

-- ---- the automaton
-- with no edge before them, the edges that are read are all
behind_all : (states initial rejecting : ℕ) (m : Reading (List Edge)) → behind record { states = states; initial = initial; rejecting = rejecting; edges = [] } m
    ≡ (m then λ es. proper record { states = states; initial = initial; rejecting = rejecting; edges = es })
unfolding behind with_edges ◌then◌
behind_all states initial rejecting (refused r) = refl
behind_all states initial rejecting (proper es) = refl

module _ (a : Architecture) (b : List ℕ) (i : ℕ) where
  -- after the mark: the length of AU, the records before it, and its fields
  abbrev pub fields : Reading Automaton
  fields =
      refuse SheetTooShort when short b i 6 else
      refuse NoOwnerOrTooMany when all_fault a else
      states_from a.variables b i

  pub automaton_is : read_automaton a b i ≡ (refuse SheetTooShort when short b i 2 else refuse WrongMark when not (marked b i AU) || eqb (length a.processes) 0 else fields)
  unfolding read_automaton states_from edges_from
  automaton_is = rw (behind_all (byte b (i + 2)) (byte b (i + 3)) (byte b (i + 4) + 256 * byte b (i + 5)) (read_edges a.variables (byte b (i + 2)) 64 b (i + 6)))
