-- With ED in place of each EX a run graph has the same steps: for an edge that is met there is one with the same end in its place, and the other way round.
use mathlib.Core.Path.{◌≡◌, refl, sym, ap, ◌∙◌}
use mathlib.Core.Bool.{Bool, true, false}
use mathlib.Core.Logic.{⊎_elim, ◌↔◌}
use mathlib.Core.List.Memᴰ
use mathlib.Core.List.{List, [], ◌∷◌, Memᴰ}
use Prim.Native.Nat.{ℕ, ◌^◌, ◌≤◌, ◌<◌}
use native.Mathlib.Omega.{arith}
use lib.Pow.{pow_mono}
use Rattle.model.specs.Mask.{if}
use Rattle.model.specs.Sheet.{Architecture, Edge, Automaton, Sheet, ProperSheet}
use Rattle.model.specs.Compose.{label, step}
use Rattle.model.specs.RunGraph.{vertex, automaton_state, composed_state, met, Step}
use Rattle.model.specs.Demands.{as_ex, one_per_variable, without_unless, plain}
use Rattle.model.proofs.OnePerVariable.{in_place_of, same_end}

-- the masks of an edge are of 8 variables at most
record Known (e : Edge) : Type 0 where
  on : e.on < 256
  off : e.off < 256

module _ (q l : ℕ) where
  -- an edge of the list is met, and leads to this state
  record Leads (es : List Edge) (to : ℕ) : Type 0 where
    edge : Edge
    there : Memᴰ edge es
    is_met : met edge q l ≡ true
    end : to ≡ edge.to

  -- ---- one edge, and what stands in its place
  abbrev in_place : Bool → Edge → List Edge
  in_place unless e = if unless (one_per_variable e) (e ∷ [])

  as_ex_lem : (e : Edge) → e.unless ≡ true → met e q l ≡ met (as_ex e) q l
  as_ex_lem e kind = ap (λ (unless : Bool). met (record { from = e.from; to = e.to; on = e.on; off = e.off; unless = unless }) q l) kind

  placed : (e : Edge) (unless : Bool) → e.unless ≡ unless → Known e → met e q l ≡ true → Leads (in_place unless e) e.to
  unfolding if
  placed e true kind known h =
      let r = (in_place_of e q l known.on known.off).0 (sym (as_ex_lem e kind) ∙ h) in
      record { edge = r.0; there = r.1; is_met = r.2; end = sym (same_end e q l r.0 r.1) }
  placed e false kind known h = record { edge = e; there = Memᴰ.head refl; is_met = h; end = refl }

  replaced : (e : Edge) (unless : Bool) → e.unless ≡ unless → Known e → (d : Edge) → Memᴰ d (in_place unless e) → met d q l ≡ true → (met e q l ≡ true) × (d.to ≡ e.to)
  unfolding if
  replaced e true kind known d m h = (as_ex_lem e kind ∙ (in_place_of e q l known.on known.off).1 (d, m, h), same_end e q l d m)
  replaced e false kind known d m h =
      let same : d ≡ e = Memᴰ.eq_of_singleton m in
      (ap (λ (z : Edge). met z q l) (sym same) ∙ h, ap (λ (z : Edge). z.to) same)

  -- ---- all edges
  abbrev AllKnown : List Edge → Type 0
  AllKnown es = (e : Edge) → Memᴰ e es → Known e

  all_placed : (es : List Edge) → AllKnown es → (e : Edge) → Memᴰ e es → met e q l ≡ true → Leads (without_unless es) e.to
  unfolding without_unless
  all_placed [] known e m h = elim m [ ]
  all_placed (f ∷ es) known e (Memᴰ.head same) h =
      let r = placed f f.unless refl (known f (Memᴰ.head refl)) (ap (λ (z : Edge). met z q l) (sym same) ∙ h) in
      record { edge = r.edge; there = Memᴰ.append_left (without_unless es) r.there; is_met = r.is_met; end = ap (λ (z : Edge). z.to) same ∙ r.end }
  all_placed (f ∷ es) known e (Memᴰ.tail m) h =
      let r = all_placed es (λ x i. known x (Memᴰ.tail i)) e m h in
      record { edge = r.edge; there = Memᴰ.append_right (in_place f.unless f) r.there; is_met = r.is_met; end = r.end }

  all_replaced : (es : List Edge) → AllKnown es → (d : Edge) → Memᴰ d (without_unless es) → met d q l ≡ true → Leads es d.to
  unfolding without_unless
  all_replaced [] known d m h = absurd (Memᴰ.not-nil m)
  all_replaced (e ∷ es) known d m h =
      ⊎_elim (λ i. let r = replaced e e.unless refl (known e (Memᴰ.head refl)) d i h in record { edge = e; there = Memᴰ.head refl; is_met = r.0; end = r.1 })
      (λ i. let r = all_replaced es (λ x j. known x (Memᴰ.tail j)) d i h in record { edge = r.edge; there = Memᴰ.tail r.there; is_met = r.is_met; end = r.end })
      (Memᴰ.append_cases (in_place e.unless e) m)

-- ---- steps
module _ (a : Architecture) (c : List ℕ) (v w : ℕ) where
  -- the same step along another automaton, by an edge with the same end
  along : (u u' : Automaton) (h : Step record { architecture = a; automaton = u } c v w)
      → Leads (automaton_state a v) (label a c (composed_state a v)) u'.edges h.edge.to → Step record { architecture = a; automaton = u' } c v w
  along u u' h r = record {
    edge = r.edge;
    direction = h.direction;
    drawn = r.there;
    is_met = r.is_met;
    possible = h.possible;
    leads = h.leads ∙ ap (λ (to : ℕ). vertex a to (step a c (composed_state a v) h.direction)) r.end;
  }

pub same_steps : (s : Sheet) (c : List ℕ) (v w : ℕ) → ProperSheet s → Step s c v w ↔ Step (plain s) c v w
unfolding plain
same_steps s c v w good = (
  λ h. along a c v w u (plain s).automaton h (all_placed q l u.edges known h.edge h.drawn h.is_met),
  λ h. along a c v w (plain s).automaton u h (all_replaced q l u.edges known h.edge h.drawn h.is_met),
)
  where
    a : Architecture
    a = s.architecture

    u : Automaton
    u = s.automaton

    q : ℕ
    q = automaton_state a v

    l : ℕ
    l = label a c (composed_state a v)

    known : (e : Edge) → Memᴰ e u.edges → Known e
    known e m =
        let own = good.automaton.edges_proper e m in
        let masks : 2 ^ a.variables ≤ 256 = pow_mono {i = a.variables} {j = 8} good.architecture.front.few_variables in
        record { on = omega (arith, own.on_known); off = omega (arith, own.off_known) }
