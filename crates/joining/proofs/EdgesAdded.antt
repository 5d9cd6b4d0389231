-- Edges made of those of an automaton, one after the other, behind the edges of another: what is there and what is still due are always all.
use mathlib.Core.Path.{◌≡◌, refl, sym, ap, ◌∙◌}
use mathlib.Core.Bool.{Bool, true, false}
use mathlib.Core.List.{List, [], ◌∷◌, ◌++◌, map, append_assoc, append-nil}
use Prim.Native.Nat.{ℕ, ◌+◌, ◌<◌, ◌≤◌}
use native.Mathlib.Omega.{arith}
use lib.Dec.{eqb}
use lib.ListN.{length, drop, length-append, length-map}
use borrow.Author.Tests.{eq-eqb, ne_eqb}
use Rattle.theory.specs.Lists.{put, filter}
use Rattle.model.specs.Sheet as model
use Rattle.model.specs.Sheet.{Edge}
use Rattle.model.specs.Join.{moved, copied, leaving, copies}
use Rattle.automaton.specs.declared.Automaton.{Automaton}
use Rattle.automaton.specs.Struct.{Arrays, edge_in, first_in, automaton_of}
use Rattle.automaton.proofs.Edges.{edges_many, edge_next, edges_end}
use Rattle.sheet.specs.Steps.{with_edges}

-- ---- what is made of each edge by itself
pub record Each (f : List Edge → List Edge) : Type 0 where
  pub none : f [] ≡ []
  pub next : (e : Edge) (es : List Edge) → f (e ∷ es) ≡ f (e ∷ []) ++ f es

pub moved_each : (k : ℕ) → Each (map (moved k))
moved_each k = record { none = refl; next = λ e es. refl }

pub copies_each : (k q : ℕ) → Each (copies k q)
unfolding copies leaving filter put
copies_each k q = record { none = refl; next = λ e es. by e es (eqb e.from q) }
  where
    by : (e : Edge) (es : List Edge) (b : Bool) → map (copied k) (put b e (leaving q es)) ≡ map (copied k) (put b e []) ++ map (copied k) (leaving q es)
    by e es true = refl
    by e es false = refl

-- the copy of an edge that leaves q, and of one that does not
module _ (k q : ℕ) (e : Edge) where
  pub copies_on : e.from ≡ q → copies k q (e ∷ []) ≡ copied k e ∷ []
  unfolding copies leaving filter put
  copies_on h = rw (eq-eqb e.from q h)

  pub copies_off : ¬ (e.from ≡ q) → copies k q (e ∷ []) ≡ []
  unfolding copies leaving filter put
  copies_off h = rw (ne_eqb e.from q h)

-- as many copies as edges that leave q
pub copies_many : (k q : ℕ) (es : List Edge) → length (copies k q es) ≡ length (leaving q es)
unfolding copies
copies_many k q es = length-map (leaving q es) (copied k)

-- ---- a loop along the edges of u
-- what is made of those from i on is still due behind the edges of `joined`; all of it goes behind those of `into`
pub record Added (f : List Edge → List Edge) (u into joined : Automaton) (i : ℕ) : Type 0 where
  pub arrays : Arrays joined
  pub is : with_edges (automaton_of joined) (f (drop i (first_in u u.edges))) ≡ with_edges (automaton_of into) (f (first_in u u.edges))

-- no edge more
pub no_more : (v : model.Automaton) → with_edges v [] ≡ v
unfolding with_edges
no_more v = λ j. record { states = v.states; initial = v.initial; rejecting = v.rejecting; edges = append-nil v.edges j }

-- how many edges there are with these behind them
pub edges_grown : (more into : Automaton) (es : List Edge) → automaton_of more ≡ with_edges (automaton_of into) es → more.edges ≡ into.edges + length es
unfolding with_edges
edges_grown more into es e = omega (arith, edges_many more, edges_many into, ap (λ (v : model.Automaton). length v.edges) e, length-append (automaton_of into).edges es)

-- before the first turn
pub added_none : (f : List Edge → List Edge) (u into : Automaton) → Arrays into → Added f u into into 0
added_none f u into arrays = record { arrays = arrays; is = refl }

module _ {f : List Edge → List Edge} (each : Each f) {u into joined : Automaton} {i : ℕ} (a : Added f u into joined i) where
  module _ (e : Edge) (is : e ≡ edge_in u i) (l : i < u.edges) where
    -- what is due next, and what is behind it
    due : f (drop i (first_in u u.edges)) ≡ f (e ∷ []) ++ f (drop (i + 1) (first_in u u.edges))
    due = ap f (edge_next u i e is l) ∙ each.next e _

    -- there is room for it
    pub added_room : into.edges + length (f (first_in u u.edges)) ≤ 64 → joined.edges + length (f (e ∷ [])) ≤ 64
    unfolding with_edges
    added_room room =
        let rest = f (drop (i + 1) (first_in u u.edges)) in
        omega (
          arith,
          sym (length-append (automaton_of joined).edges _) ∙ ap (λ (x : model.Automaton). length x.edges) a.is ∙ length-append (automaton_of into).edges _,
          edges_many joined,
          edges_many into,
          ap length due,
          length-append (f (e ∷ [])) rest,
        )

    -- a turn
    pub added_next : {more : Automaton} → Arrays more → automaton_of more ≡ with_edges (automaton_of joined) (f (e ∷ [])) → Added f u into more (i + 1)
    unfolding with_edges
    added_next {more} arrays own =
        let rest = f (drop (i + 1) (first_in u u.edges)) in
        let v = automaton_of joined in
        record {
          arrays = arrays;
          is = ap (λ (x : model.Automaton). with_edges x rest) own
              ∙ ap (λ (es : List Edge). record { states = v.states; initial = v.initial; rejecting = v.rejecting; edges = es })
              (append_assoc v.edges (f (e ∷ [])) rest ∙ ap (λ (x : List Edge). v.edges ++ x) (sym due))
              ∙ a.is;
        }

  -- after the last turn
  pub added_all : u.edges ≡ i → automaton_of joined ≡ with_edges (automaton_of into) (f (first_in u u.edges))
  added_all e = sym (ap (with_edges (automaton_of joined)) (ap f (edges_end u i e) ∙ each.none) ∙ no_more (automaton_of joined)) ∙ a.is
