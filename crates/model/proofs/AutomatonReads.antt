-- Behind a front, reading goes through AU and the edges of a proper automaton, and stops at the first record that is none.
use mathlib.Core.Path.{◌≡◌, refl, ap, ap₂, ◌∙◌, subst}
use mathlib.Core.Bool.{true, false, not, ◌||◌}
use mathlib.Core.List.Memᴰ
use mathlib.Core.List.{List, [], ◌∷◌, ◌++◌, append_assoc}
use Prim.Native.Nat.{ℕ, zero, suc, ◌+◌, ◌*◌, ◌≤◌}
use native.Mathlib.Nat.{zero-add, add-zero, suc-add, mod-add-div}
use native.Mathlib.Omega.{arith}
use lib.Dec.{eqb}
use lib.ListN.{length, length-append}
use borrow.Author.Tests.{ne_eqb}
use Rattle.model.specs.declared.Refusal.TheVariants.{SheetTooShort, WrongMark, NoOwnerOrTooMany, BadAutomaton, BadEdge}
use Rattle.model.specs.Mask.{if}
use Rattle.model.specs.Sheet.{Architecture, Edge, Automaton, ProperEdges}
use Rattle.model.specs.Reading.{Reading, refused, proper, byte, short, marked, edge_marked, AU, all_fault, au_fault, ed_fault}
use Rattle.model.specs.Reading.{read_end, read_edge, read_edges, read_automaton, refuse◌when◌else◌, ◌then◌}
use Rattle.model.specs.SheetFile.{states_bytes, edge_bytes, edges_bytes}
use Rattle.model.proofs.Refusing.{go}
use Rattle.model.proofs.FaultsExact.{fields_of_edge_faultless}
use Rattle.model.proofs.RecordAt.{At, next, byte_at, long_enough, marked_at, edge_long, edge_marked_at, edge_opens, edge_at_lem}

-- the automaton with these edges for its own
unfoldable pub having_edges : Automaton → List Edge → Automaton
having_edges u es = record { states = u.states; initial = u.initial; rejecting = u.rejecting; edges = es }

module _ (b : List ℕ) where
  -- ---- AU
  -- AU stands behind one process or more
  pub states_mark : (i : ℕ) (a : Architecture) → marked b i AU ≡ true → 1 ≤ length a.processes → (not (marked b i AU) || eqb (length a.processes) 0) ≡ false
  states_mark i a mark some = rw mark (ne_eqb (length a.processes) 0 (λ e. omega arith))

  -- a whole one: the front is tested, then its fields, and then the edges are read
  pub states_next : (i : ℕ) (a : Architecture) (u : Automaton) (x : List ℕ) → At b i (states_bytes u ++ x) → 1 ≤ length a.processes
      → read_automaton a b i ≡
      refuse◌when◌else◌ NoOwnerOrTooMany (all_fault a)
      (refuse◌when◌else◌ BadAutomaton (au_fault u.states u.initial u.rejecting)
      (read_edges a.variables u.states 64 b (i + 6) then λ es. proper (having_edges u es)))
  unfolding read_automaton states_bytes having_edges
  states_next i a u x h some =
      let two : short b i 2 ≡ false = long_enough h 2 (omega arith) in
      let six : short b i 6 ≡ false = long_enough h 6 (omega arith) in
      let states : byte b (i + 2) ≡ u.states = byte_at h 2 in
      let initial : byte b (i + 3) ≡ u.initial = byte_at h 3 in
      let rejecting : byte b (i + 4) + 256 * byte b (i + 5) ≡ u.rejecting = ap₂ (λ (low high : ℕ). low + 256 * high) (byte_at h 4) (byte_at h 5) ∙ mod-add-div u.rejecting 256 in
      go SheetTooShort _ two
      ∙ go WrongMark _ (states_mark i a (marked_at h AU) some)
      ∙ go SheetTooShort _ six
      ∙ (λ j.
      refuse◌when◌else◌ NoOwnerOrTooMany (all_fault a)
      (refuse◌when◌else◌ BadAutomaton (au_fault (states j) (initial j) (rejecting j))
      (read_edges a.variables (states j) 64 b (i + 6) then λ es. proper record { states = states j; initial = initial j; rejecting = rejecting j; edges = es })))

  module _ (variables states : ℕ) where
    -- ---- one edge
    -- a whole one is tested, and then the next is read
    pub edge_next : (i k : ℕ) (e : Edge) (x : List ℕ) → At b i (edge_bytes e ++ x)
        → read_edges variables states (suc k) b i ≡
        refuse◌when◌else◌ BadEdge (ed_fault variables states e) (read_edges variables states k b (i + 6) then λ es. proper (e ∷ es))
    unfolding read_edges read_edge if refuse◌when◌else◌
    edge_next i k e x h =
        let mark : edge_marked b i ≡ true = edge_marked_at e.unless _ (edge_opens e x h) in
        let whole : short b i 6 ≡ false = long_enough h 6 (omega (arith, edge_long e, length-append (edge_bytes e) x)) in
        rw (mark, whole) (ap (λ (q : Edge). refuse◌when◌else◌ BadEdge (ed_fault variables states q) (read_edges variables states k b (i + 6) then λ es. proper (q ∷ es))) (edge_at_lem e x h))

    -- one that ends too early
    pub edge_short : (i k : ℕ) → edge_marked b i ≡ true → short b i 6 ≡ true → read_edges variables states (suc k) b i ≡ refused SheetTooShort
    unfolding read_edges read_edge if refuse◌when◌else◌
    edge_short i k mark e = rw (mark, e)

    -- none
    pub no_edge : (i k : ℕ) → edge_marked b i ≡ false → read_edges variables states k b i ≡ read_end b i
    unfolding read_edges if
    no_edge i zero mark = refl
    no_edge i (suc k) mark = rw mark

    -- ---- proper edges
    -- edges in front of those that are read
    front_edge : (e : Edge) (es : List Edge) (m : Reading (List Edge)) → ((m then λ rs. proper (es ++ rs)) then λ rs. proper (e ∷ rs)) ≡ (m then λ rs. proper (e ∷ es ++ rs))
    unfolding ◌then◌
    front_edge e es (refused r) = refl
    front_edge e es (proper rs) = refl

    -- and none in front
    nothing_more : (m : Reading (List Edge)) → m ≡ (m then λ rs. proper rs)
    unfolding ◌then◌
    nothing_more (refused r) = refl
    nothing_more (proper rs) = refl

    -- all of them, with room for k more
    pub edges_through : (es : List Edge) (i k : ℕ) (x : List ℕ) → At b i (edges_bytes es ++ x) → ProperEdges variables states es
        → read_edges variables states (length es + k) b i ≡ (read_edges variables states k b (i + length (edges_bytes es)) then λ rs. proper (es ++ rs))
    unfolding edges_bytes
    edges_through [] i k x h g = rw (zero-add k, add-zero i) (nothing_more (read_edges variables states k b i))
    edges_through (e ∷ es) i k x h g =
        let here : At b i (edge_bytes e ++ (edges_bytes es ++ x)) = subst (At b i) (append_assoc (edge_bytes e) (edges_bytes es) x) h in
        let rest : At b (i + 6) (edges_bytes es ++ x) = subst (λ (n : ℕ). At b (i + n) (edges_bytes es ++ x)) (edge_long e) (next (edge_bytes e) (edges_bytes es ++ x) here) in
        let place : i + 6 + length (edges_bytes es) ≡ i + length (edges_bytes (e ∷ es)) = omega (arith, edge_long e, length-append (edge_bytes e) (edges_bytes es)) in
        ap (λ (n : ℕ). read_edges variables states n b i) (suc-add (length es) k)
        ∙ edge_next i (length es + k) e (edges_bytes es ++ x) here
        ∙ go BadEdge _ (fields_of_edge_faultless variables states e (g e (Memᴰ.head refl)))
        ∙ ap (λ (m : Reading (List Edge)). m then λ rs. proper (e ∷ rs)) (edges_through es (i + 6) k x rest (λ q m. g q (Memᴰ.tail m)))
        ∙ front_edge e es (read_edges variables states k b (i + 6 + length (edges_bytes es)))
        ∙ ap (λ (n : ℕ). read_edges variables states k b n then λ rs. proper (e ∷ es ++ rs)) place
