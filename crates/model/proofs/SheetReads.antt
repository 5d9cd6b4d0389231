-- What is written of a proper sheet is read as that sheet: reading goes through all of its records, to EN.
use mathlib.Core.Path.{◌≡◌, refl, sym, ap, ◌∙◌}
use mathlib.Core.Bool.{true, false, not}
use mathlib.Core.Logic.{◌⊎◌, inl, inr}
use mathlib.Core.List.{List, [], ◌∷◌, ◌++◌, append-nil, append_assoc}
use Prim.Native.Nat.{ℕ, ◌+◌, ◌-◌, ◌≤◌}
use native.Mathlib.Omega.{arith}
use lib.ListN.{length, length-append}
use borrow.Author.Tests.{le-ltb}
use Rattle.model.specs.declared.Refusal.{Refusal}
use Rattle.model.specs.declared.Refusal.TheVariants.{SheetTooShort, WrongMark, NoOwnerOrTooMany, BadAutomaton}
use Rattle.model.specs.Sheet.{Architecture, Edge, Automaton, Sheet, ProperArchitecture, ProperAutomaton, ProperSheet}
use Rattle.model.specs.Reading.{Reading, refused, proper, marked, tie_marked, edge_marked, SY, ED, EX, EN}
use Rattle.model.specs.Reading.{read_end, read_edges, read_automaton, read_front, read_sheet, ◌then◌}
use Rattle.model.specs.SheetFile.{states_bytes, edges_bytes, front_bytes, automaton_bytes, records_bytes, sheet_bytes}
use Rattle.model.proofs.Refusing.{go}
use Rattle.model.proofs.FaultsExact.{front_faultless, states_faultless}
use Rattle.model.proofs.RecordAt.{At, behind, next, length_at, long_enough, marked_at, process_marked_is}
use Rattle.model.proofs.FrontReads.{front_done}
use Rattle.model.proofs.AutomatonReads.{having_edges, states_next, no_edge, edges_through}

-- ---- the front and what is behind it
-- what refuses the front, refuses the sheet
pub front_refused : (b : List ℕ) (r : Refusal) → read_front b ≡ refused r → read_sheet b ≡ refused r
unfolding read_sheet ◌then◌
front_refused b r e = rw e

module _ (b : List ℕ) (a : Architecture) (i : ℕ) (front : read_front b ≡ proper record { architecture = a; end = i }) where
  -- read: AU is next
  behind_front : read_sheet b ≡ (read_automaton a b i then λ u. proper record { architecture = a; automaton = u })
  unfolding read_sheet ◌then◌
  behind_front = rw front

  -- and so what refuses AU or what is behind it
  pub automaton_refused : (r : Refusal) → read_automaton a b i ≡ refused r → read_sheet b ≡ refused r
  unfolding ◌then◌
  automaton_refused r e = behind_front ∙ rw e

-- ---- AU and its edges, with room for k more
-- the edges read and those behind them
edges_gathered : (u : Automaton) (m : Reading (List Edge)) →
    ((m then λ rs. proper (u.edges ++ rs)) then λ es. proper (having_edges u es)) ≡ (m then λ rs. proper (having_edges u (u.edges ++ rs)))
unfolding ◌then◌
edges_gathered u (refused r) = refl
edges_gathered u (proper rs) = refl

-- all of it
automaton_through : (b : List ℕ) (i k : ℕ) (a : Architecture) (u : Automaton) (x : List ℕ) → At b i (automaton_bytes u ++ x) → ProperArchitecture a → ProperAutomaton a.variables u
    → length u.edges + k ≡ 64
    → read_automaton a b i ≡ (read_edges a.variables u.states k b (i + length (automaton_bytes u)) then λ rs. proper (having_edges u (u.edges ++ rs)))
unfolding automaton_bytes states_bytes
automaton_through b i k a u x h ga gu room =
    let edges : At b (i + 6) (edges_bytes u.edges ++ x) = next (states_bytes u) (edges_bytes u.edges ++ x) h in
    let place : i + 6 + length (edges_bytes u.edges) ≡ i + length (automaton_bytes u) = omega arith in
    states_next b i a u (edges_bytes u.edges ++ x) h ga.some_process
    ∙ go NoOwnerOrTooMany _ (front_faultless a ga)
    ∙ go BadAutomaton _ (states_faultless a.variables u gu)
    ∙ ap (λ (n : ℕ). read_edges a.variables u.states n b (i + 6) then λ es. proper (having_edges u es)) (sym room)
    ∙ ap (λ (m : Reading (List Edge)). m then λ es. proper (having_edges u es)) (edges_through b a.variables u.states u.edges (i + 6) k x edges gu.edges_proper)
    ∙ edges_gathered u (read_edges a.variables u.states k b (i + 6 + length (edges_bytes u.edges)))
    ∙ ap (λ (n : ℕ). read_edges a.variables u.states k b n then λ rs. proper (having_edges u (u.edges ++ rs))) place

-- ---- all records, with room for k more edges
-- the sheet with these edges behind its own
unfoldable more_edges : Sheet → List Edge → Sheet
unfolding having_edges
more_edges s es = record { architecture = s.architecture; automaton = having_edges s.automaton (s.automaton.edges ++ es) }

-- the sheet of what is read
gathered : (s : Sheet) (m : Reading (List Edge)) →
    ((m then λ rs. proper (having_edges s.automaton (s.automaton.edges ++ rs))) then λ u. proper record { architecture = s.architecture; automaton = u })
    ≡ (m then λ es. proper (more_edges s es))
unfolding ◌then◌ more_edges
gathered s (refused r) = refl
gathered s (proper es) = refl

-- AR to the last edge
records_through : (s : Sheet) (x b : List ℕ) (k : ℕ) → b ≡ records_bytes s ++ x → ProperSheet s → length s.automaton.edges + k ≡ 64
    → read_sheet b ≡ (read_edges s.architecture.variables s.automaton.states k b (length (records_bytes s)) then λ es. proper (more_edges s es))
unfolding records_bytes automaton_bytes states_bytes tie_marked
records_through s x b k e g room =
    let a : Architecture = s.architecture in
    let u : Automaton = s.automaton in
    let i : ℕ = length (front_bytes a) in
    let whole : b ≡ front_bytes a ++ (automaton_bytes u ++ x) = e ∙ append_assoc (front_bytes a) (automaton_bytes u) x in
    let states : At b i (automaton_bytes u ++ x) = behind (front_bytes a) _ whole in
    let front : read_front b ≡ proper record { architecture = a; end = i } = front_done a _ b whole g.architecture.front (inr (inr (process_marked_is states))) (inr (rw (marked_at states SY))) in
    behind_front b a i front
    ∙ ap (λ (m : Reading Automaton). m then λ w. proper record { architecture = a; automaton = w }) (automaton_through b i k a u x states g.architecture g.automaton room)
    ∙ gathered s (read_edges a.variables u.states k b (i + length (automaton_bytes u)))
    ∙ ap (λ (n : ℕ). read_edges a.variables u.states k b n then λ es. proper (more_edges s es)) (sym (length-append (front_bytes a) (automaton_bytes u)))

-- proper records, with no room or no mark for another edge
records_done : (s : Sheet) (x b : List ℕ) → b ≡ records_bytes s ++ x → ProperSheet s → (length s.automaton.edges ≡ 64) ⊎ (edge_marked b (length (records_bytes s)) ≡ false)
    → read_sheet b ≡ (read_end b (length (records_bytes s)) then λ es. proper (more_edges s es))
unfolding read_edges
records_done s x b e g (inl full) = records_through s x b 0 e g (omega arith)
records_done s x b e g (inr mark) =
    let few : length s.automaton.edges ≤ 64 = g.automaton.few_edges in
    let k : ℕ = 64 - length s.automaton.edges in
    records_through s x b k e g (omega arith)
    ∙ ap (λ (m : Reading (List Edge)). m then λ es. proper (more_edges s es)) (no_edge b s.architecture.variables s.automaton.states (length (records_bytes s)) k mark)

-- what is refused at the records behind these, refuses the sheet
module _ (s : Sheet) (x b : List ℕ) (e : b ≡ records_bytes s ++ x) (g : ProperSheet s) (r : Refusal) where
  pub edges_refused : (k : ℕ) → length s.automaton.edges + k ≡ 64 → read_edges s.architecture.variables s.automaton.states k b (length (records_bytes s)) ≡ refused r
      → read_sheet b ≡ refused r
  unfolding ◌then◌
  edges_refused k room f = records_through s x b k e g room ∙ rw f

  pub end_refused : (length s.automaton.edges ≡ 64) ⊎ (edge_marked b (length (records_bytes s)) ≡ false) → read_end b (length (records_bytes s)) ≡ refused r → read_sheet b ≡ refused r
  unfolding ◌then◌
  end_refused none f = records_done s x b e g none ∙ rw f

-- ---- EN
-- it is no edge's mark
pub end_no_edge : {b : List ℕ} {i : ℕ} {x : List ℕ} → At b i (0x45 ∷ 0x4E ∷ x) → edge_marked b i ≡ false
unfolding edge_marked
end_no_edge h = rw (marked_at h ED, marked_at h EX)

-- the last, with no byte after it
end_reads : {b : List ℕ} {i : ℕ} → At b i EN → read_end b i ≡ proper []
unfolding read_end
end_reads {b} {i} h =
    let mark : marked b i EN ≡ true = marked_at h EN in
    go SheetTooShort _ (long_enough h 2 (omega arith))
    ∙ go WrongMark _ (ap not mark)
    ∙ go WrongMark _ (le-ltb (i + 2) (length b) (omega (arith, length_at h)))

-- no edge behind its own
no_more : (s : Sheet) → more_edges s [] ≡ s
unfolding more_edges having_edges
no_more s = λ j. record {
  architecture = s.architecture;
  automaton = record { states = s.automaton.states; initial = s.automaton.initial; rejecting = s.automaton.rejecting; edges = append-nil s.automaton.edges j };
}

pub sheet_reads : (s : Sheet) → ProperSheet s → read_sheet (sheet_bytes s) ≡ proper s
unfolding sheet_bytes ◌then◌
sheet_reads s g =
    let end : At (records_bytes s ++ EN) (length (records_bytes s)) EN = behind (records_bytes s) EN refl in
    records_done s EN (records_bytes s ++ EN) refl g (inr (end_no_edge end))
    ∙ ap (λ (m : Reading (List Edge)). m then λ es. proper (more_edges s es)) (end_reads end)
    ∙ ap proper (no_more s)
