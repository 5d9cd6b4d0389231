-- What reading the edges and EN answers is what the row of bytes is: up to position i it is the writing of a proper sheet with the edges read so far.
use mathlib.Core.Path.{◌≡◌, refl, sym, ap, ◌∙◌, subst}
use mathlib.Core.Bool.{true, false, not}
use mathlib.Core.Logic.{⊎_elim}
use mathlib.Core.List.{List, [], ◌∷◌, ◌++◌, append_assoc, append-nil}
use Prim.Native.Nat.{ℕ, zero, suc, ◌+◌, ◌≤◌, ◌<◌}
use native.Mathlib.Omega.{arith}
use lib.Dec.{ltb}
use lib.ListN.{length, length-append, drop, drop_of_length-le}
use lib.Seq.{append_snoc}
use borrow.Author.Tests.{ltb-true, ltb-false, not-true, not-false}
use Rattle.model.specs.declared.Refusal.TheVariants.{SheetTooShort, WrongMark, BadEdge}
use Rattle.model.specs.Sheet.{Architecture, Edge, Automaton, Sheet, with_edge, ProperArchitecture, ProperAutomaton, ProperSheet}
use Rattle.model.specs.Reading.{Reading, proper, byte, short, marked, edge_marked, EX, EN, ed_fault, edge_at, read_end, read_edge, read_edges}
use Rattle.model.specs.SheetFile.{edge_mark, edge_bytes, records_bytes, sheet_bytes}
use Rattle.model.specs.SheetFile.{in_mark_behind_edges, in_edge, wrong_mark_behind_edges, bad_edge, byte_behind_end}
use Rattle.model.proofs.FaultsExact.{edge_faultless}
use Rattle.model.proofs.BytesRead.{row_longer, drop_byte, drop_mark, drop_four, left_short, is_whole, mark_at, mark_stands, mark_differs, edge_mark_stands, edge_mark_differs}
use Rattle.model.proofs.RecordMore.{records_more, edge_more}
use Rattle.model.proofs.Answered.{Answered, cut, faulty, not_both, tested, branched, followed}

-- the row is the writing of a proper sheet
abbrev pub Written : List ℕ → Sheet → Type 0
Written b s = (b ≡ sheet_bytes s) × ProperSheet s

-- further edges
unfoldable pub with_edges : Automaton → List Edge → Automaton
with_edges u es = record { states = u.states; initial = u.initial; rejecting = u.rejecting; edges = u.edges ++ es }

-- no further ones
with_none : (u : Automaton) → with_edges u [] ≡ u
unfolding with_edges
with_none u = ap (λ (es : List Edge). record { states = u.states; initial = u.initial; rejecting = u.rejecting; edges = es }) (append-nil u.edges)

-- one, and then further ones
with_one : (u : Automaton) (e : Edge) (es : List Edge) → with_edges (with_edge u e) es ≡ with_edges u (e ∷ es)
unfolding with_edges with_edge
with_one u e es = ap (λ (es : List Edge). record { states = u.states; initial = u.initial; rejecting = u.rejecting; edges = es }) (append_snoc u.edges e es)

module _ (b : List ℕ) (a : Architecture) (whole : ProperArchitecture a) where
  -- the architecture with an automaton
  abbrev sheet : Automaton → Sheet
  sheet u = record { architecture = a; automaton = u }

  -- further edges of u make the sheet whose writing the row is
  abbrev pub Completes : Automaton → List Edge → Type 0
  Completes u es = Written b (sheet (with_edges u es))

  -- EN, the last
  end_answered : (u : Automaton) (i : ℕ) → ProperAutomaton a.variables u → b ≡ records_bytes (sheet u) ++ drop i b → (length u.edges < 64 → edge_marked b i ≡ false)
      → Answered (Completes u) b (read_end b i)
  unfolding Answered read_end sheet_bytes
  end_answered u i g e ended =
      let s : Sheet = sheet u in
      let good : ProperSheet s = record { architecture = whole; automaton = g } in
      let row : marked b i EN ≡ true → b ≡ sheet_bytes s ++ drop (i + 2) b = λ m. row_longer (records_bytes s) EN (drop i b) (drop (i + 2) b) b e (mark_stands b i 0x45 0x4E m) in
      tested (Completes u) b SheetTooShort (short b i 2) _
      (λ t. cut b (records_bytes s ++ drop i b) e (in_mark_behind_edges s (drop i b) good (left_short b i 2 i 2 t (omega arith) (omega arith))))
      (λ t. let two : i + 2 ≤ length b = is_whole b i 2 t in
      tested (Completes u) b WrongMark (not (marked b i EN)) _
      (λ m. faulty (drop (i + 2) b) (omega arith) (row_longer (records_bytes s) (mark_at b i) (drop i b) (drop (i + 2) b) b e (drop_mark b i two))
      (wrong_mark_behind_edges s (mark_at b i) good refl
      (λ h. ⊎_elim (λ p. edge_mark_differs b i two (ended p.1) p.0) (λ q. mark_differs b i 0x45 0x4E two (not-true _ m) q) h)))
      (λ m. tested (Completes u) b WrongMark (ltb (i + 2) (length b)) _
      (λ l. faulty (drop (i + 3) b) (omega arith)
      (row_longer (sheet_bytes s) (byte b (i + 2) ∷ []) (drop (i + 2) b) (drop (i + 3) b) b (row (not-false _ m)) (drop_byte b i 2 (ltb-true _ _ l)))
      (byte_behind_end s (byte b (i + 2)) good))
      (λ l. subst (λ (v : Automaton). Written b (sheet v)) (sym (with_none u))
      (row (not-false _ m) ∙ ap (λ (x : List ℕ). sheet_bytes s ++ x) (drop_of_length-le b (ltb-false _ _ l)) ∙ append-nil (sheet_bytes s), good))))

  -- a whole ED or EX at i
  edge_whole : (i : ℕ) → edge_marked b i ≡ true → i + 6 ≤ length b → drop i b ≡ edge_bytes (edge_at b i) ++ drop (i + 6) b
  unfolding edge_bytes
  edge_whole i e l =
      let mark : List ℕ = edge_mark (marked b i EX) in
      edge_mark_stands b i e ∙ ap (λ (x : List ℕ). mark ++ x) (drop_four b i l) ∙ sym (append_assoc mark (byte b (i + 2) ∷ byte b (i + 3) ∷ byte b (i + 4) ∷ byte b (i + 5) ∷ []) (drop (i + 6) b))

  -- one ED or EX, and then the rest
  edge_answered : (u : Automaton) (i : ℕ) (rest : Reading (List Edge)) → ProperAutomaton a.variables u → length u.edges < 64 → b ≡ records_bytes (sheet u) ++ drop i b
      → edge_marked b i ≡ true
      → (ProperAutomaton a.variables (with_edge u (edge_at b i)) → b ≡ records_bytes (sheet (with_edge u (edge_at b i))) ++ drop (i + 6) b
      → Answered (Completes (with_edge u (edge_at b i))) b rest)
      → Answered (Completes u) b (read_edge a.variables u.states b i rest)
  unfolding Answered read_edge
  edge_answered u i rest g few e m go =
      let s : Sheet = sheet u in
      let x : Edge = edge_at b i in
      let good : ProperSheet s = record { architecture = whole; automaton = g } in
      let row : i + 6 ≤ length b → b ≡ records_bytes s ++ edge_bytes x ++ drop (i + 6) b =
      λ l. row_longer (records_bytes s) (edge_bytes x) (drop i b) (drop (i + 6) b) b e (edge_whole i m l) in
      tested (Completes u) b SheetTooShort (short b i 6) _
      (λ t. cut b (records_bytes s ++ edge_mark x.unless ++ drop (i + 2) b) (row_longer (records_bytes s) (edge_mark x.unless) (drop i b) (drop (i + 2) b) b e (edge_mark_stands b i m))
      (in_edge s x.unless (drop (i + 2) b) good few (left_short b i 6 (i + 2) 4 t (omega arith) (omega arith))))
      (λ t. tested (Completes u) b BadEdge (ed_fault a.variables u.states x) _
      (λ f. faulty (drop (i + 6) b) (omega arith) (row (is_whole b i 6 t)) (bad_edge s x good few (λ more. not_both f (edge_faultless a.variables u x more))))
      (λ f. followed (Completes (with_edge u x)) (Completes u) b rest (λ es. proper (x ∷ es))
      (go (edge_more a.variables u x g few f) (rw (records_more a u x) (row (is_whole b i 6 t))))
      (λ es. subst (λ (v : Automaton). Written b (sheet v)) (with_one u x es))))

  -- at most k more ED and EX, then EN
  pub edges_answered : (k : ℕ) (u : Automaton) (i : ℕ) → ProperAutomaton a.variables u → length u.edges + k ≡ 64 → b ≡ records_bytes (sheet u) ++ drop i b
      → Answered (Completes u) b (read_edges a.variables u.states k b i)
  unfolding read_edges with_edge
  edges_answered zero u i g few e = end_answered u i g e (λ l. absurd (omega arith))
  edges_answered (suc k) u i g few e =
      branched (Completes u) b (edge_marked b i) _ _
      (λ m. edge_answered u i _ g (omega arith) e m
      (λ more next. edges_answered k (with_edge u (edge_at b i)) (i + 6) more (omega (arith, length-append u.edges (edge_at b i ∷ []))) next))
      (λ m. end_answered u i g e (λ l. m))
