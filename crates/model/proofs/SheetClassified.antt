-- What reading answers of a row of bytes is what the row is: the writing of a proper sheet, unfinished, or begun with a faulty record.
use mathlib.Core.Path.{◌≡◌, refl, sym, ap, ◌∙◌, subst}
use mathlib.Core.Bool.{Bool, true, false, ◌||◌, ◌&&◌, not, and-true}
use mathlib.Core.Logic.{⊎_elim}
use mathlib.Core.List.{List, [], ◌++◌}
use Prim.Native.Nat.{ℕ, ◌+◌, ◌*◌, ◌≤◌, ◌<◌}
use native.Mathlib.Omega.{arith}
use lib.Dec.{eqb}
use lib.ListN.{length, drop}
use borrow.Author.Tests.{eqb-true, eqb-false, not-true, not-false, ne_eqb}
use Rattle.theory.proofs.Bools.{or_is}
use Rattle.model.specs.declared.Refusal.{Refusal}
use Rattle.model.specs.declared.Refusal.TheVariants.{SheetTooShort, WrongMark, NoOwnerOrTooMany, BadAutomaton}
use Rattle.model.specs.Sheet.{Architecture, Automaton, Sheet, ProperFront, ProperArchitecture, ProperSheet}
use Rattle.model.specs.Reading.{Reading, refused, proper, byte, short, marked, process_marked, tie_marked, AU, SY}
use Rattle.model.specs.Reading.{all_fault, au_fault, read_edges, read_automaton, read_front, read_sheet, refuse◌when◌else◌, ◌then◌}
use Rattle.model.specs.SheetFile.{states_bytes, front_bytes, sheet_bytes, Bytes, FollowsFront, Unfinished, BeginsFaulty}
use Rattle.model.specs.SheetFile.{in_mark_behind_front, in_states, wrong_mark_behind_front, no_owner_or_too_many, bad_automaton}
use Rattle.model.proofs.ProperSheet.{or-false, no_edge_proper, front_whole}
use Rattle.model.proofs.FaultsExact.{front_faultless, states_faultless}
use Rattle.model.proofs.BytesRead.{row_longer, drop_mark, drop_four, left_short, is_whole, mark_at, mark_stands, mark_differs, process_mark_differs}
use Rattle.model.proofs.RecordMore.{records_alone, low_byte, high_byte}
use Rattle.model.proofs.Answered.{Refused, Answered, cut, faulty, not_both, tested, followed}
use Rattle.model.proofs.FrontClassified.{FrontRead, front_answered}
use Rattle.model.proofs.EdgesClassified.{Written, Completes, with_edges, edges_answered}

-- the fields of the AU at i, with no edge yet
abbrev states_at : List ℕ → ℕ → Automaton
states_at b i = record { states = byte b (i + 2); initial = byte b (i + 3); rejecting = byte b (i + 4) + 256 * byte b (i + 5); edges = [] }

-- the automaton makes of a the sheet whose writing the row is
abbrev Completed : List ℕ → Architecture → Automaton → Type 0
Completed b a u = Written b record { architecture = a; automaton = u }

-- the sheet that is read is proper and the row its writing; a refused row is unfinished, or begins with a faulty record
abbrev pub Classified : List ℕ → Reading Sheet → Type 0
Classified b k = Answered (Written b) b k

module _ (b : List ℕ) (bytes : Bytes b) where
  -- a whole AU at i
  states_whole : (i : ℕ) → marked b i AU ≡ true → i + 6 ≤ length b → drop i b ≡ states_bytes (states_at b i) ++ drop (i + 6) b
  unfolding states_bytes
  states_whole i e l =
      mark_stands b i 0x41 0x55 e ∙ ap (λ (x : List ℕ). AU ++ x) (drop_four b i l)
      ∙ rw (low_byte (byte b (i + 4)) (byte b (i + 5)) (bytes (i + 4)), high_byte (byte b (i + 4)) (byte b (i + 5)) (bytes (i + 4)))

  module _ (a : Architecture) (i : ℕ) (g : ProperFront a) (e : b ≡ front_bytes a ++ drop i b) where
    -- a mark that may not stand behind the front
    not_behind_front : i + 2 ≤ length b → (length a.processes < 4 → a.ties ≡ [] → process_marked b i ≡ false) → (length a.ties < 3 → tie_marked a b i ≡ false)
        → (not (marked b i AU) || eqb (length a.processes) 0) ≡ true → ¬ FollowsFront a (mark_at b i)
    unfolding tie_marked
    not_behind_front two ended tied t h =
        ⊎_elim (λ p. process_mark_differs b i two (ended p.1 p.2) p.0)
        (λ q. ⊎_elim (λ r. mark_differs b i 0x53 0x59 two (no_tie_mark r.1 (tied r.2)) r.0)
        (λ r. ⊎_elim (λ m. mark_differs b i 0x41 0x55 two (not-true _ m) r.0) (λ z. omega (arith, r.1, eqb-true (length a.processes) 0 z)) ((or_is (not (marked b i AU)) _).0 t))
        q)
        h
      where
        -- behind a process, the test of an SY is that of its mark
        no_tie_mark : 1 ≤ length a.processes → tie_marked a b i ≡ false → marked b i SY ≡ false
        no_tie_mark some e = sym (and-true (marked b i SY)) ∙ ap (λ (z : Bool). marked b i SY && not z) (sym (ne_eqb (length a.processes) 0 (λ z. omega arith))) ∙ e

    -- the fields of AU, 5 before 6, and then the edges
    abbrev behind_mark : Reading Automaton
    behind_mark =
        let u = states_at b i in
        refuse SheetTooShort when short b i 6 else
        refuse NoOwnerOrTooMany when all_fault a else
        refuse BadAutomaton when au_fault u.states u.initial u.rejecting else
        read_edges a.variables u.states 64 b (i + 6) then λ es.
        proper record { states = u.states; initial = u.initial; rejecting = u.rejecting; edges = es }

    states_answered : 1 ≤ length a.processes → marked b i AU ≡ true → Answered (Completed b a) b behind_mark
    unfolding Answered with_edges
    states_answered some m =
        let u : Automaton = states_at b i in
        let row : i + 6 ≤ length b → b ≡ front_bytes a ++ states_bytes u ++ drop (i + 6) b =
        λ l. row_longer (front_bytes a) (states_bytes u) (drop i b) (drop (i + 6) b) b e (states_whole i m l) in
        tested (Completed b a) b SheetTooShort (short b i 6) _
        (λ t. cut b (front_bytes a ++ AU ++ drop (i + 2) b) (row_longer (front_bytes a) AU (drop i b) (drop (i + 2) b) b e (mark_stands b i 0x41 0x55 m))
        (in_states a (drop (i + 2) b) g some (left_short b i 6 (i + 2) 4 t (omega arith) (omega arith))))
        (λ t. let own : b ≡ front_bytes a ++ states_bytes u ++ drop (i + 6) b = row (is_whole b i 6 t) in
        tested (Completed b a) b NoOwnerOrTooMany (all_fault a) _
        (λ f. faulty (drop (i + 6) b) (omega arith) own (no_owner_or_too_many a u g some (λ h. not_both f (front_faultless a h))))
        (λ f. let whole : ProperArchitecture a = front_whole a g (ne_eqb (length a.processes) 0 (λ z. omega arith)) f in
        tested (Completed b a) b BadAutomaton (au_fault u.states u.initial u.rejecting) _
        (λ x. faulty (drop (i + 6) b) (omega arith) own (bad_automaton a u whole refl (λ h. not_both x (states_faultless a.variables u h))))
        (λ x. followed (Completes b a whole u) (Completed b a) b (read_edges a.variables u.states 64 b (i + 6)) _
        (edges_answered b a whole 64 u (i + 6) (no_edge_proper a.variables u refl x) refl (rw (records_alone a u refl) own))
        (λ es w. w))))

    -- AU, then the edges
    automaton_answered : (length a.processes < 4 → a.ties ≡ [] → process_marked b i ≡ false) → (length a.ties < 3 → tie_marked a b i ≡ false) → Answered (Completed b a) b (read_automaton a b i)
    unfolding read_automaton
    automaton_answered ended tied =
        tested (Completed b a) b SheetTooShort (short b i 2) _
        (λ t. cut b (front_bytes a ++ drop i b) e (in_mark_behind_front a (drop i b) g (left_short b i 2 i 2 t (omega arith) (omega arith))))
        (λ t. let two : i + 2 ≤ length b = is_whole b i 2 t in
        tested (Completed b a) b WrongMark (not (marked b i AU) || eqb (length a.processes) 0) behind_mark
        (λ w. faulty (drop (i + 2) b) (omega arith) (row_longer (front_bytes a) (mark_at b i) (drop i b) (drop (i + 2) b) b e (drop_mark b i two))
        (wrong_mark_behind_front a (mark_at b i) g refl (not_behind_front two ended tied w)))
        (λ w. let h = or-false (not (marked b i AU)) _ w in
        let some : ¬ (length a.processes ≡ 0) = eqb-false _ _ h.1 in
        states_answered (omega arith) (not-false _ h.0)))

  -- the front, and what is behind it
  pub classified : Classified b (read_sheet b)
  unfolding Answered read_sheet
  classified =
      followed (FrontRead b) (Written b) b (read_front b) _ (front_answered b)
      (λ f h. followed (Completed b f.architecture) (Written b) b (read_automaton f.architecture b f.end) _
      (automaton_answered f.architecture f.end h.good h.so_far h.ended h.tied)
      (λ u w. w))

-- ---- what the row is, by the answer
pub written : (b : List ℕ) (s : Sheet) → Bytes b → read_sheet b ≡ proper s → (b ≡ sheet_bytes s) × ProperSheet s
unfolding Answered
written b s bytes e = subst (Classified b) e (classified b bytes)

-- why it is refused
why : (b : List ℕ) (r : Refusal) → Bytes b → read_sheet b ≡ refused r → Refused b r
unfolding Answered
why b r bytes e = subst (Classified b) e (classified b bytes)

pub unfinished : (b : List ℕ) → Bytes b → read_sheet b ≡ refused SheetTooShort → Unfinished b
unfinished b bytes e = ⊎_elim (λ h. h.1) (λ h. absurd (h.0 refl)) (why b SheetTooShort bytes e)

pub begins_faulty : (b : List ℕ) (r : Refusal) → Bytes b → ¬ (r ≡ SheetTooShort) → read_sheet b ≡ refused r → BeginsFaulty b r
begins_faulty b r bytes other e = ⊎_elim (λ h. absurd (other h.0)) (λ h. h.1) (why b r bytes e)
