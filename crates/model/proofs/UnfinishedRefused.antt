-- A row that ends within a mark, or within the record of a mark that may stand there, is refused by 1: what stands before is read through.
use mathlib.Core.Path.{◌≡◌, refl, ap, ◌∙◌}
use mathlib.Core.Bool.{Bool, true, false, not}
use mathlib.Core.Logic.{inr}
use mathlib.Core.List.{List, [], ◌++◌, append_assoc}
use Prim.Native.Nat.{ℕ, suc, ◌+◌, ◌-◌, ◌≤◌, ◌<◌}
use native.Mathlib.Omega.{arith}
use lib.Dec.{eqb}
use lib.ListN.{length, length-append}
use borrow.Author.Tests.{ne_eqb}
use Rattle.model.specs.declared.Refusal.TheVariants.{SheetTooShort, WrongMark}
use Rattle.model.specs.Sheet.{Architecture, Sheet, ProperFront, ProperSheet}
use Rattle.model.specs.Mask.{if}
use Rattle.model.specs.Reading.{refused, short, marked, tie_marked, AR, SY, AU, process_size, read_end, read_automaton, read_front, read_sheet}
use Rattle.model.specs.SheetFile.{process_mark, edge_mark, front_bytes, records_bytes}
use Rattle.model.specs.SheetFile.{Unfinished, in_first_mark, in_architecture, in_mark_behind_front, in_process, in_tie, in_states, in_mark_behind_edges, in_edge}
use Rattle.model.proofs.Refusing.{stop, go, then_refused}
use Rattle.model.proofs.RecordAt.{At, behind, too_short, long_enough, no_mark, no_process_mark, no_edge_mark, marked_at, process_marked_is, process_marked_at, process_size_at, process_mark_long}
use Rattle.model.proofs.RecordAt.{mark_long, edge_marked_at}
use Rattle.model.proofs.FrontReads.{process_short, then_ties, front_through, tie_short, ties_front, front_done}
use Rattle.model.proofs.AutomatonReads.{states_mark, edge_short}
use Rattle.model.proofs.SheetReads.{front_refused, automaton_refused, edges_refused, end_refused}

-- ---- in the front
first_mark_short : (x : List ℕ) → length x < 2 → read_front x ≡ refused SheetTooShort
unfolding read_front
first_mark_short x l = stop SheetTooShort _ (too_short (behind [] x refl) 2 l)

architecture_short : (x : List ℕ) → length x < 3 → read_front (AR ++ x) ≡ refused SheetTooShort
unfolding read_front
architecture_short x l =
    let start : At (AR ++ x) 0 (AR ++ x) = behind [] (AR ++ x) refl in
    let mark : marked (AR ++ x) 0 AR ≡ true = marked_at start AR in
    go SheetTooShort _ (long_enough start 2 (omega arith)) ∙ go WrongMark _ (ap not mark) ∙ stop SheetTooShort _ (too_short start 5 (omega arith))

process_unfinished : (a : Architecture) (prompted : Bool) (x b : List ℕ) → b ≡ front_bytes a ++ (process_mark prompted ++ x) → ProperFront a → length a.processes < 4 → a.ties ≡ []
    → length x < if prompted 4 3 → read_front b ≡ refused SheetTooShort
unfolding then_ties if
process_unfinished a prompted x b e g few untied l =
    let i : ℕ = length (front_bytes a) in
    let here : At b i (process_mark prompted ++ x) = behind (front_bytes a) (process_mark prompted ++ x) e in
    let size : ℕ = if prompted 6 5 in
    let cut : short b i (process_size b i) ≡ true = ap (short b i) (process_size_at prompted x here) ∙ too_short here size
    (omega (arith, process_mark_long prompted, length-append (process_mark prompted) x, two_more prompted)) in
    front_through a (process_mark prompted ++ x) b (suc (3 - length a.processes)) e g untied (omega arith)
    ∙ then_refused _ (process_short b i a (3 - length a.processes) (process_marked_at prompted x here) cut)
  where
    -- the mark, and the fields
    two_more : (t : Bool) → if t 6 5 ≡ 2 + if t 4 3
    two_more true = refl
    two_more false = refl

tie_unfinished : (a : Architecture) (x b : List ℕ) → b ≡ front_bytes a ++ (SY ++ x) → ProperFront a → 1 ≤ length a.processes → length a.ties < 3 → length x < 2
    → read_front b ≡ refused SheetTooShort
unfolding tie_marked
tie_unfinished a x b e g some few l =
    let i : ℕ = length (front_bytes a) in
    let here : At b i (SY ++ x) = behind (front_bytes a) (SY ++ x) e in
    let several : eqb (length a.processes) 0 ≡ false = ne_eqb (length a.processes) 0 (λ z. omega arith) in
    ties_front a (SY ++ x) b e g (inr (inr (process_marked_is here))) (suc (2 - length a.ties)) (omega arith)
    ∙ tie_short b i a (2 - length a.ties) (rw (marked_at here SY, several)) (too_short here 4 (omega arith))

-- ---- behind it
mark_short : (a : Architecture) (x b : List ℕ) → b ≡ front_bytes a ++ x → ProperFront a → length x < 2 → read_sheet b ≡ refused SheetTooShort
unfolding read_automaton tie_marked
mark_short a x b e g l =
    let here : At b (length (front_bytes a)) x = behind (front_bytes a) x e in
    automaton_refused b a (length (front_bytes a)) (front_done a x b e g (inr (inr (no_process_mark here l))) (inr (rw (no_mark here l SY)))) SheetTooShort
    (stop SheetTooShort _ (too_short here 2 l))

states_short : (a : Architecture) (x b : List ℕ) → b ≡ front_bytes a ++ (AU ++ x) → ProperFront a → 1 ≤ length a.processes → length x < 4 → read_sheet b ≡ refused SheetTooShort
unfolding read_automaton tie_marked
states_short a x b e g some l =
    let i : ℕ = length (front_bytes a) in
    let here : At b i (AU ++ x) = behind (front_bytes a) (AU ++ x) e in
    automaton_refused b a i (front_done a (AU ++ x) b e g (inr (inr (process_marked_is here))) (inr (rw (marked_at here SY)))) SheetTooShort
    (go SheetTooShort _ (long_enough here 2 (omega arith)) ∙ go WrongMark _ (states_mark b i a (marked_at here AU) some) ∙ stop SheetTooShort _ (too_short here 6 (omega arith)))

-- ---- behind AU
end_short : (s : Sheet) (x b : List ℕ) → b ≡ records_bytes s ++ x → ProperSheet s → length x < 2 → read_sheet b ≡ refused SheetTooShort
unfolding read_end
end_short s x b e g l =
    let here : At b (length (records_bytes s)) x = behind (records_bytes s) x e in
    end_refused s x b e g SheetTooShort (inr (no_edge_mark here l)) (stop SheetTooShort _ (too_short here 2 l))

edge_unfinished : (s : Sheet) (unless : Bool) (x b : List ℕ) → b ≡ records_bytes s ++ (edge_mark unless ++ x) → ProperSheet s → length s.automaton.edges < 64 → length x < 4
    → read_sheet b ≡ refused SheetTooShort
edge_unfinished s unless x b e g few l =
    let here : At b (length (records_bytes s)) (edge_mark unless ++ x) = behind (records_bytes s) (edge_mark unless ++ x) e in
    let k : ℕ = 63 - length s.automaton.edges in
    let short = too_short here 6 (omega (arith, mark_long unless, length-append (edge_mark unless) x)) in
    edges_refused s (edge_mark unless ++ x) b e g SheetTooShort (suc k) (omega arith)
    (edge_short b s.architecture.variables s.automaton.states (length (records_bytes s)) k (edge_marked_at unless x here) short)

pub unfinished_refused : (b : List ℕ) → Unfinished b → read_sheet b ≡ refused SheetTooShort
unfinished_refused b (in_first_mark x l) = front_refused x SheetTooShort (first_mark_short x l)
unfinished_refused b (in_architecture x l) = front_refused (AR ++ x) SheetTooShort (architecture_short x l)
unfinished_refused b (in_mark_behind_front a x g l) = mark_short a x (front_bytes a ++ x) refl g l
unfinished_refused b (in_process a prompted x g few untied l) =
    front_refused (front_bytes a ++ process_mark prompted ++ x) SheetTooShort
    (process_unfinished a prompted x (front_bytes a ++ process_mark prompted ++ x) (append_assoc (front_bytes a) (process_mark prompted) x) g few untied l)
unfinished_refused b (in_tie a x g some few l) =
    front_refused (front_bytes a ++ SY ++ x) SheetTooShort (tie_unfinished a x (front_bytes a ++ SY ++ x) (append_assoc (front_bytes a) SY x) g some few l)
unfinished_refused b (in_states a x g some l) = states_short a x (front_bytes a ++ AU ++ x) (append_assoc (front_bytes a) AU x) g some l
unfinished_refused b (in_mark_behind_edges s x g l) = end_short s x (records_bytes s ++ x) refl g l
unfinished_refused b (in_edge s unless x g few l) = edge_unfinished s unless x (records_bytes s ++ edge_mark unless ++ x) (append_assoc (records_bytes s) (edge_mark unless) x) g few l
