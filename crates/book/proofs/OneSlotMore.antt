-- A book with one slot more: what the loops along the words of a layout do at a turn.
use mathlib.Core.Path.{◌≡◌, refl, sym, ap, ◌∙◌}
use mathlib.Core.Bool.{true, false, ◌&&◌, and-true, true≢false}
use mathlib.Core.Logic.{⊎_elim}
use mathlib.Core.List.{List, [], ◌∷◌, ◌++◌, map, map-append}
use Prim.Native.Nat.{ℕ, zero, suc, ◌+◌, ◌-◌, ◌%◌, ◌<◌, ◌≤◌}
use native.Mathlib.Numerals.{add-one}
use native.Mathlib.Omega.{arith}
use lib.Dec.{eqb}
use lib.ListN.{length, length-map, get_or, take, drop, length-append}
use lib.Seq.{take-suc, take-add, length-take-le, drop-nil}
use Rattle.theory.proofs.Bools.{and_is, bool_cases}
use Rattle.model.specs.Book.{Slot, due, entry, form, holes, well_formed, entries_in, filled}
use Rattle.model.proofs.BookInverse.{holes_append, holes_form}
use Rattle.architecture.specs.declared.Architecture.{Architecture}
use Rattle.architecture.specs.Struct.{IsProper, architecture_of}
use Rattle.layout.specs.Slots.{slot_of, slots_of}
use Rattle.choice.proofs.KindWords.{entries_few}

-- ---- the test of a book, slot by slot
pub well_cons : (p : Slot) (ps : List Slot) (y : ℕ) (b : List ℕ) → well_formed (p ∷ ps) (y ∷ b) ≡ (well_formed (p ∷ []) (y ∷ []) && well_formed ps b)
unfolding well_formed
well_cons (due x) ps y b = rw (and-true (eqb y x))
well_cons entry ps y b = refl

-- a book of another length is not well formed
pub right_length : (ps : List Slot) (b : List ℕ) → well_formed ps b ≡ true → length b ≡ length ps
unfolding well_formed
right_length [] [] w = refl
right_length [] (y ∷ b) w = absurd (true≢false (sym w))
right_length (due x ∷ ps) [] w = absurd (true≢false (sym w))
right_length (due x ∷ ps) (y ∷ b) w = ap suc (right_length ps b ((and_is (eqb y x) (well_formed ps b)).0 w).1)
right_length (entry ∷ ps) [] w = absurd (true≢false (sym w))
right_length (entry ∷ ps) (y ∷ b) w = ap suc (right_length ps b w)

pub wrong_length : (ps : List Slot) (b : List ℕ) → (length b ≡ length ps → ⊥) → well_formed ps b ≡ false
wrong_length ps b h = ⊎_elim (λ w. absurd (h (right_length ps b w))) (λ f. f) (bool_cases (well_formed ps b))

-- ---- one slot more
slots_more : (words : List ℕ) (k : ℕ) → k < length words → slots_of words (k + 1) ≡ slots_of words k ++ (slot_of (get_or words k 0) ∷ [])
slots_more words k h = rw (add-one k, take-suc words k 0 h) (map-append slot_of (take k words) (get_or words k 0 ∷ []))

pub slots_length : (words : List ℕ) (k : ℕ) → k ≤ length words → length (slots_of words k) ≡ k
slots_length words k h = length-map (take k words) slot_of ∙ length-take-le k words h

entries_snoc : (ps : List Slot) (p : Slot) (b : List ℕ) → length ps < length b → entries_in (ps ++ (p ∷ [])) b ≡ entries_in ps b ++ entries_in (p ∷ []) (get_or b (length ps) 0 ∷ [])
unfolding entries_in
entries_snoc [] (due x) (y ∷ b) h = refl
entries_snoc [] entry (y ∷ b) h = refl
entries_snoc (due x ∷ ps) p (y ∷ b) h = entries_snoc ps p b (omega arith)
entries_snoc (entry ∷ ps) p (y ∷ b) h = ap (λ (l : List ℕ). y ∷ l) (entries_snoc ps p b (omega arith))
entries_snoc ps p [] h = absurd (omega arith)

filled_snoc : (ps : List Slot) (p : Slot) (c : List ℕ) → filled (ps ++ (p ∷ [])) c ≡ filled ps c ++ filled (p ∷ []) (drop (holes ps) c)
unfolding filled holes
filled_snoc [] p c = refl
filled_snoc (due x ∷ ps) p c = ap (λ (l : List ℕ). x ∷ l) (filled_snoc ps p c)
filled_snoc (entry ∷ ps) p [] = ap (λ (l : List ℕ). 0 ∷ l) (filled_snoc ps p [] ∙ rw (drop-nil (holes ps)))
filled_snoc (entry ∷ ps) p (v ∷ c) = ap (λ (l : List ℕ). v ∷ l) (filled_snoc ps p c)

pub entries_length : (ps : List Slot) (b : List ℕ) → length ps ≤ length b → length (entries_in ps b) ≡ holes ps
unfolding entries_in holes
entries_length [] b h = refl
entries_length (due x ∷ ps) [] h = absurd (omega arith)
entries_length (due x ∷ ps) (y ∷ b) h = entries_length ps b (omega arith)
entries_length (entry ∷ ps) [] h = absurd (omega arith)
entries_length (entry ∷ ps) (y ∷ b) h = ap suc (entries_length ps b (omega arith))

-- the entries among the first k slots, and one slot more
pub entries_more : (words b : List ℕ) (k : ℕ) → k < length words → k < length b
    → entries_in (slots_of words (k + 1)) b ≡ entries_in (slots_of words k) b ++ entries_in (slot_of (get_or words k 0) ∷ []) (get_or b k 0 ∷ [])
entries_more words b k h l =
    let e : length (slots_of words k) ≡ k = slots_length words k (omega arith) in
    ap (λ (ps : List Slot). entries_in ps b) (slots_more words k h) ∙ entries_snoc (slots_of words k) (slot_of (get_or words k 0)) b (omega arith) ∙ rw e

pub filled_more : (words c : List ℕ) (k : ℕ) → k < length words
    → filled (slots_of words (k + 1)) c ≡ filled (slots_of words k) c ++ filled (slot_of (get_or words k 0) ∷ []) (drop (holes (slots_of words k)) c)
filled_more words c k h = ap (λ (ps : List Slot). filled ps c) (slots_more words k h) ∙ filled_snoc (slots_of words k) (slot_of (get_or words k 0)) c

pub holes_more : (words : List ℕ) (k : ℕ) → k < length words → holes (slots_of words (k + 1)) ≡ holes (slots_of words k) + holes (slot_of (get_or words k 0) ∷ [])
holes_more words k h = ap holes (slots_more words k h) ∙ holes_append (slots_of words k) (slot_of (get_or words k 0) ∷ [])

-- no more entries among fewer slots
holes_fewer : (words : List ℕ) (k n : ℕ) → k ≤ n → holes (slots_of words k) ≤ holes (slots_of words n)
holes_fewer words k n h =
    let rest = take (n - k) (drop k words) in
    let e : n ≡ k + (n - k) = omega arith in
    let split : slots_of words n ≡ slots_of words k ++ map slot_of rest = ap (slots_of words) e ∙ ap (map slot_of) (take-add k (n - k) words) ∙ map-append slot_of (take k words) rest in
    omega (arith, ap holes split, holes_append (slots_of words k) (map slot_of rest))

-- ---- what a word says
pub slot_entry : (w : ℕ) → w ≡ 0 → slot_of w ≡ entry
unfolding slot_of
slot_entry w e = rw e

pub slot_due : (w : ℕ) → (w ≡ 0 → ⊥) → slot_of w ≡ due ((w - 1) % 256)
unfolding slot_of
slot_due zero h = absurd (h refl)
slot_due (suc x) h = let e : suc x - 1 ≡ x = omega arith in rw e

-- ---- the entries among the first k slots fit where those of all do
module _ (words : List ℕ) (n m : ℕ) (l : n ≤ length words) (all : holes (slots_of words n) ≤ m) where
  pub holes_fit : (k : ℕ) → k ≤ n → holes (slots_of words k) ≤ m
  holes_fit k h = omega (arith, holes_fewer words k n h)

  -- with one slot more
  pub holes_room : (k : ℕ) → k < n → holes (slots_of words k) + holes (slot_of (get_or words k 0) ∷ []) ≤ m
  holes_room k h = omega (arith, holes_more words k (omega arith), holes_fit (k + 1) (omega arith))

  module _ (b : List ℕ) (lb : n ≤ length b) where
    pub entries_fit : (k : ℕ) → k ≤ n → length (entries_in (slots_of words k) b) ≤ m
    entries_fit k h = omega (arith, entries_length (slots_of words k) b (omega (arith, slots_length words k (omega arith))), holes_fit k h)

    pub entries_room : (k : ℕ) → k < n → length (entries_in (slots_of words k) b) + length (entries_in (slot_of (get_or words k 0) ∷ []) (get_or b k 0 ∷ [])) ≤ m
    entries_room k h =
        let more = ap length (entries_more words b k (omega arith) (omega arith)) in
        omega (arith, more, length-append (entries_in (slots_of words k) b) (entries_in (slot_of (get_or words k 0) ∷ []) (get_or b k 0 ∷ [])), entries_fit (k + 1) (omega arith))

-- the entries of a book fit into tables
pub form_holes : (a : Architecture) → IsProper a → (ps : List Slot) → ps ≡ form (architecture_of a) → holes ps ≤ 272
form_holes a z ps e = omega (arith, ap holes e, holes_form (architecture_of a), entries_few a z)
