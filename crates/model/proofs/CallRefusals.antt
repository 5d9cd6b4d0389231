-- Each call is refused exactly as its definition of refusals says: a test that passed, and none before it.
use mathlib.Core.Path.{◌≡◌, sym, ap, ◌∙◌, subst}
use mathlib.Core.Bool.{Bool, true, false, true≢false}
use mathlib.Core.Logic.{◌⊎◌, inl, inr, ◌↔◌, ⊎_elim}
use mathlib.Core.List.{List}
use mathlib.Core.Option.{Option, none, some}
use Prim.Native.Nat.{ℕ, ◌≤◌, ◌<◌}
use native.Mathlib.Omega.{arith}
use lib.ListN.{length}
use borrow.Author.Tests.{ltb-true, ltb-false, lt-ltb, le-ltb, leb-true, leb-false, le-leb, lt-leb}
use Rattle.model.specs.declared.Refusal.{Refusal}
use Rattle.model.specs.declared.Refusal.TheVariants.{BufferTooShort, AnnotationBufferTooShort, BadEntry, NoSuchProcess, PathBufferTooShort}
use Rattle.model.specs.Sheet.{Architecture, Sheet}
use Rattle.model.specs.Reading.{Reading, refused, proper, refuse◌when◌else◌, ◌then◌, read_sheet}
use Rattle.model.specs.Choice.{IsChoice, chosen}
use Rattle.model.specs.RunGraph.{vertices}
use Rattle.model.specs.Computed.{loops, first_choice}
use Rattle.model.specs.Book.{book_length, book_of, entry_fault, read_book}
use Rattle.model.specs.Calls.{annotation_short, path_short, book_short, reply, room_to_find, find_sheet, find_choice, find_in, find_of, Chosen, room_for, book_for, book_and_room, judged, judge_of}
use Rattle.model.specs.Calls.{rooms_for, book_and_rooms_for, book_and_rooms, annotated_by, annotated, annotate_of}
use Rattle.model.specs.Calls.{written_for, written, wrote, write_of, gave, read_of, no_process, part_for, part_architecture, cut, part_of}
use Rattle.model.specs.Refusals.{Formed, BookRefused}
use Rattle.model.specs.Refusals.{FindRefused, JudgeRefused, AnnotateRefused, WriteRefused, ReadRefused, PartRefused}
use Rattle.model.proofs.Refusing.{stop, go, refused≢proper, same_refused, refused_when, refused_then, then_refused, then_read}
use Rattle.model.proofs.BookRead.{chosen_faultless, faultless_chosen, chosen_faulty, choice_formed, choice_read, read_choice, book_refused, refused_book}
use Rattle.std.specs.Prelude.{Err}

-- ---- the answer is a refusal exactly when what was read is
module _ (r : Refusal) where
  -- no other answer is a refusal, and what is read is none
  pub neither : {A : Type 0} (a : A) {P : Type 0} → (P → ⊥) → P ↔ (proper a ≡ refused r)
  neither a n = (λ p. absurd (n p), λ e. absurd (refused≢proper r a (sym e)))

  pub check_answer : (k : Reading Sheet) → (reply k ≡ Err r) ↔ (k ≡ refused r)
  unfolding reply
  check_answer (refused q) = (λ e. let z : q ≡ r = cc in ap refused z, λ e. ap Err (same_refused q r e))
  check_answer (proper s) = neither s (λ e. let z : ◌≡◌ {A = ℕ} 0 1 = cc in omega arith)

  find_answer : (k : Reading Sheet) (book ann : List ℕ) → ((find_in k book ann).answer ≡ Err r) ↔ (k ≡ refused r)
  unfolding find_in find_choice
  find_answer (refused q) book ann = (λ e. let z : q ≡ r = cc in ap refused z, λ e. ap Err (same_refused q r e))
  find_answer (proper s) book ann = neither s (by (first_choice s))
    where
      by : (o : Option (List ℕ)) → ¬ ((find_choice s o book ann).answer ≡ Err r)
      by none e = let z : ◌≡◌ {A = ℕ} 0 1 = cc in omega arith
      by (some c) e = let z : ◌≡◌ {A = ℕ} 0 1 = cc in omega arith

  judge_answer : (k : Reading Chosen) (ann : List ℕ) → (judged k ann ≡ Err r) ↔ (k ≡ refused r)
  unfolding judged
  judge_answer (refused q) ann = (λ e. let z : q ≡ r = cc in ap refused z, λ e. ap Err (same_refused q r e))
  judge_answer (proper x) ann = neither x (λ e. let z : ◌≡◌ {A = ℕ} 0 1 = cc in omega arith)

  annotate_answer : (k : Reading Chosen) (ann : List ℕ) → ((annotated k ann).answer ≡ Err r) ↔ (k ≡ refused r)
  unfolding annotated annotated_by
  annotate_answer (refused q) ann = (λ e. let z : q ≡ r = cc in ap refused z, λ e. ap Err (same_refused q r e))
  annotate_answer (proper x) ann = neither x (by (loops x.sheet x.choice))
    where
      by : (b : Bool) → ¬ ((annotated_by x b ann).answer ≡ Err r)
      by true e = let z : ◌≡◌ {A = ℕ} 0 1 = cc in omega arith
      by false e = let z : ◌≡◌ {A = ℕ} 0 1 = cc in omega arith

  write_answer : (k : Reading (List ℕ)) (book : List ℕ) → ((wrote k book).answer ≡ Err r) ↔ (k ≡ refused r)
  unfolding wrote
  write_answer (refused q) book = (λ e. let z : q ≡ r = cc in ap refused z, λ e. ap Err (same_refused q r e))
  write_answer (proper new) book = neither new (λ e. let z : ◌≡◌ {A = ℕ} 0 1 = cc in omega arith)

  read_answer : (k : Reading (List ℕ)) → ((gave k).answer ≡ Err r) ↔ (k ≡ refused r)
  unfolding gave
  read_answer (refused q) = (λ e. let z : q ≡ r = cc in ap refused z, λ e. ap Err (same_refused q r e))
  read_answer (proper c) = neither c (λ e. let z : ◌≡◌ {A = ℕ} 0 1 = cc in omega arith)

  part_answer : (k : Reading Architecture) (i : ℕ) → ((cut k i).answer ≡ Err r) ↔ (k ≡ refused r)
  unfolding cut
  part_answer (refused q) i = (λ e. let z : q ≡ r = cc in ap refused z, λ e. ap Err (same_refused q r e))
  part_answer (proper a) i = neither a (λ e. let z : ◌≡◌ {A = ℕ} 0 1 = cc in omega arith)

-- ---- find: 8, then 9
find_tests : (sheet book ann : List ℕ) (r : Refusal) → find_sheet sheet book ann ≡ refused r → FindRefused sheet book ann r
unfolding find_sheet room_to_find book_short annotation_short
find_tests sheet book ann r e = ⊎_elim (λ q. FindRefused.by_sheet r q) (λ h. room h.0 h.1 (refused_when BufferTooShort _ _ r h.2)) (refused_then (read_sheet sheet) _ r e)
  where
    short : (s : Sheet) → read_sheet sheet ≡ proper s → book_length s.architecture ≤ length book
        → ((annotation_short s ann ≡ true) × (AnnotationBufferTooShort ≡ r)) ⊎ ((annotation_short s ann ≡ false) × (proper s ≡ refused r)) → FindRefused sheet book ann r
    short s p l (inl h) = subst (FindRefused sheet book ann) h.1 (FindRefused.short_annotation s p l (ltb-true _ _ h.0))
    short s p l (inr h) = absurd (refused≢proper r s (sym h.1))

    room : (s : Sheet) → read_sheet sheet ≡ proper s
        → ((book_short s.architecture book ≡ true) × (BufferTooShort ≡ r)) ⊎ ((book_short s.architecture book ≡ false)
        × (refuse◌when◌else◌ AnnotationBufferTooShort (annotation_short s ann) (proper s) ≡ refused r)) → FindRefused sheet book ann r
    room s p (inl h) = subst (FindRefused sheet book ann) h.1 (FindRefused.short_book s p (ltb-true _ _ h.0))
    room s p (inr h) = short s p (ltb-false _ _ h.0) (refused_when AnnotationBufferTooShort _ _ r h.1)

tests_find : (sheet book ann : List ℕ) (r : Refusal) → FindRefused sheet book ann r → find_sheet sheet book ann ≡ refused r
unfolding find_sheet room_to_find book_short annotation_short
tests_find sheet book ann r (FindRefused.by_sheet q e) = then_refused _ e
tests_find sheet book ann r (FindRefused.short_book s e l) = then_read _ e ∙ stop BufferTooShort _ (lt-ltb _ _ l)
tests_find sheet book ann r (FindRefused.short_annotation s e l m) = then_read _ e ∙ go BufferTooShort _ (le-ltb _ _ l) ∙ stop AnnotationBufferTooShort _ (lt-ltb _ _ m)

-- ---- judge and annotate: 10, 11, then what the room for the answer is refused for
-- the sheet and the book are read, and then it is refused
pub record Behind (sheet book : List ℕ) (room : Sheet → List ℕ → Reading Chosen) (r : Refusal) : Type 0 where
  pub read : Sheet
  pub choice : List ℕ
  pub is_proper : read_sheet sheet ≡ proper read
  pub formed : Formed read.architecture book choice
  pub is_choice : IsChoice read.architecture choice
  pub no_room : room read choice ≡ refused r

module _ (sheet book : List ℕ) (room : Sheet → List ℕ → Reading Chosen) where
  behind_tests : (r : Refusal) → (read_sheet sheet then λ s. read_book s.architecture book then λ c. room s c) ≡ refused r
      → (read_sheet sheet ≡ refused r) ⊎ (((s : Sheet) × (read_sheet sheet ≡ proper s) × BookRefused s.architecture book r) ⊎ Behind sheet book room r)
  behind_tests r e =
      ⊎_elim (λ q. inl q) (λ h. inr (tables h.0 h.1 (refused_then (read_book h.0.architecture book) _ r h.2))) (refused_then (read_sheet sheet) _ r e)
    where
      tables : (s : Sheet) → read_sheet sheet ≡ proper s
          → (read_book s.architecture book ≡ refused r) ⊎ ((c : List ℕ) × (read_book s.architecture book ≡ proper c) × (room s c ≡ refused r))
          → ((s : Sheet) × (read_sheet sheet ≡ proper s) × BookRefused s.architecture book r) ⊎ Behind sheet book room r
      tables s p (inl q) = inl (s, p, book_refused s.architecture book r q)
      tables s p (inr h) =
          let k = read_choice s.architecture book h.0 h.1 in
          inr record { read = s; choice = h.0; is_proper = p; formed = choice_formed s.architecture book h.0 k.0 k.1; is_choice = k.0; no_room = h.2 }

  tests_book : (s : Sheet) (r : Refusal) → read_sheet sheet ≡ proper s → BookRefused s.architecture book r
      → (read_sheet sheet then λ s. read_book s.architecture book then λ c. room s c) ≡ refused r
  tests_book s r e h = then_read _ e ∙ then_refused _ (refused_book s.architecture book r h)

  tests_room : (s : Sheet) (c : List ℕ) → read_sheet sheet ≡ proper s → Formed s.architecture book c → IsChoice s.architecture c
      → (read_sheet sheet then λ s. read_book s.architecture book then λ c. room s c) ≡ room s c
  tests_room s c e f choice = then_read _ e ∙ then_read _ (choice_read s.architecture book c choice f.is_book)

-- 9
room_tests : (s : Sheet) (c ann : List ℕ) (r : Refusal) → room_for s c ann ≡ refused r → (length ann < vertices s) × (AnnotationBufferTooShort ≡ r)
unfolding room_for annotation_short
room_tests s c ann r e = ⊎_elim
    (λ h. (ltb-true _ _ h.0, h.1))
    (λ h. absurd (refused≢proper r _ (sym h.1)))
    (refused_when AnnotationBufferTooShort (annotation_short s ann) _ r e)

tests_room_for : (s : Sheet) (c ann : List ℕ) → length ann < vertices s → room_for s c ann ≡ refused AnnotationBufferTooShort
unfolding room_for annotation_short
tests_room_for s c ann l = stop AnnotationBufferTooShort _ (lt-ltb _ _ l)

judge_tests : (sheet book ann : List ℕ) (r : Refusal) → book_and_room sheet book ann ≡ refused r → JudgeRefused sheet book ann r
unfolding book_and_room book_for
judge_tests sheet book ann r e = ⊎_elim
    (λ q. JudgeRefused.by_sheet r q)
    (λ o. ⊎_elim (λ q. JudgeRefused.by_book q.0 r q.1 q.2) short o)
    (behind_tests sheet book (λ s c. room_for s c ann) r e)
  where
    short : Behind sheet book (λ s c. room_for s c ann) r → JudgeRefused sheet book ann r
    short k =
        let h = room_tests k.read k.choice ann r k.no_room in
        subst (JudgeRefused sheet book ann) h.1 (JudgeRefused.short_annotation k.read k.choice k.is_proper k.formed k.is_choice h.0)

tests_judge : (sheet book ann : List ℕ) (r : Refusal) → JudgeRefused sheet book ann r → book_and_room sheet book ann ≡ refused r
unfolding book_and_room book_for
tests_judge sheet book ann r (JudgeRefused.by_sheet q e) = then_refused _ e
tests_judge sheet book ann r (JudgeRefused.by_book s q e h) = tests_book sheet book (λ s c. room_for s c ann) s r e h
tests_judge sheet book ann r (JudgeRefused.short_annotation s c e f choice l) = tests_room sheet book (λ s c. room_for s c ann) s c e f choice ∙ tests_room_for s c ann l

-- ---- annotate: 13, then 9
annotate_tests : (sheet book ann path : List ℕ) (r : Refusal) → book_and_rooms sheet book ann path ≡ refused r → AnnotateRefused sheet book ann path r
unfolding book_and_rooms book_and_rooms_for rooms_for path_short
annotate_tests sheet book ann path r e = ⊎_elim
    (λ q. AnnotateRefused.by_sheet r q)
    (λ o. ⊎_elim (λ q. AnnotateRefused.by_book q.0 r q.1 q.2) (λ k. short k (refused_when PathBufferTooShort (path_short k.read path) _ r k.no_room)) o)
    (behind_tests sheet book (λ s c. rooms_for s c ann path) r e)
  where
    short : (k : Behind sheet book (λ s c. rooms_for s c ann path) r)
        → ((path_short k.read path ≡ true) × (PathBufferTooShort ≡ r)) ⊎ ((path_short k.read path ≡ false) × (room_for k.read k.choice ann ≡ refused r))
        → AnnotateRefused sheet book ann path r
    short k (inl h) =
        subst (AnnotateRefused sheet book ann path) h.1 (AnnotateRefused.short_path k.read k.choice k.is_proper k.formed k.is_choice (ltb-true _ _ h.0))
    short k (inr h) =
        let n = room_tests k.read k.choice ann r h.1 in
        subst (AnnotateRefused sheet book ann path) n.1
        (AnnotateRefused.short_annotation k.read k.choice k.is_proper k.formed k.is_choice (ltb-false _ _ h.0) n.0)

tests_annotate : (sheet book ann path : List ℕ) (r : Refusal) → AnnotateRefused sheet book ann path r → book_and_rooms sheet book ann path ≡ refused r
unfolding book_and_rooms book_and_rooms_for rooms_for path_short
tests_annotate sheet book ann path r (AnnotateRefused.by_sheet q e) = then_refused _ e
tests_annotate sheet book ann path r (AnnotateRefused.by_book s q e h) = tests_book sheet book (λ s c. rooms_for s c ann path) s r e h
tests_annotate sheet book ann path r (AnnotateRefused.short_path s c e f choice l) =
    tests_room sheet book (λ s c. rooms_for s c ann path) s c e f choice ∙ stop PathBufferTooShort _ (lt-ltb _ _ l)
tests_annotate sheet book ann path r (AnnotateRefused.short_annotation s c e f choice l n) =
    tests_room sheet book (λ s c. rooms_for s c ann path) s c e f choice ∙ go PathBufferTooShort _ (le-ltb _ _ l) ∙ tests_room_for s c ann n

-- ---- write: 11, then 8
write_tests : (sheet tables book : List ℕ) (r : Refusal) → written sheet tables book ≡ refused r → WriteRefused sheet tables book r
unfolding written written_for book_short
write_tests sheet tables book r e = ⊎_elim (λ q. WriteRefused.by_sheet r q) (λ h. fitting h.0 h.1 (refused_when BadEntry _ _ r h.2)) (refused_then (read_sheet sheet) _ r e)
  where
    short : (s : Sheet) → read_sheet sheet ≡ proper s → IsChoice s.architecture (chosen s.architecture tables)
        → ((book_short s.architecture book ≡ true) × (BufferTooShort ≡ r)) ⊎ ((book_short s.architecture book ≡ false) × (proper (book_of s.architecture tables) ≡ refused r))
        → WriteRefused sheet tables book r
    short s p choice (inl h) = subst (WriteRefused sheet tables book) h.1 (WriteRefused.short_book s p choice (ltb-true _ _ h.0))
    short s p choice (inr h) = absurd (refused≢proper r _ (sym h.1))

    misfit : (s : Sheet) → entry_fault s.architecture tables ≡ true → ¬ IsChoice s.architecture (chosen s.architecture tables)
    misfit s t choice = true≢false (sym t ∙ chosen_faultless s.architecture tables choice)

    fitting : (s : Sheet) → read_sheet sheet ≡ proper s
        → ((entry_fault s.architecture tables ≡ true) × (BadEntry ≡ r)) ⊎ ((entry_fault s.architecture tables ≡ false)
        × (refuse◌when◌else◌ BufferTooShort (book_short s.architecture book) (proper (book_of s.architecture tables)) ≡ refused r)) → WriteRefused sheet tables book r
    fitting s p (inl h) = subst (WriteRefused sheet tables book) h.1 (WriteRefused.no_choice s p (misfit s h.0))
    fitting s p (inr h) = short s p (faultless_chosen s.architecture tables h.0) (refused_when BufferTooShort _ _ r h.1)

tests_write : (sheet tables book : List ℕ) (r : Refusal) → WriteRefused sheet tables book r → written sheet tables book ≡ refused r
unfolding written written_for book_short
tests_write sheet tables book r (WriteRefused.by_sheet q e) = then_refused _ e
tests_write sheet tables book r (WriteRefused.no_choice s e n) = then_read _ e ∙ stop BadEntry _ (chosen_faulty s.architecture tables n)
tests_write sheet tables book r (WriteRefused.short_book s e choice l) =
    then_read _ e ∙ go BadEntry _ (chosen_faultless s.architecture tables choice) ∙ stop BufferTooShort _ (lt-ltb _ _ l)

-- ---- read: 10, 11
read_tests : (sheet book : List ℕ) (r : Refusal) → (read_sheet sheet then λ s. read_book s.architecture book) ≡ refused r → ReadRefused sheet book r
read_tests sheet book r e =
    ⊎_elim (λ q. ReadRefused.by_sheet r q) (λ h. ReadRefused.by_book h.0 r h.1 (book_refused h.0.architecture book r h.2)) (refused_then (read_sheet sheet) _ r e)

tests_read : (sheet book : List ℕ) (r : Refusal) → ReadRefused sheet book r → (read_sheet sheet then λ s. read_book s.architecture book) ≡ refused r
tests_read sheet book r (ReadRefused.by_sheet q e) = then_refused _ e
tests_read sheet book r (ReadRefused.by_book s q e h) = then_read _ e ∙ refused_book s.architecture book r h

-- ---- part: 12, then 10, 11
part_tests : (sheet book : List ℕ) (i : ℕ) (r : Refusal) → part_architecture sheet book i ≡ refused r → PartRefused sheet book i r
unfolding part_architecture part_for no_process
part_tests sheet book i r e = ⊎_elim (λ q. PartRefused.by_sheet r q) (λ h. known h.0 h.1 (refused_when NoSuchProcess _ _ r h.2)) (refused_then (read_sheet sheet) _ r e)
  where
    tables : (s : Sheet) → read_sheet sheet ≡ proper s → i < length s.architecture.processes
        → (read_book s.architecture book ≡ refused r) ⊎ ((c : List ℕ) × (read_book s.architecture book ≡ proper c) × (proper s.architecture ≡ refused r)) → PartRefused sheet book i r
    tables s p l (inl q) = PartRefused.by_book s r p l (book_refused s.architecture book r q)
    tables s p l (inr h) = absurd (refused≢proper r _ (sym h.2))

    known : (s : Sheet) → read_sheet sheet ≡ proper s
        → ((no_process s.architecture i ≡ true) × (NoSuchProcess ≡ r)) ⊎ ((no_process s.architecture i ≡ false)
        × ((read_book s.architecture book then λ c. proper s.architecture) ≡ refused r)) → PartRefused sheet book i r
    known s p (inl h) = subst (PartRefused sheet book i) h.1 (PartRefused.no_such_process s p (leb-true _ _ h.0))
    known s p (inr h) = tables s p (leb-false _ _ h.0) (refused_then (read_book s.architecture book) _ r h.1)

tests_part : (sheet book : List ℕ) (i : ℕ) (r : Refusal) → PartRefused sheet book i r → part_architecture sheet book i ≡ refused r
unfolding part_architecture part_for no_process
tests_part sheet book i r (PartRefused.by_sheet q e) = then_refused _ e
tests_part sheet book i r (PartRefused.no_such_process s e l) = then_read _ e ∙ stop NoSuchProcess _ (le-leb _ _ l)
tests_part sheet book i r (PartRefused.by_book s q e l h) = then_read _ e ∙ go NoSuchProcess _ (lt-leb _ _ l) ∙ then_refused _ (refused_book s.architecture book r h)

-- ---- each call
both : {P Q R : Type 0} → P ↔ Q → (Q → R) → (R → Q) → P ↔ R
both h f g = (λ p. f (h.0 p), λ r. h.1 (g r))

pub find_exactly : (sheet book ann : List ℕ) (r : Refusal) → ((find_of sheet book ann).answer ≡ Err r) ↔ FindRefused sheet book ann r
unfolding find_of
find_exactly sheet book ann r = both (find_answer r (find_sheet sheet book ann) book ann) (find_tests sheet book ann r) (tests_find sheet book ann r)

pub judge_exactly : (sheet book ann : List ℕ) (r : Refusal) → (judge_of sheet book ann ≡ Err r) ↔ JudgeRefused sheet book ann r
unfolding judge_of
judge_exactly sheet book ann r = both (judge_answer r (book_and_room sheet book ann) ann) (judge_tests sheet book ann r) (tests_judge sheet book ann r)

pub annotate_exactly : (sheet book ann path : List ℕ) (r : Refusal) → ((annotate_of sheet book ann path).answer ≡ Err r) ↔ AnnotateRefused sheet book ann path r
unfolding annotate_of
annotate_exactly sheet book ann path r =
    both (annotate_answer r (book_and_rooms sheet book ann path) ann) (annotate_tests sheet book ann path r) (tests_annotate sheet book ann path r)

pub write_exactly : (sheet tables book : List ℕ) (r : Refusal) → ((write_of sheet tables book).answer ≡ Err r) ↔ WriteRefused sheet tables book r
unfolding write_of
write_exactly sheet tables book r = both (write_answer r (written sheet tables book) book) (write_tests sheet tables book r) (tests_write sheet tables book r)

pub read_exactly : (sheet book : List ℕ) (r : Refusal) → ((read_of sheet book).answer ≡ Err r) ↔ ReadRefused sheet book r
unfolding read_of
read_exactly sheet book r = both (read_answer r (read_sheet sheet then λ s. read_book s.architecture book)) (read_tests sheet book r) (tests_read sheet book r)

pub part_exactly : (sheet book : List ℕ) (i : ℕ) (r : Refusal) → ((part_of sheet book i).answer ≡ Err r) ↔ PartRefused sheet book i r
unfolding part_of
part_exactly sheet book i r = both (part_answer r (part_architecture sheet book i) i) (part_tests sheet book i r) (tests_part sheet book i r)
