-- What find left in the buffers of the program, and what it answered.
use mathlib.Core.Path.{◌≡◌, refl, sym, ap, ◌∙◌, subst}
use mathlib.Core.List.{List}
use mathlib.Core.Option.{Option, none, some}
use Prim.Native.Nat.{ℕ, ◌≤◌}
use native.Mathlib.Omega.{arith}
use lib.ListN.{length, take, drop, replicate}
use lib.Seq.{take_at}
use borrow.Author.Tests.{le-ltb}
use Rattle.model.specs.declared.Refusal.{Refusal}
use Rattle.model.specs.declared.Refusal.TheVariants.{BufferTooShort, AnnotationBufferTooShort}
use Rattle.model.specs.Reading as model
use Rattle.model.specs.Sheet.{Architecture, Sheet, ProperSheet}
use Rattle.model.specs.Reading.{refused, proper, read_sheet, refuse◌when◌else◌, ◌then◌}
use Rattle.model.specs.Choice.{entries, IsTables, IsChoice}
use Rattle.model.specs.RunGraph.{vertices}
use Rattle.model.specs.Computed.{annotation, first_choice}
use Rattle.model.specs.Book.{form, book_length, book_of, read_book}
use Rattle.model.specs.Calls.{AfterFind, AfterRead, front, book_short, annotation_short, room_to_find, find_sheet, find_choice, find_in, find_of, tables_of, gave}
use Rattle.model.specs.Numbers.{number}
use Rattle.model.proofs.ProperSheet.{passes, goes_on, sheet_proper}
use Rattle.model.proofs.Sizes.{book_is_short}
use Rattle.model.proofs.BookInverse.{filled_length}
use Rattle.model.proofs.BookRead.{choice_read}
use Rattle.model.proofs.FirstUnique.{found_some}
use Rattle.model.proofs.AnnotationExact.{annotation_whole}
use Rattle.sheet.specs.declared.Sheet as sheets
use Rattle.sheet.specs.Struct.{sheet_of, Arrays, IsProper, reading_of}
use Rattle.sheet.proofs.AnswersOfReading.{read_proper, read_is_proper}
use Rattle.book.specs.Answers.{after_read}
use Rattle.composition.proofs.ChoiceAtFront.{chosen_tables}
use Rattle.model.proofs.RunGraphSteps.{vertices_few}
use Rattle.sizes.proofs.SheetRead.{reading_is, read_ok}
use Rattle.text.specs.Text.{text_of, none_text, refused_text}
use Rattle.text.proofs.TextReads.{text_front}
use Rattle.words.specs.Words.{bytes_of}
use Rattle.find.specs.Printed.{choice_text, sheet_text, printed, book_file, annotation_file, found}
use Rattle.std.specs.Prelude.{Result, Ok, Err, IsOk, IfOk, is_ok}
use Rattle.model.specs.declared.Found.TheVariants.{Nothing}

-- the choice whose book and annotation the buffers have at the front
pub record Chose (s : Sheet) (book ann : List ℕ) : Type 0 where
  pub choice : List ℕ
  pub first : first_choice s ≡ some choice
  pub is_choice : IsChoice s.architecture choice
  pub book_is : take (book_length s.architecture) book ≡ book_of s.architecture choice
  pub annotation_is : take (vertices s) ann ≡ annotation s choice

book_length_lem : (a : Architecture) (c : List ℕ) → length (book_of a c) ≡ book_length a
unfolding book_of book_length
book_length_lem a c = filled_length (form a) c

front_is : (new old : List ℕ) (n : ℕ) → length new ≡ n → take n (front new old) ≡ new
unfolding front
front_is new old n e = take_at new (drop (length new) old) n e

pub chose : (s : Sheet) (old-book old-ann book ann : List ℕ) → ProperSheet s → find_choice s (first_choice s) old-book old-ann ≡ found book ann → Chose s book ann
unfolding find_choice
chose s old-book old-ann book ann g f = by (first_choice s) refl f
  where
    by : (o : Option (List ℕ)) → first_choice s ≡ o → find_choice s o old-book old-ann ≡ found book ann → Chose s book ann
    by none e f = let z = ap (λ (a : AfterFind). a.answer) f in cc
    by (some c) e f = record {
      choice = c;
      first = e;
      is_choice = (found_some s g c e).is_choice;
      book_is = ap (λ (a : AfterFind). take (book_length s.architecture) a.book) (sym f)
          ∙ front_is (book_of s.architecture c) old-book (book_length s.architecture) (book_length_lem s.architecture c);
      annotation_is = ap (λ (a : AfterFind). take (vertices s) a.annotation) (sym f) ∙ front_is (annotation s c) old-ann (vertices s) (annotation_whole s c);
    }

-- ---- what find answers with buffers that are long enough
module _ (b old-book old-ann : List ℕ) (book-room : 338 ≤ length old-book) (ann-room : 4096 ≤ length old-ann) where
  find_proper : (s : Sheet) → read_sheet b ≡ proper s → find_of b old-book old-ann ≡ find_choice s (first_choice s) old-book old-ann
  unfolding find_of find_in find_sheet room_to_find book_short annotation_short ◌then◌ refuse◌when◌else◌
  find_proper s e =
      let g : ProperSheet s = sheet_proper b s e in
      rw (
        e,
        le-ltb (length old-book) (book_length s.architecture) (omega (arith, book_is_short s.architecture g.architecture)),
        le-ltb (length old-ann) (vertices s) (omega (arith, vertices_few s g)),
      )

  find_refused : (q : Refusal) → read_sheet b ≡ refused q → (find_of b old-book old-ann).answer ≡ Err q
  unfolding find_of find_in find_sheet ◌then◌
  find_refused q e = rw e

  pub says_refused : (r : Refusal) → (find_of b old-book old-ann).answer ≡ Err r → printed b ≡ refused_text (number r)
  unfolding printed sheet_text find_choice
  says_refused r f = by (read_sheet b) refl
    where
      never : (s : Sheet) (o : Option (List ℕ)) → ¬ ((find_choice s o old-book old-ann).answer ≡ Err r)
      never s none e = cc
      never s (some c) e = cc

      by : (k : model.Reading Sheet) → read_sheet b ≡ k → sheet_text k ≡ refused_text (number r)
      by (refused q) e =
          let same = sym (find_refused q e) ∙ f in
          let reason : q ≡ r = cc in
          ap (λ (x : Refusal). refused_text (number x)) reason
      by (proper s) e = absurd (never s (first_choice s) (sym (ap (λ (a : AfterFind). a.answer) (find_proper s e)) ∙ f))

  pub says_nothing : (find_of b old-book old-ann).answer ≡ Ok Nothing → printed b ≡ none_text
  unfolding printed sheet_text choice_text find_choice
  says_nothing f = by (read_sheet b) refl
    where
      chosen : (s : Sheet) (o : Option (List ℕ)) → (find_choice s o old-book old-ann).answer ≡ Ok Nothing → choice_text s o ≡ none_text
      chosen s none e = refl
      chosen s (some c) e = cc

      by : (k : model.Reading Sheet) → read_sheet b ≡ k → sheet_text k ≡ none_text
      by (refused q) e = let z = sym (find_refused q e) ∙ f in cc
      by (proper s) e = chosen s (first_choice s) (sym (ap (λ (a : AfterFind). a.answer) (find_proper s e)) ∙ f)

-- ---- the sheet that is read again
not_refused : (b old-book old-ann : List ℕ) (s : Sheet) → find_sheet b old-book old-ann ≡ proper s → read_sheet b ≡ proper s
unfolding find_sheet room_to_find
not_refused b old-book old-ann s e =
    let h₁ = goes_on (read_sheet b) _ e in
    let h₂ = passes BufferTooShort (book_short h₁.0.architecture old-book) _ h₁.2 in
    let h₃ = passes AnnotationBufferTooShort (annotation_short h₁.0 old-ann) _ h₂.1 in
    h₁.1 ∙ h₃.1

-- the sheet that find read, and what it made of it
pub record Reread (b old-book old-ann book ann : List ℕ) (x : sheets.Sheet) : Type 0 where
  pub is_proper : IsProper x
  pub is : read_sheet b ≡ proper (sheet_of x)
  pub finds : find_choice (sheet_of x) (first_choice (sheet_of x)) old-book old-ann ≡ found book ann

module _ (b old-book old-ann book ann : List ℕ) (f : find_of b old-book old-ann ≡ found book ann) where
  was_proper : (s : Sheet) × (read_sheet b ≡ proper s) × (find_choice s (first_choice s) old-book old-ann ≡ found book ann)
  unfolding find_of find_in
  was_proper = by (find_sheet b old-book old-ann) refl f
    where
      by : (k : model.Reading Sheet) → find_sheet b old-book old-ann ≡ k → find_in k old-book old-ann ≡ found book ann
          → (s : Sheet) × (read_sheet b ≡ proper s) × (find_choice s (first_choice s) old-book old-ann ≡ found book ann)
      by (refused q) h f = let z = ap (λ (a : AfterFind). a.answer) f in cc
      by (proper s) h f = (s, not_refused b old-book old-ann s h, f)

  -- it is not refused
  pub reread_ok : (r : Result sheets.Sheet Refusal) → reading_of r ≡ read_sheet b → IsOk r
  reread_ok r e = ap is_ok (read_ok r was_proper.0 (e ∙ was_proper.1)).1

  pub reread : (r : Result sheets.Sheet Refusal) (x : sheets.Sheet) → reading_of r ≡ read_sheet b → IfOk r (λ (y : sheets.Sheet). Arrays y) → r ≡ Ok x → Reread b old-book old-ann book ann x
  reread r x e arrays o =
      let read : reading_of (Ok x) ≡ read_sheet b = subst (λ (q : Result sheets.Sheet Refusal). reading_of q ≡ read_sheet b) o e in
      let same : sheet_of x ≡ was_proper.0 = reading_is x was_proper.0 (read ∙ was_proper.1) in
      record {
        is_proper = read_is_proper b x read (subst (λ (q : Result sheets.Sheet Refusal). IfOk q (λ (y : sheets.Sheet). Arrays y)) o arrays);
        is = read_proper b x read;
        finds = rw same was_proper.2;
      }

-- ---- the book and the annotation of that choice
module _ {s : Sheet} {book ann : List ℕ} (h : Chose s book ann) where
  -- where the book ends
  pub book_whole : (n : ℕ) → n ≡ book_length s.architecture → n ≡ length (take n book)
  book_whole n e = rw e (sym (ap length h.book_is ∙ book_length_lem s.architecture h.choice))

  -- where the annotation ends
  pub annotation_counted : (n : ℕ) → n ≡ vertices s → n ≡ length (take n ann)
  annotation_counted n e = rw e (sym (ap length h.annotation_is ∙ annotation_whole s h.choice))

  -- the files
  pub book_file_lem : (n : ℕ) → n ≡ book_length s.architecture → take n book ≡ book_file s (first_choice s)
  unfolding book_file
  book_file_lem n e = rw (h.first, e) h.book_is

  pub annotation_file_lem : (n : ℕ) → n ≡ vertices s → bytes_of (take n ann) ≡ annotation_file s (first_choice s)
  unfolding annotation_file
  annotation_file_lem n e = rw (h.first, e) (ap bytes_of h.annotation_is)

  -- the tables that are read back
  module _ (n : ℕ) (e : n ≡ book_length s.architecture) (r : Result (List ℕ) Refusal) (q : after_read r ≡ gave (read_book s.architecture (take n book))) where
    read_back : r ≡ Ok (tables_of h.choice)
    unfolding gave
    read_back =
        let same : take n book ≡ book_of s.architecture h.choice = ap (λ (k : ℕ). take k book) e ∙ h.book_is in
        by r (q ∙ ap gave (choice_read s.architecture (take n book) h.choice h.is_choice (sym same)))
      where
        by : (r : Result (List ℕ) Refusal) → after_read r ≡ gave (proper h.choice) → r ≡ Ok (tables_of h.choice)
        by (Ok t) e = ap (λ (y : AfterRead). Ok y.tables) e
        by (Err q) e = let z = ap (λ (y : AfterRead). y.answer) e in cc

    pub tables_ok : IsOk r
    tables_ok = ap is_ok read_back

    module _ (t : List ℕ) (o : r ≡ Ok t) where
      tables_are : t ≡ tables_of h.choice
      tables_are = cc read_back

      pub are_tables : IsTables s.architecture (take (length (entries s.architecture)) t)
      are_tables = rw tables_are (subst (IsTables s.architecture) (sym (chosen_tables s.architecture h.choice h.is_choice.tables)) h.is_choice.tables)

      pub text_is : (v : ℕ) → v ≡ vertices s → text_of s.architecture t (take v ann) ≡ choice_text s (first_choice s)
      unfolding choice_text tables_of front
      text_is v ev =
          rw (tables_are, ev, h.annotation_is, h.first) (text_front h.choice (drop (length h.choice) (replicate 272 0)) s.architecture (annotation s h.choice) h.is_choice.tables)
