-- The program reads the first 434 bytes of a sheet, 339 of a book and 8,192 of an annotation: what it prints for them is the text for the whole files. A book
-- that is longer than 338 bytes is refused either way, and a judge looks at no number behind those of the vertices, which are at most 4,096.
use mathlib.Core.Path.{◌≡◌, refl, sym, ap, ◌∙◌}
use mathlib.Core.Bool.{Bool, true, false}
use mathlib.Core.List.{List}
use Prim.Native.Nat.{ℕ, ◌<◌}
use native.Mathlib.Omega.{arith}
use lib.ListN.{length, get_or, take, length-take}
use lib.Seq.{get_or-take}
use borrow.Author.Tests.{ltb-true, lt-ltb}
use Rattle.model.specs.declared.Refusal.TheVariants.{AnnotationBufferTooShort}
use Rattle.model.specs.declared.Finding.TheVariants.{Yes, No}
use Rattle.model.specs.Mask.{if}
use Rattle.model.specs.Sheet.{Sheet, ProperSheet}
use Rattle.model.specs.Reading.{Reading, refused, proper, ◌then◌, read_sheet, refuse◌when◌else◌}
use Rattle.model.specs.Choice.{IsTables}
use Rattle.model.specs.RunGraph.{vertices, blank}
use Rattle.model.specs.Computed.{valid}
use Rattle.model.specs.Book.{read_book}
use Rattle.model.specs.Calls.{annotation_short, room_for, book_for, book_and_room, judged, judge_of}
use Rattle.model.proofs.Prefix.{read_prefix}
use Rattle.model.proofs.ProperSheet.{sheet_proper}
use Rattle.model.proofs.BookRead.{read_choice}
use Rattle.model.proofs.ComputedTests.{valid_exactly}
use Rattle.model.proofs.AnnotationPasses.{same_valid}
use Rattle.model.proofs.RunGraphSteps.{vertices_few}
use Rattle.sizes.proofs.BookFront.{book_front}
use Rattle.words.specs.Words.{words_of}
use Rattle.words.proofs.WordLaws.{words_front}
use Rattle.judge.specs.Printed.{verdict_text, printed}
use Rattle.std.specs.Prelude.{Ok}

-- ---- the annotation
-- two tests that pass together
both : (t u : Bool) → (t ≡ true → u ≡ true) → (u ≡ true → t ≡ true) → t ≡ u
both true u f g = sym (f refl)
both false true f g = g refl
both false false f g = refl

module _ (s : Sheet) (c ann : List ℕ) (good : ProperSheet s) (choice : IsTables s.architecture c) where
  same : (v : ℕ) → v < vertices s → get_or (take 4096 ann) v blank ≡ get_or ann v blank
  same v h = get_or-take 4096 ann v blank (omega (arith, vertices_few s good))

  valid_front : valid s c (take 4096 ann) ≡ valid s c ann
  valid_front =
      let right = valid_exactly s c good choice in
      both _ _
      (λ e. (right ann).1 (same_valid s c good choice (λ v. get_or (take 4096 ann) v blank) (λ v. get_or ann v blank) same ((right (take 4096 ann)).0 e)))
      (λ e. (right (take 4096 ann)).1 (same_valid s c good choice (λ v. get_or ann v blank) (λ v. get_or (take 4096 ann) v blank) (λ v h. sym (same v h)) ((right ann).0 e)))

  short_front : annotation_short s (take 4096 ann) ≡ annotation_short s ann
  unfolding annotation_short
  short_front =
      both _ _
      (λ e. lt-ltb (length ann) (vertices s) (omega (arith, ltb-true (length (take 4096 ann)) (vertices s) e, length-take 4096 ann, vertices_few s good)))
      (λ e. lt-ltb (length (take 4096 ann)) (vertices s) (omega (arith, ltb-true (length ann) (vertices s) e, length-take 4096 ann)))

  room_front : judged (room_for s c (take 4096 ann)) (take 4096 ann) ≡ judged (room_for s c ann) ann
  unfolding room_for judged refuse◌when◌else◌
  room_front =
      ap (λ (t : Bool). judged (refuse◌when◌else◌ AnnotationBufferTooShort t (proper record { sheet = s; choice = c })) (take 4096 ann)) short_front
      ∙ by (annotation_short s ann)
    where
      by : (t : Bool) → judged (refuse◌when◌else◌ AnnotationBufferTooShort t (proper record { sheet = s; choice = c })) (take 4096 ann)
          ≡ judged (refuse◌when◌else◌ AnnotationBufferTooShort t (proper record { sheet = s; choice = c })) ann
      by true = refl
      by false = ap (λ (t : Bool). Ok (if t Yes No)) valid_front

-- ---- all three
judge_front : (s : Sheet) (b ann : List ℕ) → ProperSheet s → judged (book_for s (take 339 b) (take 4096 ann)) (take 4096 ann) ≡ judged (book_for s b ann) ann
unfolding book_for judged ◌then◌
judge_front s b ann good = rw (book_front s.architecture b good.architecture) (by (read_book s.architecture b) refl)
  where
    by : (k : Reading (List ℕ)) → read_book s.architecture b ≡ k
        → judged (k then λ c. room_for s c (take 4096 ann)) (take 4096 ann) ≡ judged (k then λ c. room_for s c ann) ann
    by (refused r) e = refl
    by (proper c) e = room_front s c ann good (read_choice s.architecture b c e).0.tables

judge_files : (sheet book ann : List ℕ) → judge_of (take 434 sheet) (take 339 book) (take 4096 ann) ≡ judge_of sheet book ann
unfolding judge_of book_and_room judged ◌then◌
judge_files sheet book ann = rw (read_prefix sheet) (by (read_sheet sheet) refl)
  where
    by : (k : Reading Sheet) → read_sheet sheet ≡ k
        → judged (k then λ s. book_for s (take 339 book) (take 4096 ann)) (take 4096 ann) ≡ judged (k then λ s. book_for s book ann) ann
    by (refused r) e = refl
    by (proper s) e = judge_front s book ann (sheet_proper sheet s e)

pub whole_files : (sheet book annotation : List ℕ) → printed (take 434 sheet) (take 339 book) (take 8192 annotation) ≡ printed sheet book annotation
unfolding printed
whole_files sheet book annotation = rw (words_front 4096 annotation) (ap verdict_text (judge_files sheet book (words_of annotation)))
