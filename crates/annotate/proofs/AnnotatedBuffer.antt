-- What annotate left in the buffers of the program, and what it answered.
use mathlib.Core.Path.{◌≡◌, refl, sym, ap, subst, ◌∙◌}
use mathlib.Core.Bool.{Bool, true, false}
use mathlib.Core.List.{List}
use Prim.Native.Nat.{ℕ, ◌*◌}
use native.Mathlib.Omega.{arith}
use lib.ListN.{length, take, drop, length-replicate}
use lib.Seq.{take_at}
use borrow.Author.Tests.{le-ltb}
use Rattle.model.specs.declared.Refusal.{Refusal}
use Rattle.model.specs.declared.Refusal.TheVariants.{AnnotationBufferTooShort, PathBufferTooShort}
use Rattle.model.specs.declared.Finding.TheVariants.{Yes, No}
use Rattle.model.specs.Mask.{if}
use Rattle.model.specs.Reading as model
use Rattle.model.specs.Sheet.{Sheet}
use Rattle.model.specs.Reading.{refused, proper, ◌then◌, read_sheet}
use Rattle.model.specs.RunGraph.{vertices}
use Rattle.model.specs.Computed.{loops, annotation}
use Rattle.model.specs.Book.{read_book}
use Rattle.model.specs.Calls.{Chosen, AfterAnnotate, AfterPath, front, annotation_short, path_short, room_for, rooms_for, book_and_rooms_for, book_and_rooms, annotated_by, annotated, annotate_of}
use Rattle.model.specs.Calls.{WritesLasso, PathBy, PathFor, AnnotatePath}
use Rattle.model.specs.Numbers.{number}
use Rattle.model.proofs.ProperSheet.{goes_on, same_proper, sheet_proper}
use Rattle.model.proofs.Refusing.{go}
use Rattle.model.proofs.AnnotationExact.{annotation_whole}
use Rattle.sheet.specs.declared.Sheet as sheets
use Rattle.sheet.specs.Struct.{sheet_of, Arrays, IsProper, reading_of}
use Rattle.sheet.proofs.AnswersOfReading.{read_is_proper}
use Rattle.model.proofs.RunGraphSteps.{vertices_few}
use Rattle.sizes.proofs.SheetRead.{read_ok}
use Rattle.text.specs.Text.{greatest_text, refused_text}
use Rattle.words.specs.Words.{bytes_of}
use Rattle.annotate.specs.Printed.{chosen_in, path_text, chosen_text, chosen_file, printed, annotation₀, path₀, left}
use Rattle.annotate.proofs.ZerosBehind.{text_front}
use Rattle.std.specs.Prelude.{Result, Ok, Err, IsOk, IfOk, is_ok}
use Rattle.model.specs.declared.Finding.{Finding}

-- annotate left this, as its two promises say
pub left_so : (x : AfterAnnotate) (v : Result Finding Refusal) (ann : List ℕ) → v ≡ x.answer → ann ≡ x.annotation → x ≡ left v ann
left_so x v ann e ea = rw (e, ea)

-- ---- the sheet and the choice that were read
pub record IsRead (sheet book : List ℕ) (x : Chosen) : Type 0 where
  pub sheet_is : read_sheet sheet ≡ proper x.sheet
  pub book_is : read_book x.sheet.architecture book ≡ proper x.choice

choice_of : (book : List ℕ) → Sheet → model.Reading Chosen
choice_of book s = read_book s.architecture book then λ c. proper record { sheet = s; choice = c }

pub chosen_read : (sheet book : List ℕ) (x : Chosen) → chosen_in sheet book ≡ proper x → IsRead sheet book x
unfolding chosen_in choice_of
chosen_read sheet book x e =
    let h₁ = goes_on (read_sheet sheet) (choice_of book) e in
    let h₂ = goes_on (read_book h₁.0.architecture book) _ h₁.2 in
    subst (IsRead sheet book) (same_proper _ x h₂.2) record { sheet_is = h₁.1; book_is = h₂.1 }

-- ---- there is room for every annotation and every run
rooms_are : (s : Sheet) (c : List ℕ) (b : List ℕ) → read_sheet b ≡ proper s → rooms_for s c annotation₀ path₀ ≡ proper record { sheet = s; choice = c }
unfolding rooms_for path_short room_for annotation_short
rooms_are s c b e =
    let few = vertices_few s (sheet_proper b s e) in
    go PathBufferTooShort _ (le-ltb (length path₀) (4 * vertices s) (omega (arith, length-replicate {A = ℕ} 16384 0)))
    ∙ go AnnotationBufferTooShort _ (le-ltb (length annotation₀) (vertices s) (omega (arith, length-replicate {A = ℕ} 4096 0)))

pub chosen_is : (sheet book : List ℕ) → book_and_rooms sheet book annotation₀ path₀ ≡ chosen_in sheet book
unfolding book_and_rooms book_and_rooms_for chosen_in ◌then◌
chosen_is sheet book = by (read_sheet sheet) refl
  where
    inner : (s : Sheet) → read_sheet sheet ≡ proper s → (k : model.Reading (List ℕ))
        → (k then λ c. rooms_for s c annotation₀ path₀) ≡ (k then λ c. proper record { sheet = s; choice = c })
    inner s e (refused r) = refl
    inner s e (proper c) = rooms_are s c sheet e

    by : (k : model.Reading Sheet) → read_sheet sheet ≡ k
        → (k then λ s. book_and_rooms_for s book annotation₀ path₀) ≡ (k then λ s. (read_book s.architecture book then λ c. proper record { sheet = s; choice = c }))
    by (refused r) e = refl
    by (proper s) e = inner s e (read_book s.architecture book)

module _ (sheet book : List ℕ) where
  answers : annotate_of sheet book annotation₀ path₀ ≡ annotated (chosen_in sheet book) annotation₀
  unfolding annotate_of
  answers = ap (λ (k : model.Reading Chosen). annotated k annotation₀) (chosen_is sheet book)

  -- a refusal has its text
  pub says_refused : (r : Refusal) (after : AfterPath) → (annotate_of sheet book annotation₀ path₀).answer ≡ Err r → printed sheet book after ≡ refused_text (number r)
  unfolding printed chosen_text annotated annotated_by
  says_refused r after e = by (chosen_in sheet book) (ap (λ (x : AfterAnnotate). x.answer) (sym answers) ∙ e)
    where
      never : (x : Chosen) (t : Bool) → ¬ ((annotated_by x t annotation₀).answer ≡ Err r)
      never x true e = cc
      never x false e = cc

      by : (k : model.Reading Chosen) → (annotated k annotation₀).answer ≡ Err r → chosen_text k after ≡ refused_text (number r)
      by (refused q) e = let same : q ≡ r = cc in ap (λ (x : Refusal). refused_text (number x)) same
      by (proper x) e = absurd (never x (loops x.sheet x.choice) e)

-- ---- a run was left
pub record Looped (sheet book : List ℕ) (after : AfterPath) : Type 0 where
  pub chosen : Chosen
  pub is : chosen_in sheet book ≡ proper chosen
  pub text : printed sheet book after ≡ path_text chosen after
  pub lasso : WritesLasso chosen path₀ after

-- it is a lasso of the sheet and the choice
pub was_looped : (sheet book : List ℕ) (after : AfterPath) → (annotate_of sheet book annotation₀ path₀).answer ≡ Ok No → AnnotatePath sheet book annotation₀ path₀ after
    → Looped sheet book after
unfolding printed chosen_text annotated annotated_by AnnotatePath PathFor PathBy if
was_looped sheet book after e p =
    by (chosen_in sheet book) refl (ap (λ (x : AfterAnnotate). x.answer) (sym (answers sheet book)) ∙ e) (subst (λ (k : model.Reading Chosen). PathFor k path₀ after) (chosen_is sheet book) p)
  where
    inner : (x : Chosen) (t : Bool) → chosen_in sheet book ≡ proper x → loops x.sheet x.choice ≡ t → (annotated_by x t annotation₀).answer ≡ Ok No → PathBy x t path₀ after
        → Looped sheet book after
    inner x true is l e p = record { chosen = x; is = is; text = ap (λ (k : model.Reading Chosen). chosen_text k after) is ∙ rw l; lasso = p }
    inner x false is l e p = cc

    by : (k : model.Reading Chosen) → chosen_in sheet book ≡ k → (annotated k annotation₀).answer ≡ Ok No → PathFor k path₀ after → Looped sheet book after
    by (refused q) is e p = cc
    by (proper x) is e p = inner x (loops x.sheet x.choice) is refl e p

-- ---- an annotation was left
pub record Annotated (sheet book ann : List ℕ) : Type 0 where
  pub chosen : Chosen
  pub is : chosen_in sheet book ≡ proper chosen
  pub text : (after : AfterPath) → chosen_text (proper chosen) after ≡ greatest_text (annotation chosen.sheet chosen.choice)
  pub left_is : ann ≡ front (annotation chosen.sheet chosen.choice) annotation₀

pub was_annotated : (sheet book ann : List ℕ) → annotate_of sheet book annotation₀ path₀ ≡ left (Ok Yes) ann → Annotated sheet book ann
unfolding chosen_text annotated annotated_by if
was_annotated sheet book ann e = by (chosen_in sheet book) refl (sym (answers sheet book) ∙ e)
  where
    inner : (x : Chosen) (t : Bool) → chosen_in sheet book ≡ proper x → loops x.sheet x.choice ≡ t → annotated_by x t annotation₀ ≡ left (Ok Yes) ann → Annotated sheet book ann
    inner x true is l e = let z = ap (λ (y : AfterAnnotate). y.answer) e in cc
    inner x false is l e = record {
      chosen = x;
      is = is;
      text = λ after. rw l;
      left_is = sym (ap (λ (y : AfterAnnotate). y.annotation) e);
    }

    by : (k : model.Reading Chosen) → chosen_in sheet book ≡ k → annotated k annotation₀ ≡ left (Ok Yes) ann → Annotated sheet book ann
    by (refused q) is e = let z = ap (λ (y : AfterAnnotate). y.answer) e in cc
    by (proper x) is e = inner x (loops x.sheet x.choice) is refl e

-- the text is that of the buffer
pub says_greatest : (sheet book ann : List ℕ) (after : AfterPath) → annotate_of sheet book annotation₀ path₀ ≡ left (Ok Yes) ann → printed sheet book after ≡ greatest_text ann
unfolding printed
says_greatest sheet book ann after e =
    let a = was_annotated sheet book ann e in
    ap (λ (k : model.Reading Chosen). chosen_text k after) a.is
    ∙ a.text after
    ∙ sym (text_front (annotation a.chosen.sheet a.chosen.choice)) ∙ ap greatest_text (sym a.left_is)

-- ---- a sheet that is read again
module _ (b : List ℕ) (r : Result sheets.Sheet Refusal) (q : reading_of r ≡ read_sheet b) where
  -- what is proper is not refused
  pub again_ok : (s : Sheet) → read_sheet b ≡ proper s → IsOk r
  again_ok s e = ap is_ok (read_ok r s (q ∙ e)).1

  module _ (arrays : IfOk r (λ (y : sheets.Sheet). Arrays y)) (x : sheets.Sheet) (o : r ≡ Ok x) where
    read : reading_of (Ok x) ≡ read_sheet b
    read = subst (λ (k : Result sheets.Sheet Refusal). reading_of k ≡ read_sheet b) o q

    pub again_is : read_sheet b ≡ proper (sheet_of x)
    again_is = sym read

    pub again_proper : IsProper x
    again_proper = read_is_proper b x read (subst (λ (k : Result sheets.Sheet Refusal). IfOk k (λ (y : sheets.Sheet). Arrays y)) o arrays)

-- ---- the file of an annotation
taken : (s : Sheet) (c : List ℕ) (n : ℕ) → n ≡ vertices s → take n (front (annotation s c) annotation₀) ≡ annotation s c
unfolding front
taken s c n e = take_at (annotation s c) (drop (length (annotation s c)) annotation₀) n (annotation_whole s c ∙ sym e)

module _ (sheet book ann : List ℕ) (e : annotate_of sheet book annotation₀ path₀ ≡ left (Ok Yes) ann) where
  annotated_so : Annotated sheet book ann
  annotated_so = was_annotated sheet book ann e

  sheet_is : read_sheet sheet ≡ proper annotated_so.chosen.sheet
  sheet_is = (chosen_read sheet book annotated_so.chosen annotated_so.is).sheet_is

  -- the sheet is not refused
  pub sheet_ok : (r : Result sheets.Sheet Refusal) → reading_of r ≡ read_sheet sheet → IsOk r
  sheet_ok r q = again_ok sheet r q _ sheet_is

  module _ (s : Sheet) (is : read_sheet sheet ≡ proper s) (n : ℕ) (l : n ≡ vertices s) where
    whole : n ≡ vertices annotated_so.chosen.sheet
    whole = l ∙ ap vertices (same_proper _ _ (sym is ∙ sheet_is))

    at_front : take n ann ≡ annotation annotated_so.chosen.sheet annotated_so.chosen.choice
    at_front = ap (λ (a : List ℕ). take n a) annotated_so.left_is ∙ taken _ _ n whole

    pub counted : n ≡ length (take n ann)
    counted = whole ∙ sym (annotation_whole annotated_so.chosen.sheet annotated_so.chosen.choice) ∙ ap length (sym at_front)

    pub file : bytes_of (take n ann) ≡ chosen_file (chosen_in sheet book)
    unfolding chosen_file
    file = ap bytes_of at_front ∙ ap chosen_file (sym annotated_so.is)
