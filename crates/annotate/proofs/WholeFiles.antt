-- The program reads the first 434 bytes of a sheet and 339 of a book: what it prints for them is the text for the whole files.
use mathlib.Core.Path.{◌≡◌, refl, sym, ap, subst, ◌∙◌}
use mathlib.Core.List.{List}
use Prim.Native.Nat.{ℕ}
use lib.ListN.{take}
use Rattle.model.specs.Sheet.{Sheet}
use Rattle.model.specs.Reading.{Reading, refused, proper, ◌then◌, read_sheet}
use Rattle.model.specs.Book.{read_book}
use Rattle.model.specs.Calls.{Chosen, AfterPath, PathFor, AnnotatePath}
use Rattle.model.proofs.Prefix.{read_prefix}
use Rattle.model.proofs.ProperSheet.{sheet_proper}
use Rattle.sizes.proofs.BookFront.{book_front}
use Rattle.annotate.specs.Printed.{chosen_in, chosen_text, printed, annotation₀, path₀}
use Rattle.annotate.proofs.AnnotatedBuffer.{chosen_is}

choice_of : List ℕ → Sheet → Reading Chosen
choice_of book s = read_book s.architecture book then λ c. proper record { sheet = s; choice = c }

chosen_front : (sheet book : List ℕ) → chosen_in (take 434 sheet) (take 339 book) ≡ chosen_in sheet book
unfolding chosen_in choice_of ◌then◌
chosen_front sheet book = ap (λ (k : Reading Sheet). k then choice_of (take 339 book)) (read_prefix sheet) ∙ by (read_sheet sheet) refl
  where
    by : (k : Reading Sheet) → read_sheet sheet ≡ k → (k then choice_of (take 339 book)) ≡ (k then choice_of book)
    by (refused r) e = refl
    by (proper s) e = rw (book_front s.architecture book (sheet_proper sheet s e).architecture)

pub whole_files : (sheet book : List ℕ) (after : AfterPath) → printed (take 434 sheet) (take 339 book) after ≡ printed sheet book after
unfolding printed
whole_files sheet book after = ap (λ (k : Reading Chosen). chosen_text k after) (chosen_front sheet book)

-- and the run in it is one that annotate may write for the whole files
pub whole_path : (sheet book : List ℕ) (after : AfterPath) → AnnotatePath (take 434 sheet) (take 339 book) annotation₀ path₀ after → AnnotatePath sheet book annotation₀ path₀ after
unfolding AnnotatePath
whole_path sheet book after p =
    subst (λ (k : Reading Chosen). PathFor k path₀ after) (chosen_is (take 434 sheet) (take 339 book) ∙ chosen_front sheet book ∙ sym (chosen_is sheet book)) p
