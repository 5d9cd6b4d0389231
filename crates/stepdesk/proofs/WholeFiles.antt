-- The program reads the first 434 bytes of a sheet and 339 of a book: what it prints for them is the text for the whole files.
use mathlib.Core.Path.{◌≡◌, refl, ap, ap₂, ◌∙◌}
use mathlib.Core.List.{List}
use Prim.Native.Nat.{ℕ}
use lib.ListN.{take}
use Rattle.model.specs.declared.Desk.{Desk}
use Rattle.model.specs.Sheet.{Sheet}
use Rattle.model.specs.Reading.{Reading, refused, proper, ◌then◌, read_sheet}
use Rattle.model.specs.Book.{read_book}
use Rattle.model.specs.Desk.{AfterStep, choice_for, step_when_read, step_of}
use Rattle.model.proofs.Prefix.{read_prefix}
use Rattle.model.proofs.ProperSheet.{sheet_proper}
use Rattle.sizes.proofs.BookFront.{book_front}
use Rattle.text.specs.Text.{text_or_refused}
use Rattle.stepping.specs.Lines.{start_text}
use Rattle.stepdesk.specs.Printed.{opening, line_by, line_for}

module _ (sheet book : List ℕ) where
  start_of : List ℕ → Sheet → Reading (List ℕ)
  start_of book s = read_book s.architecture book then λ c. proper (start_text s.architecture c)

  pub whole_files : opening (take 434 sheet) (take 339 book) ≡ opening sheet book
  unfolding opening start_of ◌then◌
  whole_files = ap (λ (m : Reading Sheet). text_or_refused (m then start_of (take 339 book))) (read_prefix sheet) ∙ by (read_sheet sheet) refl
    where
      by : (m : Reading Sheet) → read_sheet sheet ≡ m → text_or_refused (m then start_of (take 339 book)) ≡ text_or_refused (m then start_of book)
      by (refused r) e = refl
      by (proper s) e = rw (book_front s.architecture book (sheet_proper sheet s e).architecture)

  -- a step, and its line
  step_front : (k : Desk) (d : ℕ) → step_of (take 434 sheet) (take 339 book) k d ≡ step_of sheet book k d
  unfolding step_of step_when_read choice_for
  step_front k d = ap (λ (m : Reading Sheet). step_when_read m (take 339 book) k d) (read_prefix sheet) ∙ by (read_sheet sheet) refl
    where
      by : (m : Reading Sheet) → read_sheet sheet ≡ m → step_when_read m (take 339 book) k d ≡ step_when_read m book k d
      by (refused r) e = refl
      by (proper s) e = rw (book_front s.architecture book (sheet_proper sheet s e).architecture)

  pub whole_lines : (k : Desk) (d : ℕ) → line_for (take 434 sheet) (take 339 book) k d ≡ line_for sheet book k d
  unfolding line_for
  whole_lines k d = ap₂ (λ (m : Reading Sheet) (x : AfterStep). line_by m d x) (read_prefix sheet) (step_front k d)
