-- The program reads the first 434 bytes of a sheet and 339 of a book: what it prints for them is the text for the whole files.
use mathlib.Core.Path.{◌≡◌, refl, ap, ◌∙◌}
use mathlib.Core.List.{List}
use Prim.Native.Nat.{ℕ}
use lib.ListN.{take}
use Rattle.model.specs.Sheet.{Sheet}
use Rattle.model.specs.Reading.{Reading, refused, proper, ◌then◌, read_sheet}
use Rattle.model.proofs.Prefix.{read_prefix}
use Rattle.model.proofs.ProperSheet.{sheet_proper}
use Rattle.sizes.proofs.BookFront.{book_front}
use Rattle.text.specs.Text.{text_or_refused}
use Rattle.drawing.specs.Drawing.{sheet_text}
use Rattle.draw.specs.Drawn.{drawn, with_book, drawn_with}

pub whole_file : (sheet : List ℕ) → drawn (take 434 sheet) ≡ drawn sheet
unfolding drawn
whole_file sheet = ap (λ (k : Reading Sheet). text_or_refused (k then λ s. proper (sheet_text s))) (read_prefix sheet)

pub whole_files : (sheet book : List ℕ) → drawn_with (take 434 sheet) (take 339 book) ≡ drawn_with sheet book
unfolding drawn_with with_book ◌then◌
whole_files sheet book = ap (λ (k : Reading Sheet). text_or_refused (k then λ s. with_book s (take 339 book))) (read_prefix sheet) ∙ by (read_sheet sheet) refl
  where
    by : (k : Reading Sheet) → read_sheet sheet ≡ k → text_or_refused (k then λ s. with_book s (take 339 book)) ≡ text_or_refused (k then λ s. with_book s book)
    by (refused r) e = refl
    by (proper s) e = rw (book_front s.architecture book (sheet_proper sheet s e).architecture)
