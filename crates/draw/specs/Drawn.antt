-- What the drawing program prints for a sheet file, with a book file or without one.
use Rattle.std.specs.Prelude.{List, ℕ}
use Rattle.model.specs.Sheet.{Sheet}
use Rattle.model.specs.Reading.{Reading, proper, ◌then◌, read_sheet}
use Rattle.model.specs.Book.{read_book}
use Rattle.text.specs.Text.{text_or_refused}
use Rattle.drawing.specs.Drawing.{sheet_text, book_text}

-- the text for these bytes of a sheet
unfoldable pub drawn : List ℕ → List ℕ
drawn sheet = text_or_refused (read_sheet sheet then λ s. proper (sheet_text s))

-- the text of a proper sheet, and these bytes of a book
unfoldable pub with_book : Sheet → List ℕ → Reading (List ℕ)
with_book s book = read_book s.architecture book then λ c. proper (book_text s c)

-- the text for these bytes of a sheet and of a book
unfoldable pub drawn_with : List ℕ → List ℕ → List ℕ
drawn_with sheet book = text_or_refused (read_sheet sheet then λ s. with_book s book)
