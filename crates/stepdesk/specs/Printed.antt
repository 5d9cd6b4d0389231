-- What the desk program writes on standard output: the opening for the bytes of two files, and then a line for each direction. These are definitions.
use Rattle.std.specs.Prelude.{List, [], ℕ}
use Rattle.model.specs.declared.Desk.{Desk}
use Rattle.model.specs.Sheet.{Sheet}
use Rattle.model.specs.Reading.{Reading, refused, proper, ◌then◌, read_sheet}
use Rattle.model.specs.Book.{read_book}
use Rattle.model.specs.Desk.{AfterStep, step_of}
use Rattle.text.specs.Text.{text_or_refused}
use Rattle.stepping.specs.Lines.{start_text, step_text}

-- the line of the start; or the refusal of the sheet, or of the book
unfoldable pub opening : (sheet book : List ℕ) → List ℕ
unfolding text_or_refused read_sheet ◌then◌ read_book start_text
opening sheet book = text_or_refused (read_sheet sheet then λ s. read_book s.architecture book then λ c. proper (start_text s.architecture c))

-- the line of a step; there is none without a sheet
unfoldable pub line_by : Reading Sheet → ℕ → AfterStep → List ℕ
line_by (refused r) d next = []
line_by (proper s) d next = step_text s.architecture d next

-- the line for direction d, where the desk is k
unfoldable pub line_for : (sheet book : List ℕ) → Desk → ℕ → List ℕ
unfolding line_by read_sheet step_of
line_for sheet book k d = line_by (read_sheet sheet) d (step_of sheet book k d)
