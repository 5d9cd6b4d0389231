-- 01, "Bench cases": what the finding program prints for a sheet file, and the files that it writes.
use Rattle.std.specs.Prelude.{List, [], ℕ, replicate, Result, Ok}
use Rattle.std.proofs.Math.Option.{Option, none, some}
use Rattle.model.specs.Sheet.{Sheet}
use Rattle.model.specs.Reading.{Reading, refused, proper, read_sheet}
use Rattle.model.specs.Computed.{annotation, first_choice}
use Rattle.model.specs.Book.{book_of}
use Rattle.model.specs.Calls.{AfterFind}
use Rattle.model.specs.Numbers.{number}
use Rattle.words.specs.Words.{bytes_of}
use Rattle.text.specs.Text.{text_of, none_text, refused_text}
use Rattle.model.specs.declared.Refusal.{Refusal}
use Rattle.model.specs.declared.Found.{Found}
use Rattle.model.specs.declared.Found.TheVariants.{Tables}

-- the first choice that keeps the sheet, with its annotation; or `none`
unfoldable pub choice_text : Sheet → Option (List ℕ) → List ℕ
choice_text s none = none_text
choice_text s (some c) = text_of s.architecture c (annotation s c)

-- unless the sheet is refused
unfoldable pub sheet_text : Reading Sheet → List ℕ
sheet_text (refused r) = refused_text (number r)
sheet_text (proper s) = choice_text s (first_choice s)

-- the text for these bytes
unfoldable pub printed : List ℕ → List ℕ
printed sheet = sheet_text (read_sheet sheet)

-- ---- the buffers that the program lends
abbrev pub book₀ : List ℕ
book₀ = replicate 338 0

abbrev pub annotation₀ : List ℕ
annotation₀ = replicate 4096 0

-- what find answered, and how it left the buffers
abbrev pub left : Result Found Refusal → List ℕ → List ℕ → AfterFind
left outcome book ann = record { answer = outcome; book = book; annotation = ann }

-- find left tables, and the buffers so
abbrev pub found : List ℕ → List ℕ → AfterFind
found book ann = left (Ok Tables) book ann

-- ---- the files that the program writes where there are tables
unfoldable pub book_file : Sheet → Option (List ℕ) → List ℕ
book_file s none = []
book_file s (some c) = book_of s.architecture c

unfoldable pub annotation_file : Sheet → Option (List ℕ) → List ℕ
annotation_file s none = []
annotation_file s (some c) = bytes_of (annotation s c)
