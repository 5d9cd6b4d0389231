-- What the annotating program prints for a sheet and a book, and the file that it writes.
use Rattle.std.specs.Prelude.{List, [], ℕ, replicate, Result}
use Rattle.model.specs.Mask.{if}
use Rattle.model.specs.Reading.{Reading, refused, proper, ◌then◌, read_sheet}
use Rattle.model.specs.Computed.{loops, annotation}
use Rattle.model.specs.Book.{read_book}
use Rattle.model.specs.Calls.{Chosen, AfterAnnotate, AfterPath}
use Rattle.model.specs.Numbers.{number}
use Rattle.words.specs.Words.{bytes_of}
use Rattle.text.specs.Text.{greatest_text, refused_text}
use Rattle.replay.specs.Run.{run_text}
use Rattle.model.specs.declared.Refusal.{Refusal}
use Rattle.model.specs.declared.Finding.{Finding}

-- the sheet, and the choice of the book
unfoldable pub chosen_in : List ℕ → List ℕ → Reading Chosen
chosen_in sheet book = read_sheet sheet then λ s. read_book s.architecture book then λ c. proper record { sheet = s; choice = c }

-- the run that annotate wrote
abbrev pub path_text : Chosen → AfterPath → List ℕ
path_text x after = run_text x.sheet x.choice after.stem after.cycle after.path

-- that run, or `greatest` and the greatest number of the annotation; `refused` and the number
unfoldable pub chosen_text : Reading Chosen → AfterPath → List ℕ
chosen_text (refused r) after = refused_text (number r)
chosen_text (proper x) after = if (loops x.sheet x.choice) (path_text x after) (greatest_text (annotation x.sheet x.choice))

-- the text for these bytes, where annotate left the path so: which run it writes is open
unfoldable pub printed : List ℕ → List ℕ → AfterPath → List ℕ
printed sheet book after = chosen_text (chosen_in sheet book) after

-- the file that is written where there is an annotation
unfoldable pub chosen_file : Reading Chosen → List ℕ
chosen_file (refused r) = []
chosen_file (proper x) = bytes_of (annotation x.sheet x.choice)

-- ---- the buffers that the program lends
abbrev pub annotation₀ : List ℕ
annotation₀ = replicate 4096 0

abbrev pub path₀ : List ℕ
path₀ = replicate 16384 0

-- what annotate answered, and how it left the annotation
abbrev pub left : Result Finding Refusal → List ℕ → AfterAnnotate
left verdict ann = record { answer = verdict; annotation = ann }
