-- What holds from one byte of standard input to the next. These are definitions.
use Rattle.std.specs.Prelude.{◌≡◌, List, ℕ, ◌^◌, ◌<◌}
use Rattle.model.specs.Reading.{proper, read_sheet}
use Rattle.model.specs.Book.{read_book}
use Rattle.model.specs.Desk.{on_desk}
use Rattle.model.proofs.ComposedNumbers.{IsState}
use Rattle.architecture.specs.Struct.{architecture_of}
use Rattle.sheet.specs.declared.Sheet.{Sheet}
use Rattle.sheet.specs.Struct.{sheet_of, IsProper}
use Rattle.stepdesk.specs.declared.Session.{Session}

-- the sheet and the book are read
pub record BothRead (sheet book : List ℕ) (s : Sheet) : Type 0 where
  pub choice : List ℕ
  pub is_sheet : read_sheet sheet ≡ proper (sheet_of s)
  pub is_proper : IsProper s
  pub is_book : read_book (architecture_of s.architecture) book ≡ proper choice

-- and the desk holds a composed state; the word's value has no more digits than the word
pub record Ready (sheet book : List ℕ) (s : Sheet) (x : Session) : Type 0 where
  pub both : BothRead sheet book s
  pub on_a_desk : IsState (architecture_of s.architecture) (on_desk (architecture_of s.architecture) x.desk)
  pub word_fits : x.word.value < 16 ^ x.word.digits
