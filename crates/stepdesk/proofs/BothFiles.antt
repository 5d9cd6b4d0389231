-- What is known of the two files: one is refused, or both are read, and the tables begin with the book's choice.
use mathlib.Core.Path.{◌≡◌, refl, sym, ap, ◌∙◌}
use mathlib.Core.Logic.{◌⊎◌, inl, inr}
use mathlib.Core.List.{List}
use Prim.Native.Nat.{ℕ}
use Rattle.model.specs.declared.Refusal.{Refusal}
use Rattle.model.specs.declared.Desk.{Desk}
use Rattle.model.specs.Numbers.{number}
use Rattle.model.specs.Sheet as model
use Rattle.model.specs.Reading.{refused, proper, ◌then◌, read_sheet}
use Rattle.model.specs.Choice.{IsTables, chosen}
use Rattle.model.specs.Book.{read_book}
use Rattle.model.specs.Calls.{gave, read_of}
use Rattle.model.specs.Desk.{on_desk, AfterFresh, after_fresh, fresh_in, fresh_of, step_of}
use Rattle.model.proofs.ProperSheet.{goes_on}
use Rattle.model.proofs.Refusing.{then_read, then_refused, refused_then}
use Rattle.model.proofs.ComposedNumbers.{IsState}
use Rattle.model.proofs.DeskShows.{still_state, fresh_state}
use Rattle.architecture.specs.Struct.{architecture_of}
use Rattle.sheet.specs.declared.Sheet.{Sheet}
use Rattle.sheet.specs.Struct.{sheet_of, IsProper, reading_of}
use Rattle.book.specs.Answers.{after_read}
use Rattle.book.proofs.ReadingAnswers.{read_refused, read_done}
use Rattle.book.proofs.BookGivesChoice.{Chose, was_read}
use Rattle.sizes.proofs.SheetRead.{again_ok}
use Rattle.text.specs.Text.{refused_text, text_or_refused}
use Rattle.stepping.specs.Lines.{start_text, step_text}
use Rattle.stepdesk.specs.Printed.{opening, line_by, line_for}
use Rattle.stepdesk.specs.Ready.{BothRead}
use Rattle.std.specs.Prelude.{Result, Ok, Err, IsOk}

module _ (sheet book : List ℕ) where
  -- a file is refused
  start_refused : (r : Refusal) → after_read (Err r) ≡ read_of sheet book
      → (read_sheet sheet then λ s. read_book s.architecture book then λ c. proper (start_text s.architecture c)) ≡ refused r
  unfolding read_of
  start_refused r is = by (refused_then (read_sheet sheet) (λ s. read_book s.architecture book) r (read_refused _ r is))
    where
      by : (read_sheet sheet ≡ refused r) ⊎ ((s : model.Sheet) × (read_sheet sheet ≡ proper s) × (read_book s.architecture book ≡ refused r))
          → (read_sheet sheet then λ s. read_book s.architecture book then λ c. proper (start_text s.architecture c)) ≡ refused r
      by (inl q) = then_refused _ q
      by (inr h) = then_read _ h.1 ∙ then_refused _ h.2

  pub opening_refused : (r : Refusal) → after_read (Err r) ≡ read_of sheet book → opening sheet book ≡ refused_text (number r)
  unfolding opening text_or_refused
  opening_refused r is = ap text_or_refused (start_refused r is)

  module _ (tables : List ℕ) (is : after_read (Ok tables) ≡ read_of sheet book) where
    -- the sheet that is read again is not refused
    sheet_known : (s : model.Sheet) × (read_sheet sheet ≡ proper s)
    unfolding read_of
    sheet_known = let h = goes_on (read_sheet sheet) _ (read_done _ tables is).1 in (h.0, h.1)

    pub sheet_ok : (r : Result Sheet Refusal) → reading_of r ≡ read_sheet sheet → IsOk r
    sheet_ok r q = again_ok sheet r q sheet_known.0 sheet_known.1

    module _ (s : Sheet) (sheet_is : read_sheet sheet ≡ proper (sheet_of s)) (good : IsProper s) where
      chose : Chose (architecture_of s.architecture) book tables
      unfolding read_of
      chose = was_read (architecture_of s.architecture) book tables (is ∙ ap gave (then_read _ sheet_is))

      -- both are read
      pub both_read : BothRead sheet book s
      both_read = record { choice = chosen (architecture_of s.architecture) tables; is_sheet = sheet_is; is_proper = good; is_book = chose.is_read }

      -- the tables begin with the choice
      pub are_tables : IsTables (architecture_of s.architecture) (chosen (architecture_of s.architecture) tables)
      are_tables = chose.are_tables

      pub opening_is : opening sheet book ≡ start_text (architecture_of s.architecture) (chosen (architecture_of s.architecture) tables)
      unfolding opening text_or_refused
      opening_is = ap text_or_refused (then_read _ sheet_is ∙ then_read _ chose.is_read)

-- ---- where both are read
module _ {sheet book : List ℕ} {s : Sheet} (b : BothRead sheet book s) where
  -- a fresh desk holds a composed state, and so does a desk after a step
  pub fresh_holds : (k : Desk) → IsState (architecture_of s.architecture) (on_desk (architecture_of s.architecture) (fresh_of sheet k).desk)
  fresh_holds k = fresh_state sheet book (sheet_of s) b.choice b.is_sheet b.is_book k

  pub step_holds : (k : Desk) (d : ℕ) → IsState (architecture_of s.architecture) (on_desk (architecture_of s.architecture) k)
      → IsState (architecture_of s.architecture) (on_desk (architecture_of s.architecture) (step_of sheet book k d).desk)
  step_holds k d w = still_state sheet book (sheet_of s) b.choice b.is_sheet b.is_book k d w

  -- the sheet is not refused, so that a desk is made fresh
  pub fresh_ok : (k : Desk) (r : Result Desk Refusal) → after_fresh r k ≡ fresh_of sheet k → IsOk r
  unfolding fresh_of fresh_in
  fresh_ok k r e = by r (e ∙ rw b.is_sheet)
    where
      by : (r : Result Desk Refusal) → after_fresh r k ≡ fresh_in (proper (sheet_of s)) k → IsOk r
      by (Ok x) e = refl
      by (Err q) e = let z = ap (λ (y : AfterFresh). y.answer) e in cc

  -- the line that is due
  pub line_is : (k : Desk) (d : ℕ) → line_for sheet book k d ≡ step_text (architecture_of s.architecture) d (step_of sheet book k d)
  unfolding line_for line_by
  line_is k d = rw b.is_sheet
