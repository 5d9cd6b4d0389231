-- What is drawn of a book: by its refusal, or by the tables that were read.
use mathlib.Core.Path.{◌≡◌, sym, ap, ◌∙◌}
use mathlib.Core.List.{List}
use Prim.Native.Nat.{ℕ}
use lib.ListN.{length, drop, take-append-drop}
use Rattle.model.specs.declared.Refusal.{Refusal}
use Rattle.model.specs.Sheet.{Sheet}
use Rattle.model.specs.Choice.{entries, chosen}
use Rattle.model.specs.Reading.{refused, ◌then◌}
use Rattle.model.specs.Book.{read_book}
use Rattle.model.specs.Numbers.{number}
use Rattle.book.proofs.BookGivesChoice.{Chose}
use Rattle.text.specs.Text.{refused_text, text_or_refused}
use Rattle.drawing.specs.Drawing.{book_text}
use Rattle.drawing.proofs.DrawingReads.{book_text_front}
use Rattle.draw.specs.Drawn.{with_book}

module _ (s : Sheet) (book : List ℕ) where
  -- it is refused
  pub drawn_refused : (r : Refusal) → read_book s.architecture book ≡ refused r → text_or_refused (with_book s book) ≡ refused_text (number r)
  unfolding text_or_refused with_book ◌then◌
  drawn_refused r e = rw e

  -- its choice is at the front of the tables
  pub drawn_tables : (tables : List ℕ) → Chose s.architecture book tables → text_or_refused (with_book s book) ≡ book_text s tables
  unfolding text_or_refused with_book ◌then◌
  drawn_tables tables h =
      let n = length (entries s.architecture) in
      rw h.is_read (sym (book_text_front (chosen s.architecture tables) (drop n tables) s h.are_tables) ∙ ap (book_text s) (take-append-drop n tables))
