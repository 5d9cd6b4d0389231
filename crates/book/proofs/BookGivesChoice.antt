-- A book that was read gives its refusal, or tables with its choice at the front.
use mathlib.Core.Path.{◌≡◌, sym, ap, subst, ◌∙◌}
use mathlib.Core.List.{List}
use Prim.Native.Nat.{ℕ}
use Rattle.model.specs.declared.Refusal.{Refusal}
use Rattle.model.specs.Sheet.{Architecture}
use Rattle.model.specs.Reading.{refused, proper}
use Rattle.model.specs.Choice.{IsTables, chosen}
use Rattle.model.specs.Book.{read_book}
use Rattle.model.specs.Calls.{gave}
use Rattle.model.proofs.BookRead.{read_choice}
use Rattle.std.specs.Prelude.{Ok, Err}
use Rattle.book.specs.Answers.{after_read}
use Rattle.book.proofs.ReadingAnswers.{read_refused, read_done}
use Rattle.composition.proofs.ChoiceAtFront.{chosen_tables}

-- what the book holds is at the front of the tables
pub record Chose (a : Architecture) (book tables : List ℕ) : Type 0 where
  pub are_tables : IsTables a (chosen a tables)
  pub is_read : read_book a book ≡ proper (chosen a tables)

module _ (a : Architecture) (book : List ℕ) where
  -- a refusal is the book's
  pub was_refused : (r : Refusal) → after_read (Err r) ≡ gave (read_book a book) → read_book a book ≡ refused r
  was_refused r e = read_refused (read_book a book) r e

  -- the tables begin with the choice that the book holds
  pub was_read : (tables : List ℕ) → after_read (Ok tables) ≡ gave (read_book a book) → Chose a book tables
  was_read tables e =
      let d = read_done (read_book a book) tables e in
      let choice : IsTables a d.0 = (read_choice a book d.0 d.1).0.tables in
      let same : chosen a tables ≡ d.0 = ap (chosen a) d.2 ∙ chosen_tables a d.0 choice in
      record { are_tables = subst (IsTables a) (sym same) choice; is_read = d.1 ∙ ap (λ (c : List ℕ). proper c) (sym same) }
