-- Case A's row: the sheet is the arbiter's, and its first choice has A's book and A's annotation.
use mathlib.Core.Path.{◌≡◌, refl, ap, ap₂, ◌∙◌}
use mathlib.Core.List.{List}
use mathlib.Core.Option.{Option}
use Prim.Native.Nat.{ℕ}
use Rattle.model.specs.Sheet.{Sheet}
use Rattle.model.specs.Reading.{Reading, proper}
use Rattle.model.specs.Book.{book_of}
use Rattle.model.specs.Calls.{front, find_sheet, find_choice, find_in, find_of}
use Rattle.model.specs.Computed.{annotation}
use Rattle.arbiter.specs.Arbiter.{arbiter}
use Rattle.arbiter.proofs.FirstChoice.{first_is_A}
use Rattle.model.specs.BenchCases.{sheet_a, choice_a, book_a, annotation_a}
use Rattle.starred.specs.Table.{Holds, row_a, buffer, found}

reads_A : find_sheet (sheet_a 2) (buffer 21) (buffer 33) ≡ proper arbiter
unfolding find_sheet arbiter
reads_A = refl

book_A : book_of arbiter.architecture choice_a ≡ book_a
unfolding book_of arbiter
book_A = refl

annotation_A : annotation arbiter choice_a ≡ annotation_a
unfolding annotation arbiter
annotation_A = refl

pub case_A : Holds row_a
unfolding find_of find_in find_choice front
case_A =
    ap (λ (r : Reading Sheet). find_in r (buffer 21) (buffer 33)) reads_A
    ∙ ap (λ (o : Option (List ℕ)). find_choice arbiter o (buffer 21) (buffer 33)) first_is_A
    ∙ ap₂ (λ (b a : List ℕ). found (front b (buffer 21)) (front a (buffer 33))) book_A annotation_A
