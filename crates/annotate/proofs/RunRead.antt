-- The sheet and the book that are read again for the run that annotate wrote.
use mathlib.Core.Path.{◌≡◌, refl, sym, ap, subst, ◌∙◌}
use mathlib.Core.List.{List}
use Prim.Native.Nat.{ℕ, ◌+◌, ◌≤◌}
use native.Mathlib.Omega.{arith}
use Rattle.std.specs.Prelude.{Result, Ok, Err, IsOk}
use Rattle.model.specs.declared.Refusal.{Refusal}
use Rattle.model.specs.declared.Finding.TheVariants.{No}
use Rattle.model.specs.Sheet.{Sheet}
use Rattle.model.specs.Choice.{chosen, IsTables}
use Rattle.model.specs.Reading.{proper, read_sheet}
use Rattle.model.specs.Book.{read_book}
use Rattle.model.specs.Calls.{AfterRead, gave, annotate_of, AfterPath, AnnotatePath}
use Rattle.model.proofs.ProperSheet.{same_proper, sheet_proper}
use Rattle.model.proofs.RunGraphSteps.{vertices_few}
use Rattle.sheet.specs.declared.Sheet as sheets
use Rattle.sheet.specs.Struct.{reading_of}
use Rattle.book.specs.Answers.{after_read}
use Rattle.book.proofs.BookGivesChoice.{Chose, was_read}
use Rattle.replay.specs.Run.{run_text, HasRun}
use Rattle.replay.proofs.LassoReplayed.{lasso_run}
use Rattle.annotate.specs.Printed.{printed, annotation₀, path₀}
use Rattle.annotate.proofs.AnnotatedBuffer.{again_ok, IsRead, Looped, chosen_read, was_looped}

-- of this sheet and this choice, the run is printed
pub record Run (sheet book : List ℕ) (after : AfterPath) (s : Sheet) : Type 0 where
  pub choice : List ℕ
  pub book_is : read_book s.architecture book ≡ proper choice
  pub has_run : HasRun s after.stem after.cycle after.path
  pub few : after.stem + after.cycle ≤ 8192
  pub text : printed sheet book after ≡ run_text s choice after.stem after.cycle after.path

module _ (sheet book : List ℕ) (after : AfterPath) (e : (annotate_of sheet book annotation₀ path₀).answer ≡ Ok No) (p : AnnotatePath sheet book annotation₀ path₀ after) where
  l : Looped sheet book after
  l = was_looped sheet book after e p

  read : IsRead sheet book l.chosen
  read = chosen_read sheet book l.chosen l.is

  -- the sheet is not refused
  pub run_ok : (r : Result sheets.Sheet Refusal) → reading_of r ≡ read_sheet sheet → IsOk r
  run_ok r q = again_ok sheet r q _ read.sheet_is

  -- the sheet that is read again is the lasso's
  pub run_read : (s : Sheet) → read_sheet sheet ≡ proper s → Run sheet book after s
  run_read s is =
      let few = vertices_few l.chosen.sheet (sheet_proper sheet l.chosen.sheet read.sheet_is) in
      subst (Run sheet book after) (same_proper _ _ (sym read.sheet_is ∙ is)) record {
        choice = l.chosen.choice;
        book_is = read.book_is;
        has_run = lasso_run l.chosen path₀ after l.lasso;
        few = omega (arith, l.lasso.stem_long, l.lasso.cycle_long, l.lasso.is_lasso.short, few);
        text = l.text;
      }

-- the tables of the book begin with that choice
module _ {sheet book : List ℕ} {after : AfterPath} {s : Sheet} (u : Run sheet book after s) (r : Result (List ℕ) Refusal) (q : after_read r ≡ gave (read_book s.architecture book)) where
  pub tables_ok : IsOk r
  unfolding gave
  tables_ok = by r (q ∙ ap gave u.book_is)
    where
      by : (r : Result (List ℕ) Refusal) → after_read r ≡ gave (proper u.choice) → IsOk r
      by (Ok t) e = refl
      by (Err k) e = let z = ap (λ (y : AfterRead). y.answer) e in cc

  module _ (t : List ℕ) (o : r ≡ Ok t) where
    chose : Chose s.architecture book t
    chose = was_read s.architecture book t (subst (λ (k : Result (List ℕ) Refusal). after_read k ≡ gave (read_book s.architecture book)) o q)

    pub tables_read : IsTables s.architecture (chosen s.architecture t)
    tables_read = chose.are_tables

    pub text_read : printed sheet book after ≡ run_text s (chosen s.architecture t) after.stem after.cycle after.path
    text_read = u.text ∙ ap (λ (c : List ℕ). run_text s c after.stem after.cycle after.path) (same_proper _ _ (sym u.book_is ∙ chose.is_read))
