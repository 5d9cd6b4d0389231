-- Where the definition reads a sheet, the code reads it too, and the sheet by value is the one that was read.
use mathlib.Core.Path.{◌≡◌, sym, ap, subst, ◌∙◌}
use mathlib.Core.List.{List}
use Prim.Native.Nat.{ℕ}
use native.Mathlib.Omega.{arith}
use Rattle.std.specs.Prelude.{Result, Ok, Err, IsOk, IfOk, is_ok}
use Rattle.model.specs.declared.Refusal.{Refusal}
use Rattle.model.specs.Sheet.{Sheet}
use Rattle.model.specs.Reading.{proper, read_sheet}
use Rattle.sheet.specs.declared.Sheet as sheets
use Rattle.sheet.specs.Struct.{sheet_of, reading_of, Arrays, IsProper}
use Rattle.sheet.proofs.AnswersOfReading.{read_is_proper}

pub reading_is : (x : sheets.Sheet) (s : Sheet) → reading_of (Ok x) ≡ proper s → sheet_of x ≡ s
reading_is x s e = cc

-- the value that a reading has which is not refused
pub read_ok : (r : Result sheets.Sheet Refusal) (s : Sheet) → reading_of r ≡ proper s → (x : sheets.Sheet) × (r ≡ Ok x)
read_ok (Ok x) s e = (x, cc)
read_ok (Err q) s e = let z : ◌≡◌ {A = ℕ} 0 1 = cc in absurd (omega arith)

-- ---- a sheet that was read is read again
module _ (b : List ℕ) (r : Result sheets.Sheet Refusal) (q : reading_of r ≡ read_sheet b) where
  pub again_ok : (s : Sheet) → read_sheet b ≡ proper s → IsOk r
  again_ok s e = ap is_ok (read_ok r s (q ∙ e)).1

  module _ (arrays : IfOk r (λ (y : sheets.Sheet). Arrays y)) (x : sheets.Sheet) (o : r ≡ Ok x) where
    read : reading_of (Ok x) ≡ read_sheet b
    read = subst (λ (k : Result sheets.Sheet Refusal). reading_of k ≡ read_sheet b) o q

    pub again_is : read_sheet b ≡ proper (sheet_of x)
    again_is = sym read

    pub again_proper : IsProper x
    again_proper = read_is_proper b x read (subst (λ (k : Result sheets.Sheet Refusal). IfOk k (λ (y : sheets.Sheet). Arrays y)) o arrays)
