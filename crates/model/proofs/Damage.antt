-- A proper sheet with more bytes behind it is refused by 2, and one cut short by 1: of a row that goes on, its start is neither proper nor faulty.
use mathlib.Core.Path.{◌≡◌, refl, sym, ap, ◌∙◌, subst}
use mathlib.Core.Logic.{⊎_elim}
use mathlib.Core.List.{List, [], ◌∷◌, ◌++◌, append_assoc}
use Prim.Native.Nat.{ℕ, suc, ◌≤◌, ◌<◌}
use native.Mathlib.Omega.{arith}
use native.Mathlib.Decide.{dec_le}
use lib.ListN.{length, take, drop, length-take, get_or-eq_default}
use lib.Seq.{split_at, get_or-take}
use Rattle.model.specs.declared.Refusal.{Refusal}
use Rattle.model.specs.declared.Refusal.TheVariants.{SheetTooShort, WrongMark}
use Rattle.model.specs.Sheet.{Sheet}
use Rattle.model.specs.Reading.{Reading, refused, proper, byte, read_sheet}
use Rattle.model.specs.SheetFile.{sheet_bytes, Bytes, BeginsFaulty, byte_behind_end}
use Rattle.model.proofs.Answered.{Answered}
use Rattle.model.proofs.SheetClassified.{Classified, classified, written}
use Rattle.model.proofs.FaultyRefused.{faulty_refused, begins_faulty_refused}

-- ---- more
pub more_refused : (b : List ℕ) (s : Sheet) (x : ℕ) (rest : List ℕ) → Bytes b → read_sheet b ≡ proper s → read_sheet (b ++ (x ∷ rest)) ≡ refused WrongMark
more_refused b s x rest bytes e =
    let w = written b s bytes e in
    ap (λ (y : List ℕ). read_sheet (y ++ (x ∷ rest))) w.0
    ∙ ap read_sheet (sym (append_assoc (sheet_bytes s) (x ∷ []) rest))
    ∙ faulty_refused (sheet_bytes s ++ (x ∷ [])) rest WrongMark (byte_behind_end s x w.1)

-- ---- less
-- the first bytes of a file are bytes
pub bytes_take : (b : List ℕ) (n : ℕ) → Bytes b → Bytes (take n b)
bytes_take b n bytes i = by (dec_le n i)
  where
    by : Dec (n ≤ i) → byte (take n b) i < 256
    by (yes h) = rw (get_or-eq_default (take n b) 0 {n = i} (omega (arith, length-take n b))) (omega arith)
    by (no h) = rw (get_or-take n b i 0 (omega arith)) (bytes i)

-- a row that begins faulty does so however it goes on
faulty_longer : {b : List ℕ} (rest : List ℕ) {r : Refusal} → BeginsFaulty b r → BeginsFaulty (b ++ rest) r
faulty_longer rest f = record {
  faulty = f.faulty;
  rest = f.rest ++ rest;
  whole = ap (λ (y : List ℕ). y ++ rest) f.whole ∙ append_assoc f.faulty f.rest rest;
  fault = f.fault;
}

-- an answer is one or the other
not_refused : {k : Reading Sheet} {r : Refusal} {s : Sheet} → k ≡ refused r → ¬ (k ≡ proper s)
not_refused e q = let z : ◌≡◌ {A = ℕ} 0 1 = cc in omega arith

-- a row that goes on to a proper sheet is refused by 1: it is no proper sheet, and begins with no faulty record
start_refused : (b : List ℕ) (x : ℕ) (rest : List ℕ) (s : Sheet) → Bytes b → read_sheet (b ++ (x ∷ rest)) ≡ proper s → read_sheet b ≡ refused SheetTooShort
unfolding Answered
start_refused b x rest s bytes e = by (read_sheet b) refl
  where
    by : (k : Reading Sheet) → read_sheet b ≡ k → read_sheet b ≡ refused SheetTooShort
    by (proper t) q = absurd (not_refused (more_refused b t x rest bytes q) e)
    by (refused r) q =
        ⊎_elim (λ h. q ∙ ap refused h.0) (λ h. absurd (not_refused (begins_faulty_refused (b ++ (x ∷ rest)) r (faulty_longer (x ∷ rest) h.1)) e))
        (subst (Classified b) q (classified b bytes))

pub cut_refused : (b : List ℕ) (s : Sheet) (n : ℕ) → Bytes b → read_sheet b ≡ proper s → n < length b → read_sheet (take n b) ≡ refused SheetTooShort
cut_refused b s n bytes e l = start_refused (take n b) (byte b n) (drop (suc n) b) s (bytes_take b n bytes) (ap read_sheet (sym (split_at b n 0 l)) ∙ e)
