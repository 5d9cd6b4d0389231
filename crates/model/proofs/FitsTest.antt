-- The test `fits` is the proposition `Fits`.
use mathlib.Core.Path.{◌≡◌, refl, ap}
use mathlib.Core.Bool.{true}
use mathlib.Core.List.{List, [], ◌∷◌, ◌++◌}
use Prim.Native.Nat.{ℕ, suc, ◌^◌}
use native.Mathlib.Omega.{arith}
use lib.ListN.{length, length-replicate}
use Rattle.theory.proofs.Bools.{and_is}
use Rattle.model.specs.Mask.{count}
use Rattle.model.specs.Sheet.{Process}
use Rattle.model.specs.Compose.{row_length}
use Rattle.model.specs.Choice.{Entry, next, may, row, Fits, done, also, fits}

pub fits_length : {es : List Entry} {c : List ℕ} → Fits es c → length c ≡ length es
fits_length done = refl
fits_length (also m f) = ap suc (fits_length f)

-- what follows the entries is ignored
pub fits_front : {es : List Entry} {c : List ℕ} (r : List ℕ) → Fits es c → fits es (c ++ r) ≡ true
unfolding fits
fits_front r done = refl
fits_front r (also {e = e} {es} {v} {c} m f) = (and_is (may e v) (fits es (c ++ r))).1 (m, fits_front r f)

pub fits_right : (es : List Entry) (c : List ℕ) → length c ≡ length es → fits es c ≡ true → Fits es c
unfolding fits
fits_right [] [] l t = done
fits_right [] (v ∷ c) l t = absurd (omega arith)
fits_right (e ∷ es) [] l t = absurd (omega arith)
fits_right (e ∷ es) (v ∷ c) l t = let h : (may e v ≡ true) × (fits es c ≡ true) = (and_is (may e v) (fits es c)).0 t in also h.0 (fits_right es c (omega arith) h.1)

pub row_length_lem : (p : Process) → length (row p) ≡ row_length p
unfolding row row_length
row_length_lem p = omega (arith, length-replicate (2 ^ count p.inputs) (next p.bound))
