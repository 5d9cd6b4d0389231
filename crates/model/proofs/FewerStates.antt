-- Tables with fewer states stand for tables at the sheet's bounds.
use mathlib.Core.Path.{◌≡◌, refl, sym, ap, ◌∙◌, subst}
use mathlib.Core.List.Memᴰ
use mathlib.Core.List.{List, [], ◌∷◌, ◌++◌, append_assoc}
use Prim.Native.Nat.{ℕ, zero, suc, ◌+◌, ◌-◌, ◌*◌, ◌^◌, ◌≤◌, min}
use native.Mathlib.Nat.{add-mul, zero-add, suc-add}
use native.Mathlib.Omega.{arith}
use lib.ListN.{length, take, drop, replicate, take-append-drop}
use borrow.Author.Tests.{ltb-true, lt-ltb}
use Rattle.model.specs.Mask.{count}
use Rattle.model.specs.Sheet.{Process, Architecture, ProperProcesses, ProperArchitecture}
use Rattle.model.specs.Compose.{row_length, process_length}
use Rattle.model.specs.Choice.{Entry, next, may, row, times, rows, entries, Fits, done, also, IsTables, lowered, pad_rows, padded}
use Rattle.model.proofs.FitsTest.{row_length_lem}
use Rattle.model.proofs.EntryLaws.{times_have, MayZero, zeros, output_zero, next_zero}
use Rattle.model.proofs.ComposedNumbers.{fits_drop, times_length}

fits_append : {es fs : List Entry} {c d : List ℕ} → Fits es c → Fits fs d → Fits (es ++ fs) (c ++ d)
fits_append done g = g
fits_append (also m f) g = also m (fits_append f g)

fits_take : (es fs : List Entry) {c : List ℕ} → Fits (es ++ fs) c → Fits es (take (length es) c)
fits_take [] fs f = done
fits_take (e ∷ es) fs (also m f) = also m (fits_take es fs f)

-- ---- a lower bound
weak_nexts : (k m n : ℕ) {c : List ℕ} → m ≤ n → Fits (replicate k (next m)) c → Fits (replicate k (next n)) c
unfolding may
weak_nexts zero m n l done = done
weak_nexts (suc k) m n l (also {v = v} h f) = also (lt-ltb v n (omega (arith, ltb-true v m h))) (weak_nexts k m n l f)

fits_times : (n : ℕ) (es fs : List Entry) {c : List ℕ} → ((c : List ℕ) → Fits es c → Fits fs c) → Fits (times n es) c → Fits (times n fs) c
unfolding times
fits_times zero es fs w f = f
fits_times (suc n) es fs {c} w f =
    subst (Fits (fs ++ times n fs)) (take-append-drop (length es) c) (fits_append (w _ (fits_take es (times n es) f)) (fits_times n es fs w (fits_drop es f)))

-- ---- rows of zeros
zero_rows : (n : ℕ) (p : Process) → 1 ≤ p.bound → Fits (times n (row p)) (replicate (n * row_length p) 0)
zero_rows n p l =
    subst (λ (k : ℕ). Fits (times n (row p)) (replicate k 0)) (times_length n (row p) ∙ ap (λ (k : ℕ). n * k) (row_length_lem p))
    (zeros (times n (row p)) (times_have MayZero p (output_zero p.outputs) (next_zero p.bound l) n))

times_add : (m k : ℕ) (es : List Entry) → times (m + k) es ≡ times m es ++ times k es
unfolding times
times_add zero k es = ap (λ (n : ℕ). times n es) (zero-add k)
times_add (suc m) k es = ap (λ (n : ℕ). times n es) (suc-add m k) ∙ ap (λ (l : List Entry). es ++ l) (times_add m k es) ∙ sym (append_assoc es (times m es) (times k es))

-- ---- one process
module _ (p : Process) (some : 1 ≤ p.bound) (m k : ℕ) (whole : m + k ≡ p.bound) where
  low : Process
  low = record { inputs = p.inputs; outputs = p.outputs; bound = m; prompts = p.prompts; prompted = p.prompted }

  row_wide : (c : List ℕ) → Fits (row low) c → Fits (row p) c
  unfolding row low may
  row_wide c (also h f) = also h (weak_nexts (2 ^ count p.inputs) m p.bound (omega arith) f)

  process_wide : (c : List ℕ) → Fits (times m (row low)) c → Fits (times p.bound (row p)) (c ++ replicate (k * row_length p) 0)
  process_wide c f =
      subst (λ (es : List Entry). Fits es (c ++ replicate (k * row_length p) 0)) (sym (times_add m k (row p)) ∙ ap (λ (n : ℕ). times n (row p)) whole)
      (fits_append (fits_times m (row low) (row p) row_wide f) (zero_rows k p some))

  low_length : length (times m (row low)) ≡ m * row_length p
  unfolding low row_length
  low_length = times_length m (row low) ∙ ap (λ (n : ℕ). m * n) (row_length_lem low)

  zeros_are : process_length p - m * row_length p ≡ k * row_length p
  unfolding process_length
  zeros_are = omega (arith, add-mul m k (row_length p), ap (λ (n : ℕ). n * row_length p) whole)

pad_fits : {v e : ℕ} (ps : List Process) (bs c : List ℕ) → ProperProcesses v e ps → Fits (rows (lowered ps bs)) c → Fits (rows ps) (pad_rows ps bs c)
unfolding rows lowered pad_rows low
pad_fits [] bs c g f = done
pad_fits (p ∷ ps) [] c g f = f
pad_fits (p ∷ ps) (b ∷ bs) c g f =
    let m : ℕ = min b p.bound in
    let k : ℕ = p.bound - m in
    let whole : m + k ≡ p.bound = omega arith in
    let some : 1 ≤ p.bound = (g p (Memᴰ.head refl)).some_state in
    let here : Fits (times m (row (low p some m k whole))) (take (m * row_length p) c) =
    subst (λ (n : ℕ). Fits (times m (row (low p some m k whole))) (take n c)) (low_length p some m k whole) (fits_take (times m (row (low p some m k whole))) (rows (lowered ps bs)) f) in
    let rest : Fits (rows (lowered ps bs)) (drop (m * row_length p) c) =
    subst (λ (n : ℕ). Fits (rows (lowered ps bs)) (drop n c)) (low_length p some m k whole) (fits_drop (times m (row (low p some m k whole))) f) in
    subst (λ (n : ℕ). Fits (rows (p ∷ ps)) (take (m * row_length p) c ++ replicate n 0 ++ pad_rows ps bs (drop (m * row_length p) c))) (sym (zeros_are p some m k whole))
    (fits_append (process_wide p some m k whole (take (m * row_length p) c) here) (pad_fits ps bs (drop (m * row_length p) c) (λ q i. g q (Memᴰ.tail i)) rest))

pub padded_is_tables : (a : Architecture) (bs c : List ℕ) → ProperArchitecture a → Fits (rows (lowered a.processes bs)) c → IsTables a (padded a bs c)
unfolding entries padded
padded_is_tables a bs c good f = pad_fits a.processes bs c good.front.processes_proper f
