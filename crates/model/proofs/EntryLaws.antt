-- The entries of a choice by their indexes; and what holds for every entry of a sheet.
use mathlib.Core.Path.{◌≡◌, refl, sym, subst}
use mathlib.Core.Bool.{true}
use mathlib.Core.Logic.{⊎_elim}
use mathlib.Core.List.Memᴰ
use mathlib.Core.List.{List, [], ◌∷◌, Memᴰ}
use Prim.Native.Nat.{ℕ, zero, suc, ◌^◌, ◌≤◌, ◌<◌}
use native.Mathlib.Omega.{arith}
use lib.Bits.{bit_and, and_zero_l}
use lib.ListN.{length, get_or, set, replicate}
use borrow.Author.Tests.{lt-ltb, eq-eqb}
use Rattle.model.specs.Mask.{within, count}
use Rattle.model.specs.Sheet.{Process, Architecture, ProperArchitecture}
use Rattle.model.specs.Choice.{Entry, output, next, may, row, times, rows, entries, Fits, done, also, IsTables, Before, lower, later}

-- ---- by index
pub fits_at : {es : List Entry} {c : List ℕ} → Fits es c → (e₀ : Entry) (i : ℕ) → i < length es → may (get_or es i e₀) (get_or c i 0) ≡ true
fits_at done e₀ i l = absurd (omega arith)
fits_at (also m f) e₀ zero l = m
fits_at (also m f) e₀ (suc i) l = fits_at f e₀ i (omega arith)

pub fits_set : {es : List Entry} {c : List ℕ} → Fits es c → (e₀ : Entry) (i v : ℕ) → i < length es → may (get_or es i e₀) v ≡ true → Fits es (set c i v)
fits_set done e₀ i v l m = absurd (omega arith)
fits_set (also n f) e₀ zero v l m = also m f
fits_set (also n f) e₀ (suc i) v l m = also n (fits_set f e₀ i v (omega arith) m)

-- the first entry that differs
pub before_at : {c d : List ℕ} → Before d c → (j : ℕ) × (j < length c) × ((k : ℕ) → k < j → get_or d k 0 ≡ get_or c k 0) × (get_or d j 0 < get_or c j 0)
before_at (lower l) = (0, omega arith, λ k h. absurd (omega arith), l)
before_at (later {v = v} {c = d} {d = c} b) = let r = before_at b in (suc r.0, omega (arith, r.1), same r.0 r.2, r.3)
  where
    same : (j : ℕ) → ((k : ℕ) → k < j → get_or d k 0 ≡ get_or c k 0) → (k : ℕ) → k < suc j → get_or (v ∷ d) k 0 ≡ get_or (v ∷ c) k 0
    same j h zero l = refl
    same j h (suc k) l = h k (omega arith)

-- ---- what holds for every entry
replicate_is : (n : ℕ) (x e : Entry) → Memᴰ e (replicate n x) → e ≡ x
replicate_is zero x e m = absurd (Memᴰ.not-nil m)
replicate_is (suc n) x e (Memᴰ.head q) = q
replicate_is (suc n) x e (Memᴰ.tail m) = replicate_is n x e m

module _ (P : Entry → Type 0) where
  -- of a process, if it holds for its output mask and its next states
  pub times_have : (p : Process) → P (output p.outputs) → P (next p.bound) → (n : ℕ) (e : Entry) → Memᴰ e (times n (row p)) → P e
  unfolding times row
  times_have p o x zero e m = absurd (Memᴰ.not-nil m)
  times_have p o x (suc n) e m =
      ⊎_elim
      (λ i. ⊎_elim (λ q. subst P (sym q) o) (λ j. subst P (sym (replicate_is (2 ^ count p.inputs) (next p.bound) e j)) x) (Memᴰ.cases_cons i))
      (λ i. times_have p o x n e i)
      (Memᴰ.append_cases (row p) m)

  rows_have : (ps : List Process) → ((p : Process) → Memᴰ p ps → P (output p.outputs) × P (next p.bound)) → (e : Entry) → Memᴰ e (rows ps) → P e
  unfolding rows
  rows_have [] h e m = absurd (Memᴰ.not-nil m)
  rows_have (p ∷ ps) h e m =
      ⊎_elim (λ i. let b = h p (Memᴰ.head refl) in times_have p b.0 b.1 p.bound e i) (λ i. rows_have ps (λ q j. h q (Memᴰ.tail j)) e i)
      (Memᴰ.append_cases (times p.bound (row p)) m)

  pub entries_have : (a : Architecture) → ((p : Process) → Memᴰ p a.processes → P (output p.outputs) × P (next p.bound)) → (e : Entry) → Memᴰ e (entries a) → P e
  unfolding entries
  entries_have a h = rows_have a.processes h

-- ---- zeros
abbrev pub MayZero : Entry → Type 0
MayZero e = may e 0 ≡ true

pub zeros : (es : List Entry) → ((e : Entry) → Memᴰ e es → MayZero e) → Fits es (replicate (length es) 0)
zeros [] h = done
zeros (e ∷ es) h = also (h e (Memᴰ.head refl)) (zeros es (λ x m. h x (Memᴰ.tail m)))

pub output_zero : (m : ℕ) → MayZero (output m)
unfolding may within
output_zero m = eq-eqb (bit_and 0 m) 0 (and_zero_l m)

pub next_zero : (b : ℕ) → 1 ≤ b → MayZero (next b)
unfolding may
next_zero b l = lt-ltb 0 b l

pub zeros_fit : (a : Architecture) → ProperArchitecture a → IsTables a (replicate (length (entries a)) 0)
zeros_fit a good = zeros (entries a) (entries_have MayZero a (λ p m. (output_zero p.outputs, next_zero p.bound (good.front.processes_proper p m).some_state)))
