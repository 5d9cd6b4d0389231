-- Loops that append: at each turn the next part of what is due goes behind what was written.
use mathlib.Core.Path.{◌≡◌, refl, sym, ap, ◌∙◌}
use mathlib.Core.List.{List, [], ◌∷◌, ◌++◌, map, map-append, append_assoc, append-nil}
use Prim.Native.Nat.{ℕ, zero, suc, ◌+◌, ◌≤◌}
use native.Mathlib.Omega.{arith}
use lib.ListN.{length, replicate, length-append}
use Rattle.append.specs.Appends.{Appends}
use Rattle.append.proofs.Appended.{append_none, append_more, append_length}

-- what was appended from `start` on, up to `at`, and what is still due are all
pub record Appending (old : List ℕ) (start : ℕ) (all : List ℕ) (at : ℕ) (list due : List ℕ) : Type 0 where
  pub done : List ℕ
  pub so_far : Appends old start done at list
  pub whole : all ≡ done ++ due

-- what is due opens with `new`, and `rest` follows
pub record Opens (due new rest : List ℕ) : Type 0 where
  pub is : due ≡ new ++ rest

-- what is due is the last part
pub opens_last : (due : List ℕ) → Opens due due []
opens_last due = record { is = sym (append-nil due) }

-- before the first turn
pub appending_none : (l : List ℕ) (at : ℕ) (all : List ℕ) → Appending l at all at l all
appending_none l at all = record { done = []; so_far = append_none l at; whole = refl }

module _ {l m all due : List ℕ} {start at : ℕ} (p : Appending l start all at m due) where
  -- a turn
  pub appending_next : {n new rest : List ℕ} {end : ℕ} → Opens due new rest → Appends m at new end n → Appending l start all end n rest
  appending_next {new = new} {rest} o q = record {
    done = p.done ++ new;
    so_far = append_more p.so_far q;
    whole = p.whole ∙ rw o.is (sym (append_assoc p.done new rest));
  }

  -- what is due ends where all does
  appending_ends : at + length due ≡ start + length all
  appending_ends = omega (arith, p.so_far.ends, ap length p.whole, length-append p.done due)

  module _ (room : start + length all ≤ length l) where
    -- the length stays
    pub appending_length : length m ≡ length l
    appending_length = append_length p.so_far (omega (arith, appending_ends))

    -- there is room for the next part
    pub appending_room : {new rest : List ℕ} → Opens due new rest → at + length new ≤ length m
    appending_room {new} {rest} o = omega (arith, appending_ends, appending_length, ap length o.is, length-append new rest)

-- after the last turn
pub appending_all : {l m all : List ℕ} {start at : ℕ} → Appending l start all at m [] → Appends l start all at m
appending_all p = rw (p.whole ∙ append-nil p.done) p.so_far

-- ---- codes of the elements of a list
-- of two lists
pub opens_codes : {A : Type 0} (code : A → ℕ) (xs ys : List A) → Opens (map code (xs ++ ys)) (map code xs) (map code ys)
opens_codes code xs ys = record { is = map-append code xs ys }

-- of the same element n times
pub codes_same : {A : Type 0} (code : A → ℕ) (n : ℕ) (a : A) → map code (replicate n a) ≡ replicate n (code a)
codes_same code zero a = refl
codes_same code (suc n) a = ap (λ (l : List ℕ). code a ∷ l) (codes_same code n a)
