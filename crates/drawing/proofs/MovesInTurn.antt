-- The conditions of a move, an index at a time: which part of the text is due next, and what is left behind it.
use mathlib.Core.Path.{◌≡◌, refl}
use mathlib.Core.Bool.{Bool, true, false, cond}
use mathlib.Core.List.{List, []}
use Prim.Native.Nat.{ℕ, ◌+◌, ◌<◌, ◌≤◌}
use native.Mathlib.Numerals.{add-one}
use native.Mathlib.Omega.{arith}
use lib.Dec.{eqb}
use lib.ListN.{length, get_or, drop, drop_of_length-le}
use lib.Seq.{drop-cons}
use Rattle.std.specs.List.{count_by}
use Rattle.std.proofs.lemmas.List.Recursion.{is_count_by}
use Rattle.theory.specs.Lists.{put, filter}
use Rattle.model.specs.Mask.{if}
use Rattle.append.proofs.Appending.{Opens}
use Rattle.drawing.specs.Drawing.{ways, condition_text, conditions_text}

-- as many ways as the library counts
pub ways_are : (y : ℕ) (next : List ℕ) → ways y next ≡ count_by (λ z. eqb z y) next
unfolding ways filter put
ways_are y = is_count_by (ways y) (λ z. eqb z y) refl (λ z next. more (eqb z y) z (filter (λ z. eqb z y) next))
  where
    more : (b : Bool) (z : ℕ) (rest : List ℕ) → length (put b z rest) ≡ cond b (1 + length rest) (length rest)
    more true z rest = omega arith
    more false z rest = refl

module _ (inputs y : ℕ) (next : List ℕ) (k : ℕ) where
  -- the text from index k on
  abbrev pub conditions_from : List ℕ
  conditions_from = conditions_text inputs y (drop k next) k

-- index k, and those after it
pub conditions_open : (inputs y : ℕ) (next : List ℕ) (k : ℕ) → k < length next
    → Opens (conditions_from inputs y next k) (if (eqb (get_or next k 0) y) (condition_text inputs k) []) (conditions_from inputs y next (k + 1))
unfolding conditions_text
conditions_open inputs y next k h = record { is = rw (add-one k, drop-cons next k 0 h) }

-- no index is left
pub conditions_end : (inputs y : ℕ) (next : List ℕ) (k : ℕ) → length next ≤ k → conditions_from inputs y next k ≡ []
unfolding conditions_text
conditions_end inputs y next k h = rw (drop_of_length-le next {i = k} h)
