-- A template, a byte at a time: which part of the text is due next, and what is left behind it.
use mathlib.Core.Path.{◌≡◌}
use mathlib.Core.Bool.{Bool, true, false}
use mathlib.Core.List.{List, []}
use Prim.Native.Char.{code}
use Prim.Native.Nat.{ℕ, ◌+◌, ◌<◌, ◌≤◌}
use native.Mathlib.Numerals.{add-one}
use native.Mathlib.Nat.{add-zero}
use native.Mathlib.Omega.{arith}
use lib.Dec.{eqb}
use lib.ListN.{length, get_or, drop, drop_of_length-le}
use lib.Seq.{drop-cons, drop-drop, get_or-drop}
use Rattle.model.specs.Mask.{if}
use Rattle.append.proofs.Appending.{Opens}
use Rattle.template.specs.Template.{part, taken, filled}

-- ---- one byte
-- a hole takes at most two numbers
pub taken_few : (b : ℕ) → taken b ≤ 2
unfolding taken if
taken_few b =
    let lower = either (eqb b (code "?")) 2 0 (omega arith) (omega arith) in
    let states = either (eqb b (code "$")) 1 _ (omega arith) lower in
    let variables = either (eqb b (code "@")) 1 _ (omega arith) states in
    let hexadecimal = either (eqb b (code "%")) 1 _ (omega arith) variables in
    either (eqb b (code "#")) 1 _ (omega arith) hexadecimal
  where
    either : (t : Bool) (n m : ℕ) → n ≤ 2 → m ≤ 2 → if t n m ≤ 2
    either true n m l h = l
    either false n m l h = h

-- ---- the next byte, and those after it
pub filled_open : (template numbers : List ℕ) (k used n m : ℕ) → k < length template → n ≡ get_or numbers used 0 → m ≡ get_or numbers (used + 1) 0
    → Opens (filled (drop k template) (drop used numbers)) (part (get_or template k 0) n m)
    (filled (drop (k + 1) template) (drop (used + taken (get_or template k 0)) numbers))
unfolding filled
filled_open template numbers k used n m h en em =
    let b = get_or template k 0 in
    record { is = rw (add-one k, drop-cons template k 0 h, drop-drop (taken b) used numbers, get_or-drop used numbers 0 0, get_or-drop used numbers 1 0, add-zero used, en, em) }

-- no byte is left
pub filled_end : (template numbers : List ℕ) (k : ℕ) → length template ≤ k → filled (drop k template) numbers ≡ []
unfolding filled
filled_end template numbers k h = rw (drop_of_length-le template {i = k} h)
