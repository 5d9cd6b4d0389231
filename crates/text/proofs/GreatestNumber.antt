-- Laws of the greatest number of an annotation.
use mathlib.Core.Path.{◌≡◌}
use mathlib.Core.Bool.{Bool, true, false}
use mathlib.Core.List.{List, [], ◌∷◌}
use Prim.Native.Nat.{ℕ, suc, ◌+◌, ◌<◌, max}
use native.Mathlib.Numerals.{add-one}
use native.Mathlib.Omega.{arith}
use lib.Dec.{eqb}
use lib.ListN.{length, get_or, drop}
use lib.Seq.{drop-cons}
use Rattle.theory.specs.Lists.{greatest}
use Rattle.model.specs.Mask.{if}
use Rattle.text.specs.Text.{unblank}

-- one number more is taken into the greatest
pub greatest_turn : (l : List ℕ) (k most more : ℕ) → k < length l → more ≡ max most (unblank (get_or l k 0)) → max more (greatest unblank (drop (k + 1) l)) ≡ max most (greatest unblank (drop k l))
unfolding greatest
greatest_turn l k most more h e = rw (add-one k, drop-cons l k 0 h) (omega arith)

-- an annotation's greatest number is one of a word
pub greatest_few : (l : List ℕ) → ((k : ℕ) → get_or l k 0 < 65536) → greatest unblank l < 65536
unfolding greatest unblank if
greatest_few [] h = omega arith
greatest_few (x ∷ xs) h = omega (arith, small (eqb x 65535) (h 0), greatest_few xs (λ k. h (suc k)))
  where
    small : (t : Bool) → x < 65536 → if t 0 x < 65536
    small true k = omega arith
    small false k = k
