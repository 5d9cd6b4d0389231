-- Zeros behind an annotation do not change its greatest number.
use mathlib.Core.Path.{◌≡◌, refl, ap}
use mathlib.Core.List.{List, [], ◌∷◌, ◌++◌}
use Prim.Native.Nat.{ℕ, zero, suc, max}
use native.Mathlib.Omega.{arith}
use lib.ListN.{length, drop, replicate}
use Rattle.theory.specs.Lists.{greatest}
use Rattle.model.specs.Ascii.{ascii}
use Rattle.model.specs.Mask.{if}
use Rattle.model.specs.Calls.{front}
use Rattle.template.specs.Template.{filled}
use Rattle.text.specs.Text.{unblank, greatest_text}
use Rattle.annotate.specs.Printed.{annotation₀}

greatest_append : (xs ys : List ℕ) → greatest unblank (xs ++ ys) ≡ max (greatest unblank xs) (greatest unblank ys)
unfolding greatest
greatest_append [] ys = omega arith
greatest_append (x ∷ xs) ys = omega (arith, greatest_append xs ys)

greatest_zeros : (n m : ℕ) → greatest unblank (drop n (replicate m 0)) ≡ 0
unfolding greatest unblank if
greatest_zeros zero zero = refl
greatest_zeros (suc n) zero = refl
greatest_zeros zero (suc m) = omega (arith, greatest_zeros zero m)
greatest_zeros (suc n) (suc m) = greatest_zeros n m

pub text_front : (a : List ℕ) → greatest_text (front a annotation₀) ≡ greatest_text a
unfolding front
text_front a =
    let zeros = drop (length a) annotation₀ in
    let e : greatest unblank (a ++ zeros) ≡ greatest unblank a = omega (arith, greatest_append a zeros, greatest_zeros (length a) 4096) in
    ap (λ (n : ℕ). filled (ascii "greatest #\n") (n ∷ [])) e
