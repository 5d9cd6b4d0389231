-- What a test for a mark at the front of the bytes from i on says.
use mathlib.Core.Path.{◌≡◌, refl, sym, ◌∙◌}
use mathlib.Core.Bool.{Bool, true, false, ◌&&◌, not}
use mathlib.Core.List.{List, [], ◌∷◌}
use Prim.Native.Nat.{ℕ, ◌+◌, ◌-◌, ◌≤◌}
use native.Mathlib.Omega.{arith}
use lib.Dec.{eqb, ltb}
use lib.ListN.{length, get_or, take, drop, length-drop}
use Rattle.std.proofs.Common.{get_or-drop, take_all, add-zero}
use borrow.Author.Tests.{le-ltb}
use Rattle.std.specs.List.{starts_with}
use Rattle.std.proofs.lemmas.Bool.Decides.{nat_tests}
use Rattle.model.specs.Reading.{short, marked}

turned : (a b : ℕ) → eqb a b ≡ eqb b a
turned a b = grind (arith, nat_tests)

and_false : (t : Bool) → (t && false) ≡ false
and_false true = refl
and_false false = refl

and_true : (t : Bool) → (t && true) ≡ t
and_true true = refl
and_true false = refl

-- two bytes in front
in_front : (d : List ℕ) (x y : ℕ) → starts_with eqb d (x ∷ y ∷ []) ≡ (not (ltb (length d) 2) && eqb (get_or d 0 0) x && eqb (get_or d 1 0) y)
in_front [] x y = refl
in_front (p ∷ []) x y = and_false (eqb x p)
in_front (p ∷ q ∷ r) x y = rw (le-ltb (length (p ∷ q ∷ r)) 2 (omega arith), and_true (eqb y q), turned x p, turned y q)

-- the bytes from i on start with the mark exactly where it stands at i
pub starts_marked : (b m : List ℕ) (i : ℕ) → i ≤ length b → length m ≡ 2 → marked b i m ≡ starts_with eqb (take (length b - i) (drop i b)) m
unfolding marked short
starts_marked b (x ∷ y ∷ []) i h e =
    let s : ltb (length (drop i b)) 2 ≡ ltb (length b) (i + 2) = grind (arith, nat_tests, length-drop {A = ℕ}) in
    let whole : take (length b - i) (drop i b) ≡ drop i b = take_all (length b - i) (drop i b) (omega (arith, length-drop {A = ℕ})) in
    sym (rw whole (in_front (drop i b) x y ∙ simp (s, get_or-drop, add-zero)))
starts_marked b [] i h e = absurd (omega (arith, e))
starts_marked b (x ∷ []) i h e = absurd (omega (arith, e))
starts_marked b (x ∷ y ∷ z ∷ m) i h e = absurd (omega (arith, e))
