-- Settling all entries of one leader, in place of `set`: length, there, elsewhere, twice, and where nothing changes.
use mathlib.Core.Path.{◌≡◌, refl, sym, ap, ap₂, ◌∙◌}
use mathlib.Core.Bool.{Bool, true, false}
use mathlib.Core.List.{List, [], ◌∷◌}
use Prim.Native.Nat.{ℕ, zero, suc, ◌+◌, ◌<◌}
use native.Mathlib.Omega.{arith}
use lib.Dec.{eqb}
use lib.ListN.{length, get_or, take}
use borrow.Author.Tests.{eqb-true, eq-eqb, ne_eqb}
use Rattle.model.specs.Mask.{if}
use Rattle.ties.specs.Groups.{set_group_from, set_group}

-- place i of the list is in the group of l
abbrev pub InGroup : List ℕ → ℕ → ℕ → Type 0
InGroup ls l i = (i < length ls) × (get_or ls i 0 ≡ l)

-- ---- from place k on
module _ (f : ℕ → ℕ) (l : ℕ) where
  long_from : (ls : List ℕ) (k : ℕ) (xs : List ℕ) → length (set_group_from f ls l k xs) ≡ length xs
  unfolding set_group_from
  long_from [] k xs = refl
  long_from (m ∷ ms) k [] = refl
  long_from (m ∷ ms) k (x ∷ xs) = ap suc (long_from ms (suc k) xs)

  there_from : (ls : List ℕ) (k : ℕ) (xs : List ℕ) (i : ℕ) → i < length ls → i < length xs → get_or ls i 0 ≡ l → get_or (set_group_from f ls l k xs) i 0 ≡ f (k + i)
  unfolding set_group_from if
  there_from [] k xs i h hx e = absurd (omega arith)
  there_from (m ∷ ms) k [] i h hx e = absurd (omega arith)
  there_from (m ∷ ms) k (x ∷ xs) zero h hx e = ap (λ (b : Bool). if b (f k) x) (eq-eqb m l e) ∙ ap f (omega arith)
  there_from (m ∷ ms) k (x ∷ xs) (suc i) h hx e = there_from ms (suc k) xs i (omega arith) (omega arith) e ∙ ap f (omega arith)

  elsewhere_from : (ls : List ℕ) (k : ℕ) (xs : List ℕ) (i : ℕ) → ¬ InGroup ls l i → get_or (set_group_from f ls l k xs) i 0 ≡ get_or xs i 0
  unfolding set_group_from if
  elsewhere_from [] k xs i d = refl
  elsewhere_from (m ∷ ms) k [] i d = refl
  elsewhere_from (m ∷ ms) k (x ∷ xs) zero d = ap (λ (b : Bool). if b (f k) x) (ne_eqb m l (λ e. d (omega arith, e)))
  elsewhere_from (m ∷ ms) k (x ∷ xs) (suc i) d = elsewhere_from ms (suc k) xs i (λ h. d (omega (arith, h.0), h.1))

  twice_from : (g : ℕ → ℕ) (ls : List ℕ) (k : ℕ) (xs : List ℕ) → set_group_from f ls l k (set_group_from g ls l k xs) ≡ set_group_from f ls l k xs
  unfolding set_group_from if
  twice_from g [] k xs = refl
  twice_from g (m ∷ ms) k [] = refl
  twice_from g (m ∷ ms) k (x ∷ xs) = ap₂ (λ (y : ℕ) (ys : List ℕ). y ∷ ys) (by (eqb m l)) (twice_from g ms (suc k) xs)
    where
      by : (b : Bool) → if b (f k) (if b (g k) x) ≡ if b (f k) x
      by true = refl
      by false = refl

  same_from : (ls : List ℕ) (k : ℕ) (xs : List ℕ) → ((i : ℕ) → i < length xs → InGroup ls l i → get_or xs i 0 ≡ f (k + i)) → set_group_from f ls l k xs ≡ xs
  unfolding set_group_from if
  same_from [] k xs h = refl
  same_from (m ∷ ms) k [] h = refl
  same_from (m ∷ ms) k (x ∷ xs) h =
      ap₂ (λ (y : ℕ) (ys : List ℕ). y ∷ ys) (by (eqb m l) refl) (same_from ms (suc k) xs (λ i hx g. h (suc i) (omega arith) (omega (arith, g.0), g.1) ∙ ap f (omega arith)))
    where
      by : (b : Bool) → eqb m l ≡ b → if b (f k) x ≡ x
      by true e = sym (h 0 (omega arith) (omega arith, eqb-true m l e) ∙ ap f (omega arith))
      by false e = refl

  take_from : (n : ℕ) (ls : List ℕ) (k : ℕ) (xs : List ℕ) → take n (set_group_from f ls l k xs) ≡ set_group_from f ls l k (take n xs)
  unfolding set_group_from
  take_from n [] k xs = refl
  take_from zero (m ∷ ms) k xs = refl
  take_from (suc n) (m ∷ ms) k [] = refl
  take_from (suc n) (m ∷ ms) k (x ∷ xs) = ap (λ (ys : List ℕ). if (eqb m l) (f k) x ∷ ys) (take_from n ms (suc k) xs)

-- ---- the whole list
module _ (f : ℕ → ℕ) (ls : List ℕ) (l : ℕ) where
  pub settled_long : (xs : List ℕ) → length (set_group f ls l xs) ≡ length xs
  unfolding set_group
  settled_long xs = long_from f l ls 0 xs

  pub settled_there : (xs : List ℕ) (i : ℕ) → i < length ls → i < length xs → get_or ls i 0 ≡ l → get_or (set_group f ls l xs) i 0 ≡ f i
  unfolding set_group
  settled_there xs i h hx e = there_from f l ls 0 xs i h hx e ∙ ap f (omega arith)

  pub settled_elsewhere : (xs : List ℕ) (i : ℕ) → ¬ InGroup ls l i → get_or (set_group f ls l xs) i 0 ≡ get_or xs i 0
  unfolding set_group
  settled_elsewhere xs i d = elsewhere_from f l ls 0 xs i d

  -- the second time counts
  pub settled_twice : (g : ℕ → ℕ) (xs : List ℕ) → set_group f ls l (set_group g ls l xs) ≡ set_group f ls l xs
  unfolding set_group
  settled_twice g xs = twice_from f l g ls 0 xs

  -- where the values are there already, nothing changes
  pub settled_same : (xs : List ℕ) → ((i : ℕ) → i < length xs → InGroup ls l i → get_or xs i 0 ≡ f i) → set_group f ls l xs ≡ xs
  unfolding set_group
  settled_same xs h = same_from f l ls 0 xs (λ i hx g. h i hx g ∙ ap f (omega arith))

  -- in a part from the front, as in all
  pub settled_take : (n : ℕ) (xs : List ℕ) → take n (set_group f ls l xs) ≡ set_group f ls l (take n xs)
  unfolding set_group
  settled_take n xs = take_from f l n ls 0 xs
