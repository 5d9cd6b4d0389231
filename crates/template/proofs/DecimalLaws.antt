-- Laws of numbers in decimal.
use mathlib.Core.Path.{◌≡◌, sym, ap, ◌∙◌}
use mathlib.Core.Logic.{◌⊎◌, inl, inr}
use mathlib.Core.List.{List, [], ◌∷◌, ◌++◌}
use Prim.Native.Nat.{ℕ, zero, suc, ◌/◌, ◌%◌, ◌^◌, ◌<◌, ◌≤◌}
use native.Mathlib.Nat.{pow-suc}
use native.Mathlib.Omega.{arith}
use lib.ListN.{length, length-append}
use Rattle.std.proofs.lemmas.Bool.{cases_lt}
use borrow.Author.Tests.{lt-ltb, le-ltb}
use Rattle.model.specs.Mask.{if}
use Rattle.template.specs.Template.{digit, decimal_in, decimal}

-- below 10 there is one digit
digits_few : (k n : ℕ) → n < 10 → decimal_in (suc k) n ≡ digit n ∷ []
unfolding decimal_in if
digits_few k n h = let e : n % 10 ≡ n = omega arith in rw (e, lt-ltb n 10 h)

-- from 10 on the last digit stands behind the others
digits_more : (k n : ℕ) → 10 ≤ n → decimal_in (suc k) n ≡ decimal_in k (n / 10) ++ (digit (n % 10) ∷ [])
unfolding decimal_in if
digits_more k n h = rw (le-ltb n 10 h)

-- more places than digits change nothing
digits_same : (k m n : ℕ) → n < k → n < m → decimal_in k n ≡ decimal_in m n
digits_same zero m n h l = absurd (omega arith)
digits_same (suc k) zero n h l = absurd (omega arith)
digits_same (suc k) (suc m) n h l = by (digits_same k m (n / 10)) (cases_lt n 10)
  where
    by : (n / 10 < k → n / 10 < m → decimal_in k (n / 10) ≡ decimal_in m (n / 10)) → (n < 10) ⊎ (10 ≤ n) → decimal_in (suc k) n ≡ decimal_in (suc m) n
    by r (inl few) = digits_few k n few ∙ sym (digits_few m n few)
    by r (inr more) = digits_more k n more ∙ ap (λ (l : List ℕ). l ++ (digit (n % 10) ∷ [])) (r (omega arith) (omega arith)) ∙ sym (digits_more m n more)

pub decimal_few : (n : ℕ) → n < 10 → decimal n ≡ digit n ∷ []
unfolding decimal
decimal_few n h = digits_few n n h

pub decimal_more : (n : ℕ) → 10 ≤ n → decimal n ≡ decimal (n / 10) ++ (digit (n % 10) ∷ [])
unfolding decimal
decimal_more n h = digits_more n n h ∙ ap (λ (l : List ℕ). l ++ (digit (n % 10) ∷ [])) (digits_same n (suc (n / 10)) (n / 10) (omega arith) (omega arith))

-- how many digits there are
pub decimal_short : (k n : ℕ) → n < 10 ^ suc k → length (decimal n) ≤ suc k
decimal_short zero n h = omega (arith, ap length (decimal_few n h))
decimal_short (suc k) n h = by (decimal_short k (n / 10)) (cases_lt n 10)
  where
    by : (n / 10 < 10 ^ suc k → length (decimal (n / 10)) ≤ suc k) → (n < 10) ⊎ (10 ≤ n) → length (decimal n) ≤ suc (suc k)
    by r (inl few) = omega (arith, ap length (decimal_few n few))
    by r (inr more) = omega (arith, ap length (decimal_more n more), length-append (decimal (n / 10)) (digit (n % 10) ∷ []), r (omega (arith, pow-suc 10 (suc k))))
