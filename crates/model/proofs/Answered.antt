-- What each answer of the reader is to say of the row of bytes, and how that goes along with the reader's tests.
use mathlib.Core.Path.{◌≡◌, refl, sym, ap, ◌∙◌, subst}
use mathlib.Core.Bool.{Bool, true, false, true≢false}
use mathlib.Core.Logic.{◌⊎◌, inl, inr}
use mathlib.Core.List.{List, ◌++◌}
use Prim.Native.Nat.{ℕ, ◌<◌}
use native.Mathlib.Omega.{arith}
use Rattle.model.specs.declared.Refusal.{Refusal}
use Rattle.model.specs.declared.Refusal.TheVariants.{SheetTooShort}
use Rattle.model.specs.Numbers.{number}
use Rattle.model.specs.Mask.{if}
use Rattle.model.specs.Reading.{Reading, refused, proper, refuse◌when◌else◌, ◌then◌}
use Rattle.model.specs.SheetFile.{Unfinished, Faulty, BeginsFaulty}

-- ---- what the row is, by the answer
-- a refused one is unfinished, or begins with a faulty record
abbrev pub Refused : List ℕ → Refusal → Type 0
Refused b r = ((r ≡ SheetTooShort) × Unfinished b) ⊎ (¬ (r ≡ SheetTooShort) × BeginsFaulty b r)

-- and what is read has P
unfoldable pub Answered : {A : Type 0} → (A → Type 0) → List ℕ → Reading A → Type 0
Answered P b (refused r) = Refused b r
Answered P b (proper a) = P a

-- the row ends too early
pub cut : (b x : List ℕ) → b ≡ x → Unfinished x → Refused b SheetTooShort
cut b x e u = inl (refl, subst Unfinished (sym e) u)

-- the row begins with w, which is faulty
pub faulty : {b w : List ℕ} {r : Refusal} (x : List ℕ) → 1 < number r → b ≡ w ++ x → Faulty w r → Refused b r
faulty {b} {w} {r} x l e f = inr (λ same. omega (arith, ap number same), record { faulty = w; rest = x; whole = e; fault = f })

-- a test that passed cannot fail
pub not_both : {t : Bool} → t ≡ true → t ≡ false → ⊥
not_both p q = true≢false (sym p ∙ q)

module _ {A : Type 0} (P : A → Type 0) (b : List ℕ) where
  pub tested : (r : Refusal) (t : Bool) (k : Reading A) → (t ≡ true → Refused b r) → (t ≡ false → Answered P b k) → Answered P b (refuse◌when◌else◌ r t k)
  unfolding Answered refuse◌when◌else◌
  tested r true k f g = f refl
  tested r false k f g = g refl

  pub branched : (t : Bool) (x y : Reading A) → (t ≡ true → Answered P b x) → (t ≡ false → Answered P b y) → Answered P b (if t x y)
  unfolding if
  branched true x y f g = f refl
  branched false x y f g = g refl

pub followed : {A B : Type 0} (P : A → Type 0) (Q : B → Type 0) (b : List ℕ) (m : Reading A) (f : A → Reading B)
    → Answered P b m → ((a : A) → P a → Answered Q b (f a)) → Answered Q b (◌then◌ m f)
unfolding Answered ◌then◌
followed P Q b (refused r) f h g = h
followed P Q b (proper a) f h g = g a h
