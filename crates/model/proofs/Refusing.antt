-- Tests in order: one that passed refuses, one that failed goes on, and nothing else refuses.
use mathlib.Core.Path.{◌≡◌, refl, ap}
use mathlib.Core.Bool.{Bool, true, false}
use mathlib.Core.Logic.{◌⊎◌, inl, inr}
use Prim.Native.Nat.{ℕ}
use native.Mathlib.Omega.{arith}
use Rattle.model.specs.declared.Refusal.{Refusal}
use Rattle.model.specs.Reading.{Reading, refused, proper, refuse◌when◌else◌, ◌then◌}

module _ {A : Type 0} (r : Refusal) {t : Bool} (k : Reading A) where
  pub stop : t ≡ true → refuse◌when◌else◌ r t k ≡ refused r
  unfolding refuse◌when◌else◌
  stop e = ap (λ (x : Bool). refuse◌when◌else◌ r x k) e

  pub go : t ≡ false → refuse◌when◌else◌ r t k ≡ k
  unfolding refuse◌when◌else◌
  go e = ap (λ (x : Bool). refuse◌when◌else◌ r x k) e

-- a refusal is not what is read
pub refused≢proper : {A : Type 0} (r : Refusal) (a : A) → ¬ (refused r ≡ proper a)
refused≢proper r a e = let z : ◌≡◌ {A = ℕ} 0 1 = cc in omega arith

pub same_refused : {A : Type 0} (q r : Refusal) → ◌≡◌ {A = Reading A} (refused q) (refused r) → q ≡ r
same_refused q r e = cc

-- who is refused was refused by the test, or by what follows it
pub refused_when : {A : Type 0} (r : Refusal) (t : Bool) (k : Reading A) (q : Refusal) → refuse◌when◌else◌ r t k ≡ refused q
    → ((t ≡ true) × (r ≡ q)) ⊎ ((t ≡ false) × (k ≡ refused q))
unfolding refuse◌when◌else◌
refused_when r true k q e = inl (refl, same_refused r q e)
refused_when r false k q e = inr (refl, e)

-- or by what was read first
pub refused_then : {A B : Type 0} (m : Reading A) (f : A → Reading B) (q : Refusal) → ◌then◌ m f ≡ refused q
    → (m ≡ refused q) ⊎ ((a : A) × (m ≡ proper a) × (f a ≡ refused q))
unfolding ◌then◌
refused_then (refused r) f q e = inl (ap refused (same_refused r q e))
refused_then (proper a) f q e = inr (a, refl, e)

pub then_refused : {A B : Type 0} {m : Reading A} (f : A → Reading B) {q : Refusal} → m ≡ refused q → ◌then◌ m f ≡ refused q
unfolding ◌then◌
then_refused f e = ap (λ (m : Reading _). ◌then◌ m f) e

pub then_read : {A B : Type 0} {m : Reading A} (f : A → Reading B) {a : A} → m ≡ proper a → ◌then◌ m f ≡ f a
unfolding ◌then◌
then_read f e = ap (λ (m : Reading _). ◌then◌ m f) e
