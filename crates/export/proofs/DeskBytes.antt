-- A desk as five bytes, and back: the one form is the other. So a refusal leaves a C caller's five bytes.
use mathlib.Core.Path.{◌≡◌, refl, sym, ap, ◌∙◌}
use mathlib.Core.List.{List, [], ◌∷◌}
use Prim.Native.Nat.{ℕ, zero, suc}
use native.Mathlib.Omega.{arith}
use lib.ListN.{length, get_or, take}
use Rattle.model.specs.declared.Refusal.{Refusal}
use Rattle.model.specs.declared.ProcessState.{ProcessState}
use Rattle.model.specs.declared.Desk.{Desk}
use Rattle.model.specs.Desk.{numbers, process_states, fresh_of, step_of}
use Rattle.model.proofs.DeskRefusals.{fresh_kept, step_kept}
use Rattle.export.specs.After.{desk_of, bytes_of}
use Rattle.std.specs.Prelude.{Err}

-- n elements, from number i on
abbrev spell : {A : Type 0} → A → List A → (n i : ℕ) → List A
spell d xs zero i = []
spell d xs (suc n) i = get_or xs i d ∷ spell d xs n (suc i)

spelt_behind : {A : Type 0} (d x : A) (xs : List A) (n i : ℕ) → spell d (x ∷ xs) n (suc i) ≡ spell d xs n i
spelt_behind d x xs zero i = refl
spelt_behind d x xs (suc n) i = ap (λ (l : List _). get_or xs i d ∷ l) (spelt_behind d x xs n (suc i))

-- a list of n elements is these
spelt : {A : Type 0} (d : A) (n : ℕ) (xs : List A) → length xs ≡ n → spell d xs n 0 ≡ xs
spelt d zero [] e = refl
spelt d zero (x ∷ xs) e = absurd (omega arith)
spelt d (suc n) [] e = absurd (omega arith)
spelt d (suc n) (x ∷ xs) e = ap (λ (l : List _). x ∷ l) (spelt_behind d x xs n 0 ∙ spelt d n xs (omega arith))

-- four of five bytes as states, and four states as bytes
pub four_states : (xs : List ℕ) → length xs ≡ 5
    → (record { 0 = get_or xs 0 0 } ∷ record { 0 = get_or xs 1 0 } ∷ record { 0 = get_or xs 2 0 } ∷ record { 0 = get_or xs 3 0 } ∷ []) ≡ process_states (take 4 xs)
four_states xs e = ap (λ (l : List ℕ). process_states (take 4 l)) (spelt 0 5 xs e)

pub four_bytes : (xs : List ProcessState) (x : ProcessState) → length xs ≡ 4 → ((get_or xs 0 x).0 ∷ (get_or xs 1 x).0 ∷ (get_or xs 2 x).0 ∷ (get_or xs 3 x).0 ∷ []) ≡ numbers xs
four_bytes xs x e = ap (λ (l : List ProcessState). numbers l) (spelt x 4 xs e)

-- there and back
pub same_bytes : (bytes : List ℕ) → length bytes ≡ 5 → bytes_of (desk_of bytes) ≡ bytes
unfolding desk_of bytes_of
same_bytes bytes e = let s = spelt 0 5 bytes e in sym (ap (λ (l : List ℕ). bytes_of (desk_of l)) s) ∙ s

pub same_desk : (k : Desk) → length k.states ≡ 4 → desk_of (bytes_of k) ≡ k
unfolding desk_of bytes_of
same_desk k e =
    let s = ap {B = Desk} (λ l. record { states = l; environment = k.environment }) (spelt (record { 0 = 0 }) 4 k.states e) in
    sym (ap (λ (x : Desk). desk_of (bytes_of x)) s) ∙ s

-- a refusal leaves the five bytes
module _ (sheet bytes : List ℕ) (five : length bytes ≡ 5) (r : Refusal) where
  pub fresh_leaves : (fresh_of sheet (desk_of bytes)).answer ≡ Err r → bytes_of (fresh_of sheet (desk_of bytes)).desk ≡ bytes
  fresh_leaves e = ap bytes_of (fresh_kept sheet (desk_of bytes) r e) ∙ same_bytes bytes five

  pub step_leaves : (book : List ℕ) (d : ℕ) → (step_of sheet book (desk_of bytes) d).answer ≡ Err r → bytes_of (step_of sheet book (desk_of bytes) d).desk ≡ bytes
  step_leaves book d e = ap bytes_of (step_kept sheet book (desk_of bytes) d r e) ∙ same_bytes bytes five
