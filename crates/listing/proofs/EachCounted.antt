-- How many of the lists that values make in front of others pass a test: as many for each value, or all for one value alone.
use mathlib.Core.Path.{◌≡◌, refl, ap, ◌∙◌}
use mathlib.Core.Bool.{Bool, false}
use mathlib.Core.List.{List, [], ◌∷◌, ◌++◌, map, Memᴰ}
use Prim.Native.Nat.{ℕ, ◌+◌, ◌*◌}
use native.Mathlib.Nat.{suc-mul}
use native.Mathlib.Omega.{arith}
use lib.ListN.{length, length-append, length-map}
use Rattle.theory.specs.Lists.{filter, one}
use Rattle.theory.proofs.ListLaws.{filter_length}
use Rattle.model.specs.Choice.{each}
use Rattle.model.proofs.FirstInOrder.{Rising, flat, up}

-- ---- of any list
filter_parts : {A : Type 0} (p : A → Bool) (xs ys : List A) → length (filter p (xs ++ ys)) ≡ length (filter p xs) + length (filter p ys)
unfolding filter
filter_parts p [] ys = omega arith
filter_parts p (x ∷ xs) ys = omega (arith, filter_length p x (xs ++ ys), filter_length p x xs, filter_parts p xs ys)

filter_map : {A B : Type 0} (p : B → Bool) (f : A → B) (xs : List A) → length (filter p (map f xs)) ≡ length (filter (λ x. p (f x)) xs)
unfolding filter
filter_map p f [] = refl
filter_map p f (x ∷ xs) = omega (arith, filter_length p (f x) (map f xs), filter_length (λ x. p (f x)) x xs, filter_map p f xs)

pub filter_none : {A : Type 0} (p : A → Bool) (xs : List A) → ((x : A) → p x ≡ false) → length (filter p xs) ≡ 0
unfolding filter one
filter_none p [] h = refl
filter_none p (x ∷ xs) h = omega (arith, filter_length p x xs, ap one (h x), filter_none p xs h)

-- ---- of values in front of lists
pub each_length : (vs : List ℕ) (cs : List (List ℕ)) → length (each vs cs) ≡ length vs * length cs
unfolding each
each_length [] cs = omega arith
each_length (v ∷ vs) cs =
    omega (arith, length-append (map (λ c. v ∷ c) cs) (each vs cs), length-map cs (λ (c : List ℕ). v ∷ c), each_length vs cs, suc-mul (length vs) (length cs))

module _ (p : List ℕ → Bool) (cs : List (List ℕ)) where
  -- how many pass behind v
  abbrev behind : ℕ → ℕ
  behind v = length (filter (λ c. p (v ∷ c)) cs)

  each_step : (v : ℕ) (vs : List ℕ) → length (filter p (each (v ∷ vs) cs)) ≡ behind v + length (filter p (each vs cs))
  unfolding each
  each_step v vs = filter_parts p (map (λ c. v ∷ c) cs) (each vs cs) ∙ ap (λ (n : ℕ). n + length (filter p (each vs cs))) (filter_map p (λ (c : List ℕ). v ∷ c) cs)

  -- behind each value the same
  pub each_same : (n : ℕ) (vs : List ℕ) → ((v : ℕ) → Memᴰ v vs → behind v ≡ n) → length (filter p (each vs cs)) ≡ length vs * n
  unfolding each filter
  each_same n [] h = omega arith
  each_same n (v ∷ vs) h = omega (arith, each_step v vs, h v (Memᴰ.head refl), each_same n vs (λ w m. h w (Memᴰ.tail m)), suc-mul (length vs) n)

  -- behind one value alone
  pub each_one : (u : ℕ) {vs : List ℕ} → Rising vs → Memᴰ u vs → ((v : ℕ) → Memᴰ v vs → ¬ (v ≡ u) → behind v ≡ 0) → length (filter p (each vs cs)) ≡ behind u
  each_one u flat m none = elim m [ ]
  each_one u (up {x = x} {xs = vs} h r) (Memᴰ.head e) none =
      let rest = each_same 0 vs (λ v m. none v (Memᴰ.tail m) (λ q. omega (arith, h v m))) in
      omega (arith, each_step x vs, ap behind e, rest)
  each_one u (up {x = x} {xs = vs} h r) (Memᴰ.tail m) none =
      omega (arith, each_step x vs, none x (Memᴰ.head refl) (λ q. omega (arith, h u m)), each_one u r m (λ v i. none v (Memᴰ.tail i)))
