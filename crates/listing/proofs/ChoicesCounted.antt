-- The number that is shown is that of the choices: an output mask has 2 values for each of its bits, each bound has as many next states, and tied processes
-- count once.
use mathlib.Core.Path.{◌≡◌, refl, sym, ap, ap₂, ◌∙◌}
use mathlib.Core.Bool.{false}
use mathlib.Core.Logic.{◌⊎◌, inl, inr}
use mathlib.Core.List.{List, [], ◌∷◌, Memᴰ}
use Prim.Native.Nat.{ℕ, zero, suc, ◌+◌, ◌*◌, ◌/◌, ◌%◌, ◌^◌, ◌<◌, ◌≤◌, min}
use native.Mathlib.Nat.{pow-suc, mul-one, mul-mul-mul_comm}
use native.Mathlib.Omega.{arith}
use native.Mathlib.Decide.{ℕ_discrete}
use lib.Bits.{bit_and, and_step}
use lib.Count.{ones, ones_step}
use lib.Dec.{eqb}
use lib.ListN.{length}
use lib.Pow.{pow-add, pow_mono}
use borrow.Author.Tests.{eq-eqb, ne_eqb}
use Rattle.theory.specs.Lists.{put, filter, from, one}
use Rattle.theory.proofs.ListLaws.{filter_length}
use Rattle.model.specs.Mask.{if, within, count}
use Rattle.model.specs.Sheet.{Architecture, ProperArchitecture}
use Rattle.model.specs.Choice.{Entry, output, next, may, values, rows, entries, fillings, choices}
use Rattle.model.proofs.EntryLaws.{entries_have}
use Rattle.ties.specs.Leaders.{entry_leaders}
use Rattle.listing.specs.Listing.{twos, threes, total, leading, once}
use Rattle.listing.proofs.EachCounted.{each_length}
use Rattle.listing.proofs.LeadingRows.{leading_has, leading_rows}
use Rattle.listing.proofs.TiedOnce.{choices_once}

-- ---- an output mask: each of its bits doubles the values
-- two tests that pass together
same_test : (a b c d : ℕ) → (a ≡ b → c ≡ d) → (c ≡ d → a ≡ b) → eqb a b ≡ eqb c d
same_test a b c d there back = by (ℕ_discrete c d)
  where
    by : Dec (c ≡ d) → eqb a b ≡ eqb c d
    by (yes e) = eq-eqb a b (back e) ∙ sym (eq-eqb c d e)
    by (no n) = ne_eqb a b (λ e. n (there e)) ∙ sym (ne_eqb c d n)

-- the lowest digit of a mask
digit? : (m : ℕ) → (m % 2 ≡ 0) ⊎ (m % 2 ≡ 1)
digit? m = by (ℕ_discrete (m % 2) 0)
  where
    by : Dec (m % 2 ≡ 0) → (m % 2 ≡ 0) ⊎ (m % 2 ≡ 1)
    by (yes e) = inl e
    by (no n) = inr (omega arith)

module _ (v m : ℕ) where
  -- a value's bits above the lowest, and the lowest
  and_digits : (b : ℕ) → b < 2 → bit_and (v * 2 + b) m ≡ bit_and v (m / 2) * 2 + min b (m % 2)
  and_digits b h =
      let high : (v * 2 + b) / 2 ≡ v = omega arith in
      let low : (v * 2 + b) % 2 ≡ b = omega arith in
      and_step (v * 2 + b) m ∙ ap₂ (λ (x y : ℕ). bit_and x (m / 2) * 2 + min y (m % 2)) high low

  -- without the lowest bit
  even_may : may (output m) (v * 2 + 0) ≡ may (output (m / 2)) v
  unfolding may within
  even_may = let e = and_digits 0 (omega arith) in same_test (bit_and (v * 2 + 0) m) (v * 2 + 0) (bit_and v (m / 2)) v (λ q. omega (arith, e, q)) (λ q. omega (arith, e, q))

  -- with it, where the mask has it
  odd_may : m % 2 ≡ 1 → may (output m) (v * 2 + 1) ≡ may (output (m / 2)) v
  unfolding may within
  odd_may d = let e = and_digits 1 (omega arith) in same_test (bit_and (v * 2 + 1) m) (v * 2 + 1) (bit_and v (m / 2)) v (λ q. omega (arith, d, e, q)) (λ q. omega (arith, d, e, q))

  -- and where it has not
  odd_not : m % 2 ≡ 0 → may (output m) (v * 2 + 1) ≡ false
  unfolding may within
  odd_not d = let e = and_digits 1 (omega arith) in ne_eqb (bit_and (v * 2 + 1) m) (v * 2 + 1) (λ q. omega (arith, d, e, q))

-- how many of n values from i on the mask allows
abbrev allowed : ℕ → ℕ → ℕ → ℕ
allowed m n i = length (filter (may (output m)) (from n i))

-- two at a time
allowed_two : (m n i : ℕ) → allowed m (suc (suc n)) (i * 2) ≡ one (may (output m) (i * 2 + 0)) + one (may (output m) (i * 2 + 1)) + allowed m n (suc i * 2)
unfolding from
allowed_two m n i =
    let p = may (output m) in
    let even : i * 2 + 0 ≡ i * 2 = omega arith in
    let odd : i * 2 + 1 ≡ suc (i * 2) = omega arith in
    let rest : suc i * 2 ≡ suc (suc (i * 2)) = omega arith in
    rw (even, odd, rest) (omega (arith, filter_length p (i * 2) (from (suc n) (suc (i * 2))), filter_length p (suc (i * 2)) (from n (suc (suc (i * 2))))))

pairs : (m n i : ℕ) → allowed m (n * 2) (i * 2) ≡ (1 + m % 2) * allowed (m / 2) n i
unfolding from filter one
pairs m zero i = omega arith
pairs m (suc n) i = by (digit? m) (pairs m n (suc i))
  where
    long : suc n * 2 ≡ suc (suc (n * 2))
    long = omega arith

    next_one : allowed (m / 2) (suc n) i ≡ one (may (output (m / 2)) i) + allowed (m / 2) n (suc i)
    next_one = filter_length (may (output (m / 2))) i (from n (suc i))

    by : (m % 2 ≡ 0) ⊎ (m % 2 ≡ 1) → allowed m (n * 2) (suc i * 2) ≡ (1 + m % 2) * allowed (m / 2) n (suc i) → allowed m (suc n * 2) (i * 2) ≡ (1 + m % 2) * allowed (m / 2) (suc n) i
    by (inl d) r = rw (long, d) (omega (arith, allowed_two m (n * 2) i, ap one (even_may i m), ap one (odd_not i m d), next_one, rw d at r))
    by (inr d) r = rw (long, d) (omega (arith, allowed_two m (n * 2) i, ap one (even_may i m), ap one (odd_may i m d), next_one, rw d at r))

doubled : (d x : ℕ) → (d ≡ 0) ⊎ (d ≡ 1) → (1 + d) * 2 ^ x ≡ 2 ^ (d + x)
doubled d x (inl e) = let z : 0 + x ≡ x = omega arith in rw (e, z) (omega arith)
doubled d x (inr e) = let z : 1 + x ≡ suc x = omega arith in rw (e, z, pow-suc 2 x) (omega arith)

-- a mask of k bits
masks : (k m : ℕ) → m < 2 ^ k → allowed m (2 ^ k) 0 ≡ 2 ^ ones m
unfolding from filter put may within ones
masks zero m h = let e : m ≡ 0 = omega arith in rw e
masks (suc k) m h =
    let few : m / 2 < 2 ^ k = omega (arith, pow-suc 2 k) in
    rw (pow-suc 2 k)
    (pairs m (2 ^ k) 0 ∙ ap (λ (n : ℕ). (1 + m % 2) * n) (masks k (m / 2) few) ∙ doubled (m % 2) (ones (m / 2)) (digit? m) ∙ ap (λ (n : ℕ). 2 ^ n) (sym (ones_step m)))

-- ---- of all entries
-- an entry has as many values as its exponents say
abbrev Counted : Entry → Type 0
Counted e = length (values e) ≡ 2 ^ twos e * 3 ^ threes e

output_counted : (m : ℕ) → m < 256 → Counted (output m)
unfolding values twos threes count
output_counted m h = masks 8 m h ∙ sym (mul-one (2 ^ ones m))

next_counted : (b : ℕ) → 1 ≤ b → b ≤ 4 → Counted (next b)
unfolding values filter put may from twos threes if
next_counted zero l h = absurd (omega arith)
next_counted (suc zero) l h = refl
next_counted (suc (suc zero)) l h = refl
next_counted (suc (suc (suc zero))) l h = refl
next_counted (suc (suc (suc (suc zero)))) l h = refl
next_counted (suc (suc (suc (suc (suc b))))) l h = absurd (omega arith)

fillings_counted : (es : List Entry) → ((e : Entry) → Memᴰ e es → Counted e) → length (fillings es) ≡ 2 ^ total twos es * 3 ^ total threes es
unfolding fillings total
fillings_counted [] h = refl
fillings_counted (e ∷ es) h =
    let a = twos e in
    let b = threes e in
    let c = total twos es in
    let d = total threes es in
    each_length (values e) (fillings es)
    ∙ ap₂ (λ (x y : ℕ). x * y) (h e (Memᴰ.head refl)) (fillings_counted es (λ f m. h f (Memᴰ.tail m)))
    ∙ mul-mul-mul_comm (2 ^ a) (3 ^ b) (2 ^ c) (3 ^ d)
    ∙ ap₂ (λ (x y : ℕ). x * y) (sym (pow-add 2 a c)) (sym (pow-add 3 b d))

-- ---- of a proper architecture: tied processes once
pub shown_choices : (a : Architecture) → ProperArchitecture a → length (choices a) ≡ 2 ^ total twos (rows (once a)) * 3 ^ total threes (rows (once a))
shown_choices a g =
    let f = g.front in
    let known = pow_mono {i = a.variables} {j = 8} f.few_variables in
    let each-counted = entries_have Counted a (λ p m.
    let own = f.processes_proper p m in
    (output_counted p.outputs (omega (arith, known, own.outputs_known)), next_counted p.bound own.some_state own.few_states)) in
    choices_once a g
    ∙ fillings_counted (leading (entry_leaders a) 0 (entries a)) (λ e m. each-counted e (leading_has (entry_leaders a) 0 (entries a) e m))
    ∙ ap (λ (es : List Entry). 2 ^ total twos es * 3 ^ total threes es) (leading_rows a g)
