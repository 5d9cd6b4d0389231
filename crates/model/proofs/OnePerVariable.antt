-- One EX stands for one ED for each variable of its masks: masks fail to match a label at some variable, and the ED of a variable asks that they fail there.
use mathlib.Core.Path.{◌≡◌, refl, sym, ap, ◌∙◌}
use mathlib.Core.Bool.{Bool, true, false, not, ◌&&◌, ◌||◌, and-true, not-not}
use mathlib.Core.Logic.{⊎_elim, ⊎_map, ◌↔◌}
use mathlib.Core.List.Memᴰ
use mathlib.Core.List.{List, map, Memᴰ}
use Prim.Native.Nat.{ℕ, zero, suc, ◌*◌, ◌/◌, ◌%◌, ◌^◌, ◌<◌}
use native.Mathlib.Nat.{zero-mul, mul-zero, mul-one, one-mul, mul_comm, zero-div, pow-suc, eq_of_mul-eq-mul_left}
use native.Mathlib.Omega.{arith}
use lib.Dec.{eqb}
use lib.Pow.{pow_pos, high_ones}
use lib.Bits.{bit_and, and_step, and_high, and_comm, and_zero_l}
use borrow.Author.Tests.{eq-eqb, ne_eqb, eqb-true, eqb-false, not-true}
use Rattle.theory.specs.Lists.{filter, from, one}
use Rattle.theory.proofs.BitLaws.{digit_suc, digit_and}
use Rattle.theory.proofs.Bools.{and_is, or_is, bool_cases}
use Rattle.theory.proofs.ListLaws.{filter_sound, filter_complete, from_has}
use Rattle.model.specs.Mask.{if, bit, within, share}
use Rattle.model.specs.Sheet.{Edge}
use Rattle.model.specs.RunGraph.{matches, meets, met}
use Rattle.model.specs.Demands.{as_ex, with_masks, one_per_variable}

-- the value of variable i in a mask or a label
abbrev digit : ℕ → ℕ → ℕ
digit m i = m / 2 ^ i % 2

-- the label l has the value c at each variable of m
abbrev only : Bool → ℕ → ℕ → Bool
only c m l = eqb (bit_and m l) (m * one c)

-- a variable of m, below k, at which l has the other value
abbrev Differs : Bool → ℕ → ℕ → ℕ → Type 0
Differs c k m l = (i : ℕ) × (i < k) × (digit m i ≡ 1) × (digit l i ≡ one (not c))

-- ---- a label that does not have c at each variable of m differs at one, and the other way round
-- where no variable above 0 differs, variable 0 does
lowest : (c : Bool) (k m l : ℕ) → only c m l ≡ false → only c (m / 2) (l / 2) ≡ true → Differs c (suc k) m l
unfolding one
lowest true k m l h e = (0, omega arith, omega (arith, and_step m l, eqb-true, eqb-false), omega (arith, and_step m l, eqb-true, eqb-false))
lowest false k m l h e = (0, omega arith, omega (arith, and_step m l, eqb-true, eqb-false), omega (arith, and_step m l, eqb-true, eqb-false))

some_differs : (c : Bool) (k m l : ℕ) → m < 2 ^ k → only c m l ≡ false → Differs c k m l
some_differs c zero m l few h = let z : m ≡ 0 = omega arith in absurd (eqb-false (bit_and m l) (m * one c) h (rw z (and_zero_l l ∙ sym (zero-mul (one c)))))
some_differs c (suc k) m l few h =
    ⊎_elim (λ e. lowest c k m l h e)
    (λ e. let r = some_differs c k (m / 2) (l / 2) (omega (arith, pow-suc 2 k)) e in (suc r.0, omega arith, digit_suc m r.0 ∙ r.2, digit_suc l r.0 ∙ r.3))
    (bool_cases (only c (m / 2) (l / 2)))

differs_fails : (c : Bool) (i m l : ℕ) → digit m i ≡ 1 → digit l i ≡ one (not c) → only c m l ≡ false
unfolding one
differs_fails true i m l x y = ne_eqb (bit_and m l) (m * 1) (λ e. omega (arith, digit_and m l i, ap (λ (n : ℕ). digit n i) (e ∙ mul-one m)))
differs_fails false i m l x y = ne_eqb (bit_and m l) (m * 0) (λ e. omega (arith, digit_and m l i, ap (λ (n : ℕ). digit n i) (e ∙ mul-zero m), zero-div (2 ^ i)))

-- a mask of one variable
alone : (c : Bool) (i l : ℕ) → (only c (2 ^ i) l ≡ true) ↔ (digit l i ≡ one c)
alone c i l = (λ h. eq_of_mul-eq-mul_left (2 ^ i) (pow_pos i) (digit l i) (one c) (sym common ∙ eqb-true _ _ h), λ y. eq-eqb _ _ (common ∙ ap (λ (d : ℕ). 2 ^ i * d) y))
  where
    common : bit_and (2 ^ i) l ≡ 2 ^ i * digit l i
    common = and_comm (2 ^ i) l ∙ ap (bit_and l) (sym (high_ones 1 i ∙ one-mul (2 ^ i))) ∙ and_high l 1 i ∙ mul_comm (digit l i) (2 ^ i)

-- ---- the two masks of an edge
-- the mask for c: the variables that are to have the value c
abbrev mask : Bool → Edge → ℕ
mask true e = e.on
mask false e = e.off

matches_is : (e : Edge) (l : ℕ) → matches e l ≡ (only true e.on l && only false e.off l)
unfolding matches within share one
matches_is e l = rw (mul-one e.on, mul-zero e.off, not-not (eqb (bit_and e.off l) 0))

-- two tests do not both pass where one of them fails
one_fails : (f a b : Bool) → (f && not (a && b)) ≡ ((f && not a) || (f && not b))
one_fails false a b = refl
one_fails true false b = refl
one_fails true true b = refl

module _ (e : Edge) (q l : ℕ) where
  -- the ED for variable i of the mask for c: it asks for the other value
  abbrev single : Bool → ℕ → Edge
  single true i = with_masks e 0 (2 ^ i)
  single false i = with_masks e (2 ^ i) 0

  single_met : (c : Bool) (i : ℕ) → met (single c i) q l ≡ (eqb e.from q && only (not c) (2 ^ i) l)
  unfolding met meets if
  single_met true i = rw (matches_is (single true i) l, and_zero_l l, zero-mul (one true))
  single_met false i = rw (matches_is (single false i) l, and_zero_l l, zero-mul (one false), and-true (only true (2 ^ i) l))

  -- the EDs for the variables of the mask for c
  abbrev singles : Bool → List Edge
  singles c = map (single c) (filter (bit (mask c e)) (from 8 0))

  -- e leads out of q, and the label does not match its mask for c
  abbrev failing : Bool → Bool
  failing c = eqb e.from q && not (only c (mask c e) l)

  there : (c : Bool) → mask c e < 256 → failing c ≡ true → (d : Edge) × Memᴰ d (singles c) × (met d q l ≡ true)
  unfolding bit
  there c few f =
      let h = (and_is (eqb e.from q) _).0 f in
      let r = some_differs c 8 (mask c e) l few (not-true _ h.1) in
      let m = filter_complete (bit (mask c e)) r.0 (from 8 0) (from_has 8 0 r.0 (omega arith) (omega arith)) (eq-eqb _ _ r.2) in
      (single c r.0, Memᴰ.map (single c) m, single_met c r.0 ∙ (and_is (eqb e.from q) _).1 (h.0, (alone (not c) r.0 l).1 r.3))

  back : (c : Bool) (d : Edge) → met d q l ≡ true → Memᴰ d (singles c) → failing c ≡ true
  unfolding bit
  back c d x m =
      let s = Memᴰ.of_map (single c) (filter (bit (mask c e)) (from 8 0)) m in
      let h = (and_is (eqb e.from q) _).0 (sym (single_met c s.0) ∙ ap (λ (z : Edge). met z q l) s.2 ∙ x) in
      let f = differs_fails c s.0 (mask c e) l (eqb-true _ _ (filter_sound (bit (mask c e)) s.0 (from 8 0) s.1).1) ((alone (not c) s.0 l).0 h.1) in
      (and_is (eqb e.from q) _).1 (h.0, ap not f)

  -- the EX is met by one mask or by the other
  ex : met (as_ex e) q l ≡ (failing true || failing false)
  unfolding met meets if
  ex = rw (matches_is e l) (one_fails (eqb e.from q) (only true e.on l) (only false e.off l))

  pub in_place_of : e.on < 256 → e.off < 256 → (met (as_ex e) q l ≡ true) ↔ ((d : Edge) × Memᴰ d (one_per_variable e) × (met d q l ≡ true))
  unfolding one_per_variable
  in_place_of on off = (
    λ h. ⊎_elim (λ x. let r = there true on x in (r.0, Memᴰ.append_left (singles false) r.1, r.2))
        (λ x. let r = there false off x in (r.0, Memᴰ.append_right (singles true) r.1, r.2)) ((or_is (failing true) (failing false)).0 (sym ex ∙ h)),
    λ h. ex ∙ (or_is (failing true) (failing false)).1 (⊎_map (back true h.0 h.2) (back false h.0 h.2) (Memᴰ.append_cases (singles true) h.1)),
  )

  -- each has e's end
  pub same_end : (d : Edge) → Memᴰ d (one_per_variable e) → d.to ≡ e.to
  unfolding one_per_variable
  same_end d m = ⊎_elim (own true) (own false) (Memᴰ.append_cases (singles true) m)
    where
      own : (c : Bool) → Memᴰ d (singles c) → d.to ≡ e.to
      own true i = sym (ap (λ (z : Edge). z.to) (Memᴰ.of_map (single true) (filter (bit e.on) (from 8 0)) i).2)
      own false i = sym (ap (λ (z : Edge). z.to) (Memᴰ.of_map (single false) (filter (bit e.off) (from 8 0)) i).2)
