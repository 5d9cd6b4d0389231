-- Laws of masks: a shift that leaves nothing, what a union shares, and who owns a variable.
use mathlib.Core.Path.{◌≡◌, refl, sym, ap, ◌∙◌}
use mathlib.Core.Bool.{Bool, true, false, ◌&&◌, ◌||◌, not}
use mathlib.Core.List.{List, [], ◌∷◌}
use Prim.Native.Nat.{ℕ, zero, suc, ◌+◌, ◌-◌, ◌/◌, ◌^◌, ◌<◌, ◌≤◌}
use native.Mathlib.Numerals.{add-one}
use native.Mathlib.Nat.{one-mul, div-eq_of_lt, div-lt_iff_lt-mul}
use native.Mathlib.Omega.{arith}
use lib.Dec.{eqb, leb}
use lib.Pow.{pow_pos}
use lib.Bits.{bit_and, bit_or, and_zero_r, and_le_r, or_add_and}
use borrow.Author.Tests.{leb-true, leb-false, ne_eqb}
use Rattle.theory.specs.Lists.{all, from}
use Rattle.theory.proofs.BitLaws.{bit_of_or, and_or}
use Rattle.theory.proofs.DepthFirst.{empty}
use Rattle.model.specs.Mask.{bit, share, beyond}
use Rattle.model.specs.Sheet.{Process, outputs_of, owned}
use Rattle.model.specs.Reading.{taken}

-- a shift by n leaves something exactly where a bit stands at or above n
pub shifted_out : (m n : ℕ) → not (eqb (m / 2 ^ n) 0) ≡ beyond m n
unfolding beyond
shifted_out m n = by (leb (2 ^ n) m) refl
  where
    by : (t : Bool) → leb (2 ^ n) m ≡ t → not (eqb (m / 2 ^ n) 0) ≡ t
    by false e = rw (div-eq_of_lt {n = m} {m = 2 ^ n} (leb-false (2 ^ n) m e))
    by true e = ap not (ne_eqb (m / 2 ^ n) 0 (λ z.
        let low : m / 2 ^ n < 1 = omega arith in
        omega (arith, one-mul (2 ^ n), leb-true (2 ^ n) m e, (div-lt_iff_lt-mul {x = m} {y = 1} (pow_pos n)).0 low)))

-- the numbers from i on, below e: the first, and the rest
pub all_step : (p : ℕ → Bool) (i e : ℕ) → i < e → all p (from (e - i) i) ≡ (p i && all p (from (e - (i + 1)) (i + 1)))
unfolding all from
all_step p i e h = let n : e - i ≡ suc (e - (i + 1)) = omega arith in rw (n, add-one i)

-- and none behind the last
pub all_end : (p : ℕ → Bool) (i e : ℕ) → e ≤ i → all p (from (e - i) i) ≡ true
unfolding all from
all_end p i e h = let n : e - i ≡ 0 = omega arith in rw n

-- ---- what a mask shares with a union
-- a union is empty where both are
or_empty : (a b : ℕ) → eqb (bit_or a b) 0 ≡ (eqb a 0 && eqb b 0)
or_empty zero b = refl
or_empty (suc a) b = ne_eqb (bit_or (suc a) b) 0 (λ e. omega (arith, or_add_and (suc a) b, and_le_r (suc a) b)) ∙ sym (ap (λ (t : Bool). t && eqb b 0) (ne_eqb (suc a) 0 (λ e. omega arith)))

not_and : (a b : Bool) → not (a && b) ≡ (not a || not b)
not_and true b = refl
not_and false b = refl

share_or : (x a b : ℕ) → share x (bit_or a b) ≡ (share x a || share x b)
unfolding share
share_or x a b = ap (λ (n : ℕ). not (eqb n 0)) (and_or x a b) ∙ ap not (or_empty (bit_and x a) (bit_and x b)) ∙ not_and (eqb (bit_and x a) 0) (eqb (bit_and x b) 0)

-- ---- the mask of all outputs
-- an output is taken where the mask has it
pub taken_is : (ps : List Process) (p : Process) → share p.outputs (outputs_of ps) ≡ taken ps p
unfolding outputs_of share taken
taken_is [] p = rw (and_zero_r p.outputs)
taken_is (q ∷ ps) p = share_or p.outputs q.outputs (outputs_of ps) ∙ ap (λ (t : Bool). share p.outputs q.outputs || t) (taken_is ps p)

-- a variable has an owner where the mask has it
outputs_bit : (ps : List Process) (i : ℕ) → bit (outputs_of ps) i ≡ owned ps i
unfolding outputs_of owned
outputs_bit [] i = empty i
outputs_bit (p ∷ ps) i = bit_of_or p.outputs (outputs_of ps) i ∙ ap (λ (t : Bool). bit p.outputs i || t) (outputs_bit ps i)

-- and so for each of these variables
pub owned_is : (ps : List Process) (is : List ℕ) → all (bit (outputs_of ps)) is ≡ all (owned ps) is
unfolding all
owned_is ps [] = refl
owned_is ps (i ∷ is) = rw (outputs_bit ps i) (ap (λ (t : Bool). owned ps i && t) (owned_is ps is))
