-- The index that inputs make is that of their values: it depends on the bits at the inputs alone, and tells each of them.
use mathlib.Core.Path.{◌≡◌, refl, sym, ap₂, ◌∙◌}
use mathlib.Core.Bool.{true, true≢false}
use mathlib.Core.Logic.{◌↔◌}
use Prim.Native.Nat.{ℕ, zero, suc, ◌+◌, ◌*◌, ◌/◌, ◌%◌, ◌^◌, ◌<◌}
use native.Mathlib.Nat.{div-one, mod-lt, pow-suc, zero-lt-suc}
use native.Mathlib.Omega.{arith}
use borrow.Author.Tests.{eqb-true, eq-eqb}
use Rattle.theory.proofs.BitLaws.{bit_low, bit_high}
use Rattle.theory.proofs.DepthFirst.{empty}
use Rattle.model.specs.Mask.{bit, packed, pack}

-- v and w have the same bits at m
abbrev pub AgreeAt : ℕ → ℕ → ℕ → Type 0
AgreeAt m v w = (i : ℕ) → bit m i ≡ true → bit v i ≡ bit w i

-- ---- the lowest bit and the others
-- the lowest bit is the remainder
lowest : (m : ℕ) → (bit m 0 ≡ true) ↔ (m % 2 ≡ 1)
unfolding bit
lowest m = (λ e. rw (div-one m) at (eqb-true (m / 1 % 2) 1 e), λ e. eq-eqb (m / 1 % 2) 1 (rw (div-one m) e))

-- equal remainders are equal lowest bits
low_bit : (v w : ℕ) → v % 2 ≡ w % 2 → bit v 0 ≡ bit w 0
unfolding bit
low_bit v w e = rw (div-one v, div-one w, e)

-- the other bits agree
halves : (m v w : ℕ) → AgreeAt m v w → AgreeAt (m / 2) (v / 2) (w / 2)
halves m v w h i e = sym (bit_high v i) ∙ h (suc i) (bit_high m i ∙ e) ∙ bit_high w i

-- a digit that counts once or not at all
weighed : (r x y : ℕ) → r < 2 → (r ≡ 1 → x ≡ y) → r * x ≡ r * y
weighed zero x y l h = omega arith
weighed (suc zero) x y l h = omega (arith, h refl)
weighed (suc (suc r)) x y l h = absurd (omega arith)

-- it can be told from the rest
unweighed : (r x y k n : ℕ) → r < 2 → x < 2 → y < 2 → r * x + (1 + r) * k ≡ r * y + (1 + r) * n → (k ≡ n) × (r ≡ 1 → x ≡ y)
unweighed zero x y k n l lx ly e = (omega arith, λ z. absurd (omega arith))
unweighed (suc zero) x y k n l lx ly e = (omega arith, λ z. omega arith)
unweighed (suc (suc r)) x y k n l lx ly e = absurd (omega arith)

-- ---- both ways
-- equal bits at m are packed alike
packed_same : (k m v w : ℕ) → AgreeAt m v w → packed k m v ≡ packed k m w
unfolding packed
packed_same zero m v w h = refl
packed_same (suc k) m v w h =
    ap₂ (λ (x y : ℕ). x + (1 + m % 2) * y) (weighed (m % 2) (v % 2) (w % 2) (mod-lt m (zero-lt-suc 1)) (λ e. bit_low v w (h 0 ((lowest m).1 e))))
    (packed_same k (m / 2) (v / 2) (w / 2) (halves m v w h))

-- from the lowest bit and the others
whole : (m v w : ℕ) → (m % 2 ≡ 1 → v % 2 ≡ w % 2) → AgreeAt (m / 2) (v / 2) (w / 2) → AgreeAt m v w
whole m v w low high zero h = low_bit v w (low ((lowest m).0 h))
whole m v w low high (suc i) h = bit_high v i ∙ high i (sym (bit_high m i) ∙ h) ∙ sym (bit_high w i)

-- what is packed alike has equal bits at m
packed_tells : (k m v w : ℕ) → m < 2 ^ k → packed k m v ≡ packed k m w → AgreeAt m v w
unfolding packed
packed_tells zero m v w few e i h = let z : m ≡ 0 = omega arith in absurd (true≢false (sym (rw z at h) ∙ empty i))
packed_tells (suc k) m v w few e i h =
    let digits = unweighed (m % 2) (v % 2) (w % 2) (packed k (m / 2) (v / 2)) (packed k (m / 2) (w / 2)) (mod-lt m (zero-lt-suc 1)) (mod-lt v (zero-lt-suc 1)) (mod-lt w (zero-lt-suc 1)) e in
    whole m v w digits.1 (packed_tells k (m / 2) (v / 2) (w / 2) (omega (arith, pow-suc 2 k)) digits.0) i h

-- for masks of bytes
pub pack_agrees : (m v w : ℕ) → m < 256 → (pack m v ≡ pack m w) ↔ AgreeAt m v w
unfolding pack
pack_agrees m v w few = (packed_tells 8 m v w few, packed_same 8 m v w)
