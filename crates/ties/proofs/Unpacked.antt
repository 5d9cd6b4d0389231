-- `unpack` is the inverse of `pack` within a mask; the value that a tied entry takes from its leader.
use mathlib.Core.Path.{◌≡◌, refl, sym, ap, ap₂, ◌∙◌}
use mathlib.Core.Bool.{true}
use Prim.Native.Nat.{ℕ, zero, suc, ◌+◌, ◌-◌, ◌*◌, ◌/◌, ◌%◌, ◌^◌, ◌≤◌, ◌<◌, min}
use native.Mathlib.Nat.{mod-lt, pow-suc}
use native.Mathlib.Omega.{arith}
use lib.Bits.{bit_and, and_step, and_zero_r, and_le_r, and_self}
use lib.Count.{ones, ones_step}
use borrow.Author.Tests.{eqb-true, eq-eqb}
use Rattle.theory.proofs.Digits.{digit_turn}
use Rattle.model.specs.Mask.{within, count, packed, pack}
use Rattle.model.specs.Choice.{Entry, output, next, may, packed_value}
use Rattle.model.proofs.ComposedNumbers.{pack_lt}
use Rattle.model.proofs.FirstInOrder.{Small}
use Rattle.ties.specs.Unpack.{unpacked, unpack, unpacked_value, Matches, masks, states}

-- ---- one bit
pub low : (n : ℕ) → n % 2 < 2
low n = mod-lt n (omega arith)

-- the digit that is unpacked, and those above it
pub low_digit : (r d u : ℕ) → r < 2 → d < 2 → (r * d + 2 * u) % 2 ≡ r * d
low_digit zero d u lr ld = omega arith
low_digit (suc zero) d u lr ld = omega arith
low_digit (suc (suc r)) d u lr ld = absurd (omega arith)

pub high_digits : (r d u : ℕ) → r < 2 → d < 2 → (r * d + 2 * u) / 2 ≡ u
high_digits zero d u lr ld = omega arith
high_digits (suc zero) d u lr ld = omega arith
high_digits (suc (suc r)) d u lr ld = absurd (omega arith)

packed_back : (r w : ℕ) → r < 2 → r * (r * (w % 2)) + (1 + r) * (w / (1 + r)) ≡ w
packed_back zero w lr = omega arith
packed_back (suc zero) w lr = omega arith
packed_back (suc (suc r)) w lr = absurd (omega arith)

fewer : (r n w : ℕ) → r < 2 → w < 2 ^ (r + n) → w / (1 + r) < 2 ^ n
fewer zero n w lr l = omega (arith, ap (λ (m : ℕ). 2 ^ m) (same_count n))
  where
    same_count : (n : ℕ) → 0 + n ≡ n
    same_count n = omega arith
fewer (suc zero) n w lr l = omega (arith, ap (λ (m : ℕ). 2 ^ m) (one_more n), pow-suc 2 n)
  where
    one_more : (n : ℕ) → 1 + n ≡ suc n
    one_more n = omega arith
fewer (suc (suc r)) n w lr l = absurd (omega arith)

packed_low : (r d u : ℕ) → r < 2 → d < 2 → r * ((r * d + (1 + r) * u) % 2) ≡ r * d
packed_low zero d u lr ld = omega arith
packed_low (suc zero) d u lr ld = omega arith
packed_low (suc (suc r)) d u lr ld = absurd (omega arith)

packed_high : (r d u : ℕ) → r < 2 → d < 2 → (r * d + (1 + r) * u) / (1 + r) ≡ u
packed_high zero d u lr ld = omega arith
packed_high (suc zero) d u lr ld = omega arith
packed_high (suc (suc r)) d u lr ld = absurd (omega arith)

masked : (r d : ℕ) → r < 2 → d < 2 → min d r ≡ d → r * d ≡ d
masked zero d lr ld e = omega arith
masked (suc zero) d lr ld e = omega arith
masked (suc (suc r)) d lr ld e = absurd (omega arith)

min_digit : (r d : ℕ) → r < 2 → d < 2 → min (r * d) r ≡ r * d
min_digit zero d lr ld = omega arith
min_digit (suc zero) d lr ld = omega arith
min_digit (suc (suc r)) d lr ld = absurd (omega arith)

-- ---- k bits
no_ones : ones 0 ≡ 0
unfolding ones
no_ones = refl

packed_unpacked : (k m w : ℕ) → m < 2 ^ k → w < 2 ^ ones m → packed k m (unpacked k m w) ≡ w
unfolding packed unpacked
packed_unpacked zero m w lm lw = let z : m ≡ 0 = omega arith in omega (arith, ap (λ (n : ℕ). 2 ^ n) (ap ones z ∙ no_ones))
packed_unpacked (suc k) m w lm lw =
    let r : ℕ = m % 2 in
    let u : ℕ = unpacked k (m / 2) (w / (1 + r)) in
    let rest : packed k (m / 2) u ≡ w / (1 + r) =
    packed_unpacked k (m / 2) (w / (1 + r)) (omega (arith, pow-suc 2 k)) (fewer r (ones (m / 2)) w (low m) (rw ones_step at lw)) in
    ap₂ (λ (a b : ℕ). r * a + (1 + r) * packed k (m / 2) b) (low_digit r (w % 2) u (low m) (low w)) (high_digits r (w % 2) u (low m) (low w))
    ∙ ap (λ (x : ℕ). r * (r * (w % 2)) + (1 + r) * x) rest
    ∙ packed_back r w (low m)

unpacked_packed : (k m v : ℕ) → m < 2 ^ k → bit_and v m ≡ v → unpacked k m (packed k m v) ≡ v
unfolding packed unpacked
unpacked_packed zero m v lm e = let z : m ≡ 0 = omega arith in sym (and_zero_r v) ∙ ap (bit_and v) (sym z) ∙ e
unpacked_packed (suc k) m v lm e =
    let r : ℕ = m % 2 in
    let d : ℕ = v % 2 in
    let u : ℕ = packed k (m / 2) (v / 2) in
    let digits : bit_and (v / 2) (m / 2) * 2 + min d r ≡ v = sym (and_step v m) ∙ e in
    let least : min d r < 2 = omega (arith, low m, low v) in
    let rest : unpacked k (m / 2) u ≡ v / 2 = unpacked_packed k (m / 2) (v / 2) (omega (arith, pow-suc 2 k)) (omega arith) in
    let here : r * d ≡ d = masked r d (low m) (low v) (omega arith) in
    ap₂ (λ (a b : ℕ). a + 2 * unpacked k (m / 2) b) (packed_low r d u (low m) (low v)) (packed_high r d u (low m) (low v))
    ∙ omega (arith, rest, here)

unpacked_within : (k m w : ℕ) → bit_and (unpacked k m w) m ≡ unpacked k m w
unfolding unpacked
unpacked_within zero m w = refl
unpacked_within (suc k) m w =
    let r : ℕ = m % 2 in
    let d : ℕ = w % 2 in
    let u : ℕ = unpacked k (m / 2) (w / (1 + r)) in
    and_step (r * d + 2 * u) m
    ∙ ap₂ (λ (a b : ℕ). bit_and a (m / 2) * 2 + min b r) (high_digits r d u (low m) (low w)) (low_digit r d u (low m) (low w))
    ∙ omega (arith, unpacked_within k (m / 2) (w / (1 + r)), min_digit r d (low m) (low w))

pub unpacked_le : (k m w : ℕ) → unpacked k m w ≤ m
unpacked_le k m w = omega (arith, unpacked_within k m w, and_le_r (unpacked k m w) m)

-- ---- the 8 variables
pub pack_unpack : (m w : ℕ) → m < 256 → w < 2 ^ count m → pack m (unpack m w) ≡ w
unfolding pack unpack count
pack_unpack m w lm lw = packed_unpacked 8 m w lm lw

pub unpack_pack : (m v : ℕ) → m < 256 → within v m ≡ true → unpack m (pack m v) ≡ v
unfolding pack unpack within
unpack_pack m v lm e = unpacked_packed 8 m v lm (eqb-true (bit_and v m) v e)

pub unpack_within : (m w : ℕ) → within (unpack m w) m ≡ true
unfolding unpack within
unpack_within m w = eq-eqb (bit_and (unpack m w) m) (unpack m w) (unpacked_within 8 m w)

pub unpack_le : (m w : ℕ) → unpack m w ≤ m
unfolding unpack
unpack_le m w = unpacked_le 8 m w

-- ---- a turn of the loop, from the lowest bit on: r is the lowest bit of m
pub unpacked_turn : (i m w v weight r total : ℕ) → i < 8 → r ≡ m % 2 → v + weight * unpacked (8 - i) m w ≡ total
    → v + weight * (r * (w % 2)) + weight * 2 * unpacked (8 - (i + 1)) (m / 2) (w / (1 + r)) ≡ total
unfolding unpacked
unpacked_turn i m w v weight r total h er e =
    let k : 8 - i ≡ suc (8 - (i + 1)) = omega arith in
    rw er (digit_turn v weight (m % 2 * (w % 2)) 2 (unpacked (8 - (i + 1)) (m / 2) (w / (1 + m % 2))) total (rw k at e))

-- ---- entries
-- a mask within itself is a byte, where all values are
mask_byte : (m : ℕ) → Small (output m) → m < 256
unfolding may within
mask_byte m small = small m (eq-eqb (bit_and m m) m (and_self m))

-- the value that f takes, if e has v: f may have it,
pub follower_may : {e f : Entry} (v : ℕ) → Matches e f → may e v ≡ true → may f (unpacked_value f (packed_value e v)) ≡ true
unfolding may unpacked_value packed_value
follower_may v (masks {m = m} {n = n} h) t = unpack_within n (pack m v)
follower_may v states t = t

-- has with it the same packed value,
pub follower_same : {e f : Entry} (v : ℕ) → Matches e f → Small f → packed_value f (unpacked_value f (packed_value e v)) ≡ packed_value e v
unfolding unpacked_value packed_value
follower_same v (masks {m = m} {n = n} h) small = pack_unpack n (pack m v) (mask_byte n small) (omega (arith, pack_lt m v, ap (λ (x : ℕ). 2 ^ x) h))
follower_same v states small = refl

pub value_back : (f : Entry) (u : ℕ) → Small f → may f u ≡ true → unpacked_value f (packed_value f u) ≡ u
unfolding may unpacked_value packed_value
value_back (output m) u small t = unpack_pack m u (mask_byte m small) t
value_back (next n) u small t = refl

-- and there is no other
pub follower_is : (e f : Entry) (v u : ℕ) → Small f → may f u ≡ true → packed_value f u ≡ packed_value e v → u ≡ unpacked_value f (packed_value e v)
follower_is e f v u small t q = sym (value_back f u small t) ∙ ap (unpacked_value f) q
