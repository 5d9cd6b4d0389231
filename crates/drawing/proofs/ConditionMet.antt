-- What is drawn as the condition of an index is right: read as the masks of an ED, it is met by exactly the values whose index this is.
use mathlib.Core.Path.{◌≡◌, refl, sym, ap, ap₂, ◌∙◌}
use mathlib.Core.Bool.{Bool, true, false, not, ◌&&◌}
use Prim.Native.Nat.{ℕ, zero, suc, ◌+◌, ◌-◌, ◌*◌, ◌/◌, ◌%◌, ◌^◌, ◌≤◌, ◌<◌, min}
use native.Mathlib.Nat.{pow-suc}
use native.Mathlib.Omega.{arith}
use native.Mathlib.Decide.{ℕ_discrete}
use lib.Bits.{bit_and, and_step, and_zero_l}
use lib.Count.{ones, ones_step}
use lib.Dec.{eqb}
use borrow.Author.Tests.{eq-eqb, ne_eqb, eqb-true}
use Rattle.model.specs.Mask.{within, share, count, packed, pack}
use Rattle.model.specs.Sheet.{Edge}
use Rattle.model.specs.RunGraph.{meets}
use Rattle.ties.specs.Unpack.{unpacked, unpack}
use Rattle.ties.proofs.Unpacked.{low, low_digit, high_digits, unpacked_le}

-- the values v have all of `on` and none of `off`
record Met (on off v : ℕ) : Type 0 where
  has : bit_and on v ≡ on
  lacks : bit_and off v ≡ 0

-- ---- one bit: r of the mask, e of the index, d of the values
-- the bits that are off, the lowest and those above it
off_low : (r e u m : ℕ) → r < 2 → e < 2 → u ≤ m → (2 * m + r - (r * e + 2 * u)) % 2 ≡ r - r * e
off_low zero e u m lr le h = omega arith
off_low (suc zero) e u m lr le h = omega arith
off_low (suc (suc r)) e u m lr le h = absurd (omega arith)

off_high : (r e u m : ℕ) → r < 2 → e < 2 → u ≤ m → (2 * m + r - (r * e + 2 * u)) / 2 ≡ m - u
off_high zero e u m lr le h = omega arith
off_high (suc zero) e u m lr le h = omega arith
off_high (suc (suc r)) e u m lr le h = absurd (omega arith)

-- fewer bits have fewer indexes
fewer : (r n w : ℕ) → r < 2 → w < 2 ^ (r + n) → w / (1 + r) < 2 ^ n
fewer zero n w lr l = let e : 0 + n ≡ n = omega arith in omega (arith, rw e at l)
fewer (suc zero) n w lr l = let e : 1 + n ≡ suc n = omega arith in omega (arith, rw (e, pow-suc 2 n) at l)
fewer (suc (suc r)) n w lr l = absurd (omega arith)

-- b and c are what the bits above the lowest have of the values, p is their index
there : (r d w u b c p : ℕ) → r < 2 → d < 2 → b * 2 + min (r * (w % 2)) d ≡ r * (w % 2) + 2 * u → c * 2 + min (r - r * (w % 2)) d ≡ 0
    → (b ≡ u → c ≡ 0 → p ≡ w / (1 + r)) → r * d + (1 + r) * p ≡ w
there zero d w u b c p lr ld e f ih = let q = ih (omega arith) (omega arith) in omega arith
there (suc zero) d w u b c p lr ld e f ih = let q = ih (omega arith) (omega arith) in omega arith
there (suc (suc r)) d w u b c p lr ld e f ih = absurd (omega arith)

rest : (r d w p : ℕ) → r < 2 → d < 2 → r * d + (1 + r) * p ≡ w → p ≡ w / (1 + r)
rest zero d w p lr ld e = omega arith
rest (suc zero) d w p lr ld e = omega arith
rest (suc (suc r)) d w p lr ld e = absurd (omega arith)

on_back : (r d w u b p : ℕ) → r < 2 → d < 2 → r * d + (1 + r) * p ≡ w → b ≡ u → b * 2 + min (r * (w % 2)) d ≡ r * (w % 2) + 2 * u
on_back zero d w u b p lr ld e h = omega arith
on_back (suc zero) d w u b p lr ld e h = omega arith
on_back (suc (suc r)) d w u b p lr ld e h = absurd (omega arith)

off_back : (r d w c p : ℕ) → r < 2 → d < 2 → r * d + (1 + r) * p ≡ w → c ≡ 0 → c * 2 + min (r - r * (w % 2)) d ≡ 0
off_back zero d w c p lr ld e h = omega arith
off_back (suc zero) d w c p lr ld e h = omega arith
off_back (suc (suc r)) d w c p lr ld e h = absurd (omega arith)

-- ---- k bits
module _ (k m w v : ℕ) where
  -- the bits above the lowest
  abbrev u : ℕ
  u = unpacked k (m / 2) (w / (1 + m % 2))

  on_step : bit_and (unpacked (suc k) m w) v ≡ bit_and u (v / 2) * 2 + min (m % 2 * (w % 2)) (v % 2)
  unfolding unpacked
  on_step =
      let r = m % 2 in
      and_step (r * (w % 2) + 2 * u) v
      ∙ ap₂ (λ (x y : ℕ). bit_and x (v / 2) * 2 + min y (v % 2)) (high_digits r (w % 2) u (low m) (low w)) (low_digit r (w % 2) u (low m) (low w))

  off_step : bit_and (m - unpacked (suc k) m w) v ≡ bit_and (m / 2 - u) (v / 2) * 2 + min (m % 2 - m % 2 * (w % 2)) (v % 2)
  unfolding unpacked
  off_step =
      let r = m % 2 in
      let few = unpacked_le k (m / 2) (w / (1 + r)) in
      let whole : m ≡ 2 * (m / 2) + r = omega arith in
      ap (λ (n : ℕ). bit_and (n - (r * (w % 2) + 2 * u)) v) whole
      ∙ and_step (2 * (m / 2) + r - (r * (w % 2) + 2 * u)) v
      ∙ ap₂ (λ (x y : ℕ). bit_and x (v / 2) * 2 + min y (v % 2)) (off_high r (w % 2) u (m / 2) (low m) (low w) few) (off_low r (w % 2) u (m / 2) (low m) (low w) few)

met_there : (k m w v : ℕ) → m < 2 ^ k → w < 2 ^ ones m → Met (unpacked k m w) (m - unpacked k m w) v → packed k m v ≡ w
unfolding packed unpacked ones
met_there zero m w v lm lw h = let z : m ≡ 0 = omega arith in omega (arith, rw z at lw)
met_there (suc k) m w v lm lw h =
    let r = m % 2 in
    let s = u k m w v in
    there r (v % 2) w s (bit_and s (v / 2)) (bit_and (m / 2 - s) (v / 2)) (packed k (m / 2) (v / 2)) (low m) (low v) (sym (on_step k m w v) ∙ h.has) (sym (off_step k m w v) ∙ h.lacks)
    (λ b c. met_there k (m / 2) (w / (1 + r)) (v / 2) (omega (arith, pow-suc 2 k)) (fewer r (ones (m / 2)) w (low m) (rw (ones_step m) at lw)) (record { has = b; lacks = c }))

met_back : (k m w v : ℕ) → packed k m v ≡ w → m < 2 ^ k → Met (unpacked k m w) (m - unpacked k m w) v
unfolding packed unpacked
met_back zero m w v e lm = let z : m - 0 ≡ 0 = omega arith in record { has = and_zero_l v; lacks = rw z (and_zero_l v) }
met_back (suc k) m w v e lm =
    let r = m % 2 in
    let ih = met_back k (m / 2) (w / (1 + r)) (v / 2) (rest r (v % 2) w (packed k (m / 2) (v / 2)) (low m) (low v) e) (omega (arith, pow-suc 2 k)) in
    record {
      has = on_step k m w v ∙ on_back r (v % 2) w _ _ (packed k (m / 2) (v / 2)) (low m) (low v) e ih.has;
      lacks = off_step k m w v ∙ off_back r (v % 2) w _ (packed k (m / 2) (v / 2)) (low m) (low v) e ih.lacks;
    }

-- ---- the condition as an edge has it
abbrev pub condition : ℕ → ℕ → Edge
condition inputs k = record { from = 0; to = 0; on = unpack inputs k; off = inputs - unpack inputs k; unless = false }

pub condition_met : (inputs k v : ℕ) → inputs < 256 → k < 2 ^ count inputs → meets (condition inputs k) v ≡ eqb (pack inputs v) k
unfolding meets within share count pack unpack
condition_met inputs k v few own = by (ℕ_discrete (pack inputs v) k)
  where
    on : ℕ
    on = unpacked 8 inputs k

    off : ℕ
    off = inputs - unpacked 8 inputs k

    either : (a b : Bool) → eqb (bit_and on v) on ≡ a → eqb (bit_and off v) 0 ≡ b → (pack inputs v ≡ k → ⊥) → (a && not (not b)) ≡ false
    either true true ea eb n = absurd (n (met_there 8 inputs k v few own (record { has = eqb-true _ _ ea; lacks = eqb-true _ _ eb })))
    either true false ea eb n = refl
    either false b ea eb n = refl

    by : Dec (pack inputs v ≡ k) → (eqb (bit_and on v) on && not (not (eqb (bit_and off v) 0))) ≡ eqb (pack inputs v) k
    by (yes e) = let m = met_back 8 inputs k v e few in rw (eq-eqb _ _ m.has, eq-eqb _ _ m.lacks) (sym (eq-eqb _ _ e))
    by (no n) = either _ _ refl refl n ∙ sym (ne_eqb _ _ n)
