-- Numbers made of digits, from the lowest on: what is made, and the weight times what the digits left make, is the whole.
use mathlib.Core.Path.{◌≡◌}
use Prim.Native.Nat.{ℕ, ◌+◌, ◌*◌, ◌^◌, ◌≤◌}
use native.Mathlib.Numerals.{add-one}
use native.Mathlib.Nat.{mul-add, mul_assoc, mul-le-mul, pow-suc}
use native.Mathlib.Omega.{arith}

-- one digit more, d, with `rest` above it
pub digit_turn : (made weight d base rest whole : ℕ) → made + weight * (d + base * rest) ≡ whole → made + weight * d + weight * base * rest ≡ whole
digit_turn made weight d base rest whole e = omega (arith, mul-add weight d (base * rest), mul_assoc weight base rest)

-- the weight doubles at most
pub weight_turn : (weight i r : ℕ) → r ≤ 1 → weight ≤ 2 ^ i → weight * (1 + r) ≤ 2 ^ (i + 1)
weight_turn weight i r few h = rw (add-one i, pow-suc 2 i) (mul-le-mul h (omega arith))

-- the product of two bits is a bit
pub bits_one : {r w : ℕ} → r ≤ 1 → w ≤ 1 → r * w ≤ 1
bits_one hr hw = mul-le-mul {n₂ = 1} {m₂ = 1} hr hw
