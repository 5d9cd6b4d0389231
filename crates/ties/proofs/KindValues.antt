-- Packed and unpacked values from the word of an entry: of half the word, the low byte is enough.
use mathlib.Core.Path.{◌≡◌, refl, sym}
use Prim.Native.Nat.{ℕ, zero, suc, ◌+◌, ◌/◌, ◌%◌, ◌^◌, ◌<◌}
use native.Mathlib.Nat.{mod-lt}
use native.Mathlib.Numerals.{add-one}
use native.Mathlib.Omega.{arith}
use native.Mathlib.Decide.{ℕ_discrete}
use lib.Pow.{field, mod-mod-pow}
use borrow.Author.Tests.{eq-eqb, ne_eqb}
use Rattle.model.specs.Mask.{if, count, packed, pack}
use Rattle.model.specs.Choice.{output, next, packed_value}
use Rattle.model.proofs.ComposedNumbers.{pack_lt}
use Rattle.architecture.proofs.IndexCountBound.{indexes_few}
use Rattle.choice.specs.Kinds.{kind_of}
use Rattle.ties.specs.Unpack.{unpacked, unpack, unpacked_value}

-- ---- the low bits of a mask
first_bit : (k m : ℕ) → m % 2 ^ suc k % 2 ≡ m % 2
first_bit k m = rw (← add-one k) (mod-mod-pow m k 1)

other_bits : (k m : ℕ) → m % 2 ^ suc k / 2 ≡ m / 2 % 2 ^ k
other_bits k m = rw (← add-one k) (field m k 1)

packed_low : (k m v : ℕ) → packed k (m % 2 ^ k) v ≡ packed k m v
unfolding packed
packed_low zero m v = refl
packed_low (suc k) m v = rw (first_bit k m, other_bits k m, packed_low k (m / 2) (v / 2))

unpacked_low : (k m w : ℕ) → unpacked k (m % 2 ^ k) w ≡ unpacked k m w
unfolding unpacked
unpacked_low zero m w = refl
unpacked_low (suc k) m w = rw (first_bit k m, other_bits k m, unpacked_low k (m / 2) (w / (1 + m % 2)))

pack_low : (m v : ℕ) → pack (m % 256) v ≡ pack m v
unfolding pack
pack_low m v = packed_low 8 m v

unpack_low : (m w : ℕ) → unpack (m % 256) w ≡ unpack m w
unfolding unpack
unpack_low m w = unpacked_low 8 m w

pack_byte : (m v : ℕ) → pack m v < 256
unfolding count
pack_byte m v = let b : m % 256 < 256 = mod-lt m (omega arith) in omega (arith, pack_low m v, pack_lt (m % 256) v, indexes_few (m % 256) b)

-- ---- by the word: an even one is of an output, an odd one of a next state
module _ (kind : ℕ) where
  module _ (even : kind % 2 ≡ 0) where
    output_kind : kind_of kind ≡ output (kind / 2)
    unfolding kind_of if
    output_kind = rw (eq-eqb (kind % 2) 0 even)

    pub packed_output : (v : ℕ) → packed_value (kind_of kind) v ≡ pack (kind / 2 % 256) v
    unfolding packed_value
    packed_output v = rw output_kind (sym (pack_low (kind / 2) v))

    pub unpacked_output : (w : ℕ) → unpacked_value (kind_of kind) w ≡ unpack (kind / 2 % 256) w
    unfolding unpacked_value
    unpacked_output w = rw output_kind (sym (unpack_low (kind / 2) w))

  module _ (odd : ¬ (kind % 2 ≡ 0)) where
    next_kind : kind_of kind ≡ next (kind / 2)
    unfolding kind_of if
    next_kind = rw (ne_eqb (kind % 2) 0 odd)

    pub packed_next : (v : ℕ) → packed_value (kind_of kind) v ≡ v
    unfolding packed_value
    packed_next v = rw next_kind

    pub unpacked_next : (w : ℕ) → unpacked_value (kind_of kind) w ≡ w
    unfolding unpacked_value
    unpacked_next w = rw next_kind

  -- packed, a byte stays one
  pub packed_byte : (v : ℕ) → v < 256 → packed_value (kind_of kind) v < 256
  packed_byte v h = elim (ℕ_discrete (kind % 2) 0) [
    | yes e ↦ omega (arith, packed_output e v, pack_byte (kind / 2 % 256) v)
    | no d ↦ omega (arith, packed_next d v)
  ]
