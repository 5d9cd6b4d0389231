-- 01, "The sheet file": a mask is a number, and has bit i for variable i.
use Rattle.std.specs.Prelude.{Bool, true, false, not, ℕ, zero, suc, ◌+◌, ◌*◌, ◌/◌, ◌%◌, ◌^◌, eqb, leb}
use Rattle.std.specs.Int.Bits.{bit_and}
use Rattle.std.specs.Int.Count.{ones}
-- bit i of the mask m is set
unfoldable pub use Rattle.theory.specs.Masks.{bit}

-- a where the test passes, and otherwise b
unfoldable pub if : {A : Type 0} → Bool → A → A → A
if true a b = a
if false a b = b

-- every bit of a is a bit of b
unfoldable pub within : ℕ → ℕ → Bool
within a b = eqb (bit_and a b) a

-- a and b share a bit
unfoldable pub share : ℕ → ℕ → Bool
share a b = not (eqb (bit_and a b) 0)

-- m has a bit at or above n
unfoldable pub beyond : ℕ → ℕ → Bool
beyond m n = leb (2 ^ n) m

-- how many bits are set
unfoldable pub count : ℕ → ℕ
unfolding ones
count m = ones m

-- the number made of v's bits where m has one, in rising order, lowest first; k bits are looked at
unfoldable pub packed : ℕ → ℕ → ℕ → ℕ
packed zero m v = 0
packed (suc k) m v = (m % 2) * (v % 2) + (1 + m % 2) * packed k (m / 2) (v / 2)

-- the same for the 8 variables that there can be
unfoldable pub pack : ℕ → ℕ → ℕ
unfolding packed
pack m v = packed 8 m v
