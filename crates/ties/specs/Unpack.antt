-- Back from `pack` of the model: a mask from its packed bits, and the value of an entry from its packed value. These are definitions.
use Rattle.std.specs.Prelude.{◌≡◌, ℕ, zero, suc, ◌+◌, ◌*◌, ◌/◌, ◌%◌}
use Rattle.model.specs.Mask.{count}
use Rattle.model.specs.Sheet.{Architecture}
use Rattle.model.specs.Choice.{Entry, output, next, entries, packed_value, entry_at}

-- the mask within m whose bits where m has one are those of w, lowest first; k bits are looked at
unfoldable pub unpacked : ℕ → ℕ → ℕ → ℕ
unpacked zero m w = 0
unpacked (suc k) m w = (m % 2) * (w % 2) + 2 * unpacked k (m / 2) (w / (1 + m % 2))

-- the same for the 8 variables that there can be
unfoldable pub unpack : ℕ → ℕ → ℕ
unfolding unpacked
unpack m w = unpacked 8 m w

-- the value with this packed value
unfoldable pub unpacked_value : Entry → ℕ → ℕ
unfolding unpack
unpacked_value (output m) w = unpack m w
unpacked_value (next b) w = w

-- entries that have the same packed values
pub data Matches : Entry → Entry → Type 0 where
  masks : {m n : ℕ} → count m ≡ count n → Matches (output m) (output n)
  states : {b : ℕ} → Matches (next b) (next b)

-- the value of entry k, if entry l, its leader, has v
unfoldable pub group_value : Architecture → ℕ → ℕ → ℕ → ℕ
unfolding unpacked_value packed_value entries
group_value a l v k = unpacked_value (entry_at a k) (packed_value (entry_at a l) v)
