-- Where the first fault of a sheet file is. These are definitions.
use Rattle.std.specs.Prelude.{◌≡◌, Bool, true, false, List, ℕ, ◌≤◌, ◌<◌, ltb, length, take, Result, Ok, Err, ⊤}
use Rattle.model.specs.Calls.{check_of}
use Rattle.model.specs.Numbers.{number}
use Rattle.model.specs.declared.Refusal.{Refusal}

-- refused with 2 to 7, 15 or 21: a whole record is at fault, whatever follows it
unfoldable pub faulty : Result ⊤ Refusal → Bool
faulty (Ok done) = false
faulty (Err r) = ltb 1 (number r)

-- n is the least number of bytes that are faulty by themselves; all bytes of the file where no number is
pub record FaultEnds (sheet : List ℕ) (n : ℕ) : Type 0 where
  pub within : n ≤ length sheet
  pub before : (m : ℕ) → m < n → faulty (check_of (take m sheet)) ≡ false
  pub ends : n < length sheet → faulty (check_of (take n sheet)) ≡ true
