-- Writing behind what was written. This is a definition.
use Rattle.std.specs.Prelude.{◌≡◌, List, ◌++◌, ℕ, ◌+◌, length, take, drop}

-- `list` has the elements of `old` before `at`, then `new`, up to `end`, and those of `old` behind that
pub record Appends {A : Type 0} (old : List A) (at : ℕ) (new : List A) (end : ℕ) (list : List A) : Type 0 where
  pub is : take end list ≡ take at old ++ new
  pub ends : end ≡ at + length new
  pub behind : drop end list ≡ drop end old
