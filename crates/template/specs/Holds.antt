-- What a buffer with a text holds. This is a definition.
use Rattle.std.specs.Prelude.{◌≡◌, List, ℕ, ◌≤◌, length, take}

-- the first n of these bytes are the text
pub record Holds (bytes : List ℕ) (n : ℕ) (text : List ℕ) : Type 0 where
  pub fits : n ≤ length bytes
  pub is : take n bytes ≡ text
