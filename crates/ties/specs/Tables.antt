-- Packed values by place, from the words of the entries and the tables. These are definitions.
use Rattle.std.specs.Prelude.{List, ℕ, get_or}
use Rattle.theory.specs.Lists.{tab}
use Rattle.model.specs.Choice.{packed_value}
use Rattle.choice.specs.Kinds.{kind_of}

-- the packed value of entry k
unfoldable pub packed_in : (kinds tables : List ℕ) → ℕ → ℕ
unfolding packed_value kind_of
packed_in kinds tables k = packed_value (kind_of (get_or kinds k 0)) (get_or tables k 0)

-- those of n entries from `at` on
abbrev pub table_in : (kinds tables : List ℕ) → (n at : ℕ) → List ℕ
table_in kinds tables n at = tab (packed_in kinds tables) n at
