-- Along the places of a desk: one state more is not too high.
use mathlib.Core.Path.{◌≡◌}
use mathlib.Core.Bool.{◌||◌}
use mathlib.Core.List.{List}
use Prim.Native.Nat.{ℕ, ◌+◌, ◌<◌, ◌≤◌}
use lib.Dec.{leb}
use lib.ListN.{length, get_or, take, drop}
use Rattle.model.specs.Sheet.{Process}
use Rattle.model.specs.Desk.{too_high}
use Rattle.theory.proofs.ListLaws.{taken_next}
use Rattle.architecture.specs.Struct.{processes_of}
use Rattle.architecture.proofs.ProcessesOfArrays.{process_next}

-- state j is tested, and then those behind it
pub high_turn : (f : ℕ → Process) (n j : ℕ) → j < n → (xs : List ℕ) → n ≤ length xs → (bound x : ℕ) → bound ≡ (f j).bound → x ≡ get_or xs j 0
    → (leb bound x || too_high (drop (j + 1) (processes_of n f)) (drop (j + 1) (take n xs))) ≡ too_high (drop j (processes_of n f)) (drop j (take n xs))
unfolding too_high
high_turn f n j h xs l bound x eb ex = rw (process_next f n j h, taken_next xs n j h l, eb, ex)
