-- The lengths of a run go to a C caller on `loop` only.
use mathlib.Core.Path.{◌≡◌, ap}
use mathlib.Core.List.{List}
use Prim.Native.Nat.{ℕ}
use Rattle.std.specs.Prelude.{Result}
use Rattle.model.specs.declared.Refusal.{Refusal}
use Rattle.model.specs.declared.Finding.{Finding}
use Rattle.model.specs.Calls.{annotate_of, AfterPath, AnnotatePath}
use Rattle.export.specs.After.{lengths_by, RunAfter}

-- what a C caller gets, by the verdict
pub run_after : (sheet book ann path : List ℕ) (v : Result Finding Refusal) (after : AfterPath) {lengths : List ℕ} → v ≡ (annotate_of sheet book ann path).answer
    → AnnotatePath sheet book ann path after → RunAfter sheet book ann path lengths after.path (lengths_by v after.stem after.cycle lengths)
run_after sheet book ann path v after {lengths} e p =
    record { stem = after.stem; cycle = after.cycle; run = p; lengths_are = ap (λ (x : Result Finding Refusal). lengths_by x after.stem after.cycle lengths) e }
