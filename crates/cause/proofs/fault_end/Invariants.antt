-- No shorter front is faulty.
use Rattle.std.proofs.Common.{◌≡◌, ℕ, ◌<◌, false, take}
use Rattle.model.specs.Calls.{check_of}
use Rattle.cause.specs.Fault.{faulty}
use Rattle.cause.proofs.fault_end.Given as goal

abbrev pub invariant-loop-n : goal.invariant-loop-n
invariant-loop-n l = (m : ℕ) → m < l.n → faulty (check_of (take m l.sheet)) ≡ false
