-- The tests go by the struct's own count, below which its processes are those of the list.
use Rattle.std.proofs.Common.{◌≡◌, ℕ, ◌<◌, ◌||◌, leb, eqb, arith}
use Rattle.std.proofs.lemmas.Bool.Decides.{nat_tests}
use borrow.Author.Tests.{lt-leb, ne_eqb}
use Rattle.model.specs.Sheet.{nobody, process_no}
use Rattle.model.specs.Reading.{unlike, tie_fault}
use Rattle.architecture.specs.declared.Architecture.{Architecture}
use Rattle.architecture.specs.Struct.{process_in, processes_in}
use Rattle.architecture.proofs.ProcessesOfArrays.{processes_length, processes_at}
use Rattle.sheet.proofs.faults.sy_fault.Goals as goal

-- the tests, over the struct's own count
tests : (a : Architecture) (x y : ℕ) → tie_fault (processes_in a) record { left = x; right = y }
    ≡ (leb a.processes x || leb a.processes y || eqb x y || unlike (process_no (processes_in a) x) (process_no (processes_in a) y))
unfolding tie_fault
tests a x y = rw (processes_length a.processes (process_in a))

-- process k, below the count
there : (a : Architecture) (k : ℕ) → k < a.processes → process_no (processes_in a) k ≡ process_in a k
there a k h = processes_at (process_in a) a.processes k nobody h

pub returns-then-i-j : goal.returns-then-i-j
returns-then-i-j c = let tests = tests c.args.architecture c.args.left c.args.right in grind (arith, nat_tests, tests)

pub returns-else-i-j : goal.returns-else-i-j
returns-else-i-j c =
    let h = c.if-i-j.false in
    rw (tests c.args.architecture c.args.left c.args.right, there c.args.architecture c.args.left h.0, there c.args.architecture c.args.right h.1)
    (simp (lt-leb _ _ h.0, lt-leb _ _ h.1, ne_eqb _ _ h.2) c.is_unlike.ensures)
