-- The records of process k are few and short, and come next.
use Rattle.std.proofs.Common.{List, ℕ, ◌≡◌, suc, ◌∷◌, ◌+◌, ◌-◌, ◌*◌, ◌<◌, ◌≤◌, drop, ap₂, arith}
use Rattle.std.proofs.Math.Nat.{mul-le-mul, sub-zero}
use Rattle.model.specs.Sheet.{Process}
use Rattle.model.specs.Book.{records_length, part_start}
use Rattle.model.proofs.EntriesBound.{row_few}
use Rattle.architecture.specs.Struct.{process_in, processes_in}
use Rattle.architecture.proofs.ProcessesOfArrays.{facts, row_is, process_next}
use Rattle.book.proofs.part_start.Goals as goal
use Rattle.book.proofs.part_start.Goals.{After-row_length}

-- the records of the first process, and those of the others
part_turn : (p : Process) (ps : List Process) (n k : ℕ) → k < n → part_start (p ∷ ps) (n - k) ≡ records_length p + part_start ps (n - (k + 1))
unfolding part_start
part_turn p ps n k h = let e : n - k ≡ suc (n - (k + 1)) = omega arith in rw e

known : (c : After-row_length) → c.bound_of.result * (4 + c.row_length.result) ≡ records_length (process_in c.args.a c.loop-k.k)
unfolding records_length
known c =
    let f = process_in c.args.a in
    ap₂ (λ (m n : ℕ). m * (4 + n)) c.bound_of.ensures (row_is f c.loop-k.k _ _ c.inputs_of.ensures c.row_length.ensures)

short : (c : After-row_length) → c.row_length.result ≤ 17
short c =
    let f = process_in c.args.a in
    omega (arith, row_is f c.loop-k.k _ _ c.inputs_of.ensures c.row_length.ensures, row_few (f c.loop-k.k) ((facts c.requires.proper).few_inputs c.loop-k.k (omega arith)))

few : (c : After-row_length) → c.bound_of.result * (4 + c.row_length.result) ≤ 84
few c =
    let states : c.bound_of.result ≤ 4 = omega (arith, (facts c.requires.proper).few_states c.loop-k.k (omega arith)) in
    mul-le-mul {m₁ = 4 + c.row_length.result} {m₂ = 21} states (omega (arith, short c))

pub loop-k-init : goal.loop-k-init
loop-k-init c = record { small = omega arith; all = rw (sub-zero c.args.i) (omega arith) }

pub overflow_add-at : goal.overflow_add-at
overflow_add-at c = omega (arith, short (goal.at.overflow_add-at c).After-row_length)

pub overflow_mul-at : goal.overflow_mul-at
overflow_mul-at c = omega (arith, few (goal.at.overflow_mul-at c).After-row_length)

pub overflow_add-at-in-loop-k : goal.overflow_add-at-in-loop-k
overflow_add-at-in-loop-k c = omega (arith, few (goal.at.overflow_add-at-in-loop-k c).After-row_length)

pub loop-k-preserved : goal.loop-k-preserved
loop-k-preserved c =
    let a = c.args.a in
    let l = c.loop-k in
    let s = (goal.at.loop-k-preserved c).After-row_length in
    let next = process_next (process_in a) a.processes l.k (omega arith) in
    record {
      small = omega (arith, few s);
      all = omega (arith, known s, part_turn (process_in a l.k) (drop (l.k + 1) (processes_in a)) c.args.i l.k c.loop-k-test.true, rw next at l.invariant.all);
    }

pub returns : goal.returns
unfolding part_start
returns c = let z : c.args.i - c.loop-k.k ≡ 0 = omega arith in omega (arith, rw z at c.loop-k.invariant.all)
