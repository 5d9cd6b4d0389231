-- The record of state x is due next, and behind the last record nothing is.
use Rattle.std.proofs.Common.{ℕ, ◌≡◌, ◌+◌, ◌-◌, map, arith}
use Rattle.std.proofs.lemmas.List.{length-replicate}
use Rattle.std.proofs.Math.Nat.{sub-zero}
use Rattle.model.specs.Book.{records}
use Rattle.append.proofs.Appending.{Opens, appending_none, appending_next, appending_room, appending_all}
use Rattle.architecture.specs.Struct.{process_in}
use Rattle.architecture.proofs.ProcessesOfArrays.{facts, row_is}
use Rattle.layout.specs.Slots.{slot_code, record_codes}
use Rattle.layout.proofs.FormWords.{records_open}
use Rattle.layout.proofs.put_records.Goals as goal
use Rattle.layout.proofs.put_records.Goals.{In-loop-x}

next : (c : In-loop-x) → let p = process_in c.args.a c.args.i in let x = c.loop-x.x in
    Opens (map slot_code (records c.args.i p (p.bound - x) x)) (record_codes c.args.i x c.row_length-row.result) (map slot_code (records c.args.i p (p.bound - (x + 1)) (x + 1)))
next c =
    let p = process_in c.args.a c.args.i in
    records_open c.args.i p p.bound c.loop-x.x _ (row_is (process_in c.args.a) c.args.i _ _ c.inputs_of.ensures c.row_length-row.ensures) (omega arith)

pub loop-x-init : goal.loop-x-init
loop-x-init c = rw (sub-zero (process_in c.args.a c.args.i).bound) (appending_none _ _ _)

pub overflow_cast-x : goal.overflow_cast-x
overflow_cast-x c = omega (arith, (facts c.requires.proper).few_states c.args.i c.requires.i_lt_processes)

pub put_record-at-requires-clause-row_in_bounds : goal.put_record-at-requires-clause-row_in_bounds
put_record-at-requires-clause-row_in_bounds c =
    let room = appending_room c.loop-x.invariant c.requires.i_in_bounds (next (goal.at.put_record-at-requires-clause-row_in_bounds c).In-loop-x) in
    omega (arith, room, length-replicate {A = ℕ} c.row_length-row.result 0)

pub loop-x-preserved : goal.loop-x-preserved
loop-x-preserved c = appending_next c.loop-x.invariant (next (goal.at.loop-x-preserved c).In-loop-x) c.put_record-at.ensures

pub returns : goal.returns
unfolding records
returns c =
    let none : (process_in c.args.a c.args.i).bound - c.loop-x.x ≡ 0 = omega arith in
    appending_all (rw none at c.loop-x.invariant)
