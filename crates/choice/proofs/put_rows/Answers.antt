-- The row of the next state is due next, and behind the last row nothing is.
use Rattle.std.proofs.Common.{◌≡◌, ◌+◌, ◌-◌, ◌*◌, map, arith}
use Rattle.std.proofs.lemmas.List.{length-replicate}
use Rattle.std.proofs.Math.Nat.{sub-zero}
use Rattle.model.specs.Choice.{row, times}
use Rattle.append.proofs.Appending.{Opens, appending_none, appending_next, appending_room, appending_all}
use Rattle.architecture.specs.Struct.{process_in}
use Rattle.architecture.proofs.ProcessesOfArrays.{facts, row_is}
use Rattle.choice.specs.Kinds.{kind_code, row_codes}
use Rattle.choice.proofs.KindWords.{row_codes_lem, rows_open}
use Rattle.choice.proofs.put_rows.Goals as goal
use Rattle.choice.proofs.put_rows.Goals.{In-loop}

pub overflow_cast-bound : goal.overflow_cast-bound
overflow_cast-bound c = omega (arith, (facts c.requires.proper).few_states c.args.i c.requires.i_lt_processes)

pub loop-init : goal.loop-init
loop-init c = rw (sub-zero (process_in c.args.a c.args.i).bound) (appending_none _ _ _)

next : (c : In-loop) → let p = process_in c.args.a c.args.i in let k = c.loop.counter in
    Opens (map kind_code (times (p.bound - k) (row p))) (row_codes c.outputs_of-outputs.result c.bound_of-bound.result (c.row_length-states.result - 1))
    (map kind_code (times (p.bound - (k + 1)) (row p)))
next c =
    let p = process_in c.args.a c.args.i in
    let known = row_codes_lem p _ (row_is (process_in c.args.a) c.args.i _ _ c.inputs_of.ensures c.row_length-states.ensures) in
    rows_open p _ p.bound c.loop.counter (rw (c.outputs_of-outputs.ensures, c.bound_of-bound.ensures) known) (omega arith)

pub put_row-at-requires : goal.put_row-at-requires
put_row-at-requires c =
    let room = appending_room c.loop.invariant c.requires.i_in_bounds (next (goal.at.put_row-at-requires c).In-loop) in
    omega (arith, room, length-replicate (c.row_length-states.result - 1) (c.bound_of-bound.result * 2 + 1))

pub loop-preserved : goal.loop-preserved
loop-preserved c = appending_next c.loop.invariant (next (goal.at.loop-preserved c).In-loop) c.put_row-at.ensures

pub returns : goal.returns
unfolding times
returns c =
    let none : (process_in c.args.a c.args.i).bound - c.loop.counter ≡ 0 = omega arith in
    appending_all (rw none at c.loop.invariant)
