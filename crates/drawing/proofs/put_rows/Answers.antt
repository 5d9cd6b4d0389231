-- `drawing::put_rows`: in each turn the row of the next state goes behind what was written.
use native.Mathlib.Omega.{arith}
use Rattle.architecture.specs.Struct.{process_in}
use Rattle.append.proofs.Appending.{appending_next, appending_room, appending_all}
use Rattle.text.proofs.RowTexts.{rows_open, rows_none}
use Rattle.drawing.specs.Drawing.{row_text}
use Rattle.architecture.proofs.ProcessesOfArrays.{facts}
use Rattle.drawing.proofs.put_rows.Goals as goal

pub overflow_cast-bound : goal.overflow_cast-bound
overflow_cast-bound c = omega (arith, (facts c.requires.proper).few_states c.args.i c.requires.i_lt_processes, c.bound_of-bound.ensures)

pub put_row-at-requires-clause-row_in_bounds : goal.put_row-at-requires-clause-row_in_bounds
put_row-at-requires-clause-row_in_bounds c =
    let a = c.args in
    let p = process_in a.a a.i in
    let next = rows_open (row_text a.i p.inputs p.bound) a.a a.i a.tables.now c.loop-x.x _ c.row_of.ensures.result_value (omega arith) in
    rw (c.inputs_of-mask.ensures, c.bound_of-bound.ensures) (appending_room c.loop-x.invariant c.requires.i_in_bounds next)

pub loop-x-preserved : goal.loop-x-preserved
loop-x-preserved c =
    let a = c.args in
    let p = process_in a.a a.i in
    let next = rows_open (row_text a.i p.inputs p.bound) a.a a.i a.tables.now c.loop-x.x _ c.row_of.ensures.result_value (omega arith) in
    appending_next c.loop-x.invariant next (rw (c.inputs_of-mask.ensures, c.bound_of-bound.ensures) at c.put_row-at.ensures)

pub returns : goal.returns
returns c =
    let a = c.args in
    let p = process_in a.a a.i in
    appending_all (rw (rows_none (row_text a.i p.inputs p.bound) a.a a.i a.tables.now c.loop-x.x (omega arith)) at c.loop-x.invariant)
