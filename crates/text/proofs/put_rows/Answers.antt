-- `text::put_rows`: in each turn the row of the next state goes behind what was written.
use native.Mathlib.Omega.{arith}
use Rattle.append.proofs.Appending.{appending_next, appending_room, appending_all}
use Rattle.architecture.proofs.ProcessesOfArrays.{facts}
use Rattle.text.specs.Text.{row_text}
use Rattle.text.proofs.RowTexts.{rows_open, rows_none}
use Rattle.text.proofs.put_rows.Goals as goal

pub overflow_cast-state : goal.overflow_cast-state
overflow_cast-state c = omega (arith, (facts c.requires.proper).few_states c.args.i c.requires.i_lt_processes, c.bound_of-x-end.ensures)

pub put_row-at-requires-clause-row_in_bounds : goal.put_row-at-requires-clause-row_in_bounds
put_row-at-requires-clause-row_in_bounds c =
    let a = c.args in
    appending_room c.loop-x.invariant c.requires.i_in_bounds (rows_open (row_text a.i) a.a a.i a.tables.now c.loop-x.x _ c.row_of.ensures.result_value (omega arith))

pub loop-x-preserved : goal.loop-x-preserved
loop-x-preserved c =
    let a = c.args in
    appending_next c.loop-x.invariant (rows_open (row_text a.i) a.a a.i a.tables.now c.loop-x.x _ c.row_of.ensures.result_value (omega arith)) c.put_row-at.ensures

pub returns : goal.returns
returns c = appending_all (rw (rows_none (row_text c.args.i) c.args.a c.args.i c.args.tables.now c.loop-x.x (omega arith)) at c.loop-x.invariant)
