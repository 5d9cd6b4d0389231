-- `text::put_tables`: in each turn the rows of the next process go behind what was written.
use native.Mathlib.Omega.{arith}
use Rattle.architecture.specs.Struct.{processes_of, entries_of}
use Rattle.append.proofs.Appending.{appending_none, appending_next, appending_room, appending_all}
use Rattle.text.specs.Text.{rows_text}
use Rattle.text.proofs.RowTexts.{processes_open, processes_none}
use Rattle.text.proofs.put_tables.Goals as goal

pub loop-i-init : goal.loop-i-init
unfolding processes_of entries_of
loop-i-init c = appending_none _ _ _

pub put_rows-at-requires-clause-i_in_bounds : goal.put_rows-at-requires-clause-i_in_bounds
put_rows-at-requires-clause-i_in_bounds c =
    appending_room c.loop-i.invariant c.requires.tables_in_bounds (processes_open (rows_text c.args.tables.now) c.args.a c.loop-i.i c.loop-i-test.true)

pub loop-i-preserved : goal.loop-i-preserved
loop-i-preserved c = appending_next c.loop-i.invariant (processes_open (rows_text c.args.tables.now) c.args.a c.loop-i.i c.loop-i-test.true) c.put_rows-at.ensures

pub returns : goal.returns
returns c = appending_all (rw (processes_none (rows_text c.args.tables.now) c.args.a c.loop-i.i (omega arith)) at c.loop-i.invariant)
