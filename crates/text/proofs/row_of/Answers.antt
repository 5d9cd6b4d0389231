-- `text::row_of`: a row lies within the entries, and is not empty.
use mathlib.Core.Path.{◌≡◌}
use Prim.Native.Nat.{◌+◌, ◌≤◌}
use native.Mathlib.Omega.{arith}
use lib.ListN.{length}
use Rattle.model.specs.Compose.{row_length, row_at}
use Rattle.architecture.specs.Struct.{process_in, first_in, entries_of}
use Rattle.architecture.proofs.ProcessesOfArrays.{row_is, row_within, starts_at, entries_are}
use Rattle.text.proofs.RowTexts.{row_part}
use Rattle.text.proofs.row_of.Goals as goal
use Rattle.text.proofs.row_of.Goals.{After-row_length}

module _ (c : After-row_length) where
  -- how long the row is, and that it lies within the tables
  long : c.row_length.result ≡ row_length (process_in c.args.a c.args.i)
  long = row_is (process_in c.args.a) c.args.i _ _ c.inputs_of.ensures c.row_length.ensures

  within : let p = process_in c.args.a c.args.i in row_at p (entries_of (first_in c.args.a c.args.i)) c.args.x.0 + row_length p ≤ length c.args.tables.now
  within =
      let a = c.args.a in
      let i = c.args.i in
      let h = c.requires.i_lt_processes in
      omega (arith, row_within a i (entries_of (first_in a i)) h.0 (starts_at a i (omega arith)) c.args.x.0 h.1, entries_are a)

  inside : c.row_at-from.result + c.row_length.result ≤ length c.args.tables.now
  inside = omega (arith, within, long)

pub overflow_add-end : goal.overflow_add-end
overflow_add-end c = omega (arith, inside (goal.at.overflow_add-end c).After-row_length, c.well_formed)

pub slice_bounds-result-end : goal.slice_bounds-result-end
slice_bounds-result-end c = inside (goal.at.slice_bounds-result-end c).After-row_length

pub returns-clause-result_value : goal.returns-clause-result_value
returns-clause-result_value c =
    row_part (process_in c.args.a c.args.i) (entries_of (first_in c.args.a c.args.i)) c.args.tables.now c.args.x.0 _ _ c.row_at-from.ensures (long (goal.at.returns-clause-result_value c).After-row_length)
