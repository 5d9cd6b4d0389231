-- The text of a run is short.
use Rattle.std.proofs.Common.{length, arith}
use Rattle.model.specs.Choice.{entries}
use Rattle.model.proofs.Damage.{bytes_take}
use Rattle.architecture.specs.Struct.{architecture_of}
use Rattle.sheet.specs.Struct.{sheet_of}
use Rattle.replay.proofs.RunShort.{run_short}
use Rattle.replay.proofs.run_text.Goals as goal

pub put_run-requires-clause-path_in_bounds : goal.put_run-requires-clause-path_in_bounds
put_run-requires-clause-path_in_bounds c =
    let a = c.args in
    let bytes = bytes_take a.tables.now (length (entries (architecture_of a.sheet.architecture))) (λ k. omega (arith, c.type_inv.tables k)) in
    omega (arith, run_short (sheet_of a.sheet) c.requires.proper.proper _ c.requires.tables bytes a.stem a.cycle a.path.now (omega arith) (omega arith) c.requires.has_run)
