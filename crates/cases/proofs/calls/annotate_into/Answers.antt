-- A run that is written fits into the path.
use Rattle.std.proofs.Common.{sym}
use Rattle.model.proofs.DemandTwo.{run_fits}
use Rattle.cases.proofs.calls.annotate_into.Goals as goal

pub run-requires : goal.run-requires
run-requires g c =
    let a = c.args in
    let s = c.in-Ok-Loop.ensures in
    let is = c.in-Ok-Loop.field-0-is in
    run_fits a.sheet.now a.book.now a.annotation.now a.path.now _ (sym (rw is at s.verdict_value)) (rw is at s.annotate_path)
