-- The lengths are handed on where there is a run, which has at most 8,192 steps.
use Rattle.std.proofs.Common.{sym, arith}
use Rattle.model.proofs.DemandTwo.{run_fits}
use Rattle.export.specs.After.{lengths_by}
use Rattle.export.proofs.RunLaws.{run_after}
use Rattle.export.proofs.soclethyme_annotate.Goals as goal

pub overflow_cast-lengths : goal.overflow_cast-lengths
overflow_cast-lengths c =
    let a = c.args in
    let e = rw c.in-Ok-Loop.field-0-is at c.in-Ok-Loop.ensures in
    let few = (run_fits a.sheet.now a.book.now a.annotation.now a.path.now _ (sym e.verdict_value) e.annotate_path).1 in
    omega (arith, few)

pub overflow_cast-lengths-in-Ok-Loop : goal.overflow_cast-lengths-in-Ok-Loop
overflow_cast-lengths-in-Ok-Loop c =
    let a = c.args in
    let e = rw c.in-Ok-Loop.field-0-is at c.in-Ok-Loop.ensures in
    let few = (run_fits a.sheet.now a.book.now a.annotation.now a.path.now _ (sym e.verdict_value) e.annotate_path).1 in
    omega (arith, few)

pub returns-in-Ok-Keeps-clause-run_after : goal.returns-in-Ok-Keeps-clause-run_after
unfolding lengths_by
returns-in-Ok-Keeps-clause-run_after c = let e = rw c.in-Ok-Keeps.field-0-is at c.in-Ok-Keeps.ensures in run_after _ _ _ _ _ _ e.verdict_value e.annotate_path

pub returns-in-Ok-Loop-clause-run_after : goal.returns-in-Ok-Loop-clause-run_after
unfolding lengths_by
returns-in-Ok-Loop-clause-run_after c = let e = rw c.in-Ok-Loop.field-0-is at c.in-Ok-Loop.ensures in run_after _ _ _ _ _ _ e.verdict_value e.annotate_path

pub returns-in-Err-clause-run_after : goal.returns-in-Err-clause-run_after
unfolding lengths_by
returns-in-Err-clause-run_after c = let e = c.in-Err.ensures in run_after _ _ _ _ _ _ e.verdict_value e.annotate_path
