-- A refusal leaves the five bytes: they are the desk's.
use Rattle.std.proofs.Common.{sym, ap, arith}
use Rattle.model.specs.Desk.{AfterStep}
use Rattle.export.proofs.DeskBytes.{step_leaves}
use Rattle.export.proofs.soclethyme_step.Goals as goal

pub returns-in-Err-clause-desk_after : goal.returns-in-Err-clause-desk_after
returns-in-Err-clause-desk_after c =
    let a = c.args in
    sym (step_leaves a.sheet.now a.desk.now (omega (arith, c.well_formed)) c.in-Err.refusal a.book.now a.direction
    (sym (ap (λ (x : AfterStep). x.answer) (rw c.desk_of.ensures at c.in-Err.ensures))))
