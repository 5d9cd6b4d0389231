-- A refusal leaves the five bytes: they are the desk's.
use Rattle.std.proofs.Common.{sym, ap, arith}
use Rattle.model.specs.Desk.{AfterFresh}
use Rattle.export.proofs.DeskBytes.{fresh_leaves}
use Rattle.export.proofs.soclethyme_fresh.Goals as goal

pub returns-in-Err-clause-desk_after : goal.returns-in-Err-clause-desk_after
returns-in-Err-clause-desk_after c =
    sym (fresh_leaves c.args.sheet.now c.args.desk.now (omega (arith, c.well_formed)) c.in-Err.refusal (sym (ap (λ (x : AfterFresh). x.answer) (rw c.desk_of.ensures at c.in-Err.ensures))))
