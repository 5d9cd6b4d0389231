-- The sheet is read, and then the desk stepped.
use Rattle.std.proofs.lemmas.Result.{err_from_is_err_and}
use Rattle.model.specs.Desk.{step_of, step_when_read}
use Rattle.sheet.proofs.AnswersOfReading.{read_refused, read_proper, read_is_proper, architecture_proper}
use Rattle.planner.proofs.step_by_value.Goals as goal

pub returns-in_err-read : goal.returns-in_err-read
unfolding step_of step_when_read
returns-in_err-read c =
    let p = err_from_is_err_and c.from_residual.result c.from_residual.ensures.1 in
    rw (p.1, p.2, read_refused c.args.sheet.now _ c.in_err-read.ensures.result_value)

pub step_for-requires : goal.step_for-requires
step_for-requires c = architecture_proper _ (read_is_proper c.args.sheet.now _ c.in_ok-read.ensures.result_value c.in_ok-read.ensures.arrays)

pub returns : goal.returns
unfolding step_of step_when_read
returns c = rw (read_proper c.args.sheet.now _ c.in_ok-read.ensures.result_value) c.step_for.ensures
