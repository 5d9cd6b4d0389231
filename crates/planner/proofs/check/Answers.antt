-- The answer is that of the reading.
use Rattle.std.proofs.lemmas.Result.{err_from_is_err_and}
use Rattle.model.specs.Calls.{check_of, reply}
use Rattle.sheet.proofs.AnswersOfReading.{read_refused, read_proper}
use Rattle.planner.proofs.check.Goals as goal

pub returns-in_err-read : goal.returns-in_err-read
unfolding check_of reply
returns-in_err-read c =
    let p = err_from_is_err_and c.from_residual.result c.from_residual.ensures.1 in
    rw (p.1, p.2, read_refused c.args.sheet.now _ c.in_err-read.ensures.result_value)

pub returns : goal.returns
unfolding check_of reply
returns c = rw (read_proper c.args.sheet.now _ c.in_ok-read.ensures.result_value)
