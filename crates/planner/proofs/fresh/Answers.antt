-- The sheet is read, and then the desk made fresh.
use Rattle.std.proofs.lemmas.Result.{err_from_is_err_and}
use Rattle.model.specs.Desk.{fresh_of, fresh_in}
use Rattle.sheet.proofs.AnswersOfReading.{read_refused, read_proper, read_is_proper, architecture_proper}
use Rattle.planner.proofs.fresh.Goals as goal

pub returns-in_err-read : goal.returns-in_err-read
unfolding fresh_of fresh_in
returns-in_err-read c =
    let p = err_from_is_err_and c.from_residual.result c.from_residual.ensures.1 in
    rw (p.1, p.2, read_refused c.args.sheet.now _ c.in_err-read.ensures.result_value)

pub fresh_for-requires : goal.fresh_for-requires
fresh_for-requires c = architecture_proper _ (read_is_proper c.args.sheet.now _ c.in_ok-read.ensures.result_value c.in_ok-read.ensures.arrays)

pub returns : goal.returns
unfolding fresh_of fresh_in
returns c = rw (read_proper c.args.sheet.now _ c.in_ok-read.ensures.result_value) (rw c.fresh_for.ensures)
