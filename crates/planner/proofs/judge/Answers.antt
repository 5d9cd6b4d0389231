-- The sheet is read, and then the book judged.
use Rattle.std.proofs.lemmas.Result.{err_from_is_err_and}
use Rattle.model.specs.Reading.{◌then◌}
use Rattle.model.specs.Calls.{judge_of, book_and_room, judged}
use Rattle.sheet.proofs.AnswersOfReading.{read_refused, read_proper, read_is_proper}
use Rattle.planner.proofs.judge.Goals as goal

pub returns-in_err-read : goal.returns-in_err-read
unfolding judge_of book_and_room ◌then◌ judged
returns-in_err-read c =
    let p = err_from_is_err_and c.from_residual.result c.from_residual.ensures.1 in
    rw (p.1, p.2, read_refused c.args.sheet.now _ c.in_err-read.ensures.result_value)

pub judge_for-requires : goal.judge_for-requires
judge_for-requires c = read_is_proper c.args.sheet.now _ c.in_ok-read.ensures.result_value c.in_ok-read.ensures.arrays

pub returns : goal.returns
unfolding judge_of book_and_room ◌then◌
returns c = rw (read_proper c.args.sheet.now _ c.in_ok-read.ensures.result_value) c.judge_for.ensures
