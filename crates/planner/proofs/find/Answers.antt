-- The sheet is read, and then the search decides.
use Rattle.std.proofs.lemmas.Result.{err_from_is_err_and}
use Rattle.std.proofs.Common.{refl}
use Rattle.model.specs.Reading.{◌then◌}
use Rattle.model.specs.Calls.{find_of, find_sheet, find_in}
use Rattle.sheet.proofs.AnswersOfReading.{read_refused, read_proper, read_is_proper}
use Rattle.planner.proofs.find.Goals as goal

pub returns-in_err-read : goal.returns-in_err-read
unfolding find_of find_sheet ◌then◌ find_in
returns-in_err-read c =
    let p = err_from_is_err_and c.from_residual.result c.from_residual.ensures.1 in
    rw (p.1, p.2, read_refused c.args.sheet.now _ c.in_err-read.ensures.result_value) (record { value = refl; book_after = refl; annotation_after = refl })

pub find_for-requires : goal.find_for-requires
find_for-requires c = read_is_proper c.args.sheet.now _ c.in_ok-read.ensures.result_value c.in_ok-read.ensures.arrays

pub returns : goal.returns
unfolding find_of find_sheet ◌then◌
returns c = rw (read_proper c.args.sheet.now _ c.in_ok-read.ensures.result_value) c.find_for.ensures
