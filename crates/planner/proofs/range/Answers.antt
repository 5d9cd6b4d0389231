-- The sheet is read, and then the place found.
use Rattle.std.proofs.lemmas.Result.{err_from_is_err_and}
use Rattle.model.specs.Reading.{◌then◌}
use Rattle.model.specs.Calls.{part_of, part_architecture, cut}
use Rattle.sheet.proofs.AnswersOfReading.{read_refused, read_proper, read_is_proper, architecture_proper}
use Rattle.planner.proofs.range.Goals as goal

pub returns-in_err-read : goal.returns-in_err-read
unfolding part_of part_architecture ◌then◌ cut
returns-in_err-read c =
    let p = err_from_is_err_and c.from_residual.result c.from_residual.ensures.1 in
    rw (p.1, p.2, read_refused c.args.sheet.now _ c.in_err-read.ensures.result_value)

pub range_for-requires : goal.range_for-requires
range_for-requires c = architecture_proper _ (read_is_proper c.args.sheet.now _ c.in_ok-read.ensures.result_value c.in_ok-read.ensures.arrays)

pub returns : goal.returns
unfolding part_of part_architecture ◌then◌
returns c = rw (read_proper c.args.sheet.now _ c.in_ok-read.ensures.result_value) c.range_for.ensures
