-- The sheet is read, and then the book annotated.
use Rattle.std.proofs.lemmas.Result.{err_from_is_err_and}
use Rattle.std.proofs.Common.{refl}
use Rattle.model.specs.Reading.{◌then◌}
use Rattle.model.specs.Calls.{annotate_of, AnnotatePath, book_and_rooms, annotated, PathFor}
use Rattle.sheet.proofs.AnswersOfReading.{read_refused, read_proper, read_is_proper}
use Rattle.planner.proofs.annotate.Goals as goal

pub returns-in_err-read : goal.returns-in_err-read
unfolding annotate_of AnnotatePath book_and_rooms ◌then◌ annotated PathFor
returns-in_err-read c =
    let p = err_from_is_err_and c.from_residual.result c.from_residual.ensures.1 in
    rw (p.1, p.2, read_refused c.args.sheet.now _ c.in_err-read.ensures.result_value) (record { verdict_value = refl; annotation_after = refl; annotate_path = refl })

pub annotate_for-requires : goal.annotate_for-requires
annotate_for-requires c = read_is_proper c.args.sheet.now _ c.in_ok-read.ensures.result_value c.in_ok-read.ensures.arrays

pub returns : goal.returns
unfolding annotate_of AnnotatePath book_and_rooms ◌then◌
returns c = rw (read_proper c.args.sheet.now _ c.in_ok-read.ensures.result_value) (let f = c.annotate_for.ensures in record { verdict_value = f.verdict_value; annotation_after = f.annotation_after; annotate_path = f.path_for })
