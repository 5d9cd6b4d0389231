-- A sheet that is read is proper, and either answer has its text.
use Rattle.model.specs.Reading.{◌then◌}
use Rattle.sheet.proofs.AnswersOfReading.{read_refused, read_proper, read_is_proper}
use Rattle.text.specs.Text.{text_or_refused}
use Rattle.draw.specs.Drawn.{drawn_with}
use Rattle.draw.proofs.book_text.Goals as goal

pub tables_text-requires : goal.tables_text-requires
tables_text-requires c = let r = c.in-Ok.ensures in record { in_bounds = c.requires; proper = read_is_proper _ _ r.result_value r.arrays }

pub returns-in-Ok : goal.returns-in-Ok
unfolding drawn_with ◌then◌
returns-in-Ok c = rw (read_proper _ _ c.in-Ok.ensures.result_value) c.tables_text.ensures

pub returns-in-Err : goal.returns-in-Err
unfolding drawn_with text_or_refused ◌then◌
returns-in-Err c = rw (read_refused _ _ c.in-Err.ensures.result_value) c.refused_text.ensures
