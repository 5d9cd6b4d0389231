-- `annotate::loop_text` meets its contract: the sheet and the choice that are read again are those of the run.
use Rattle.std.proofs.Common.{arith}
use Rattle.sheet.proofs.AnswersOfReading.{architecture_proper}
use Rattle.annotate.proofs.AnnotatedBuffer.{again_is, again_proper}
use Rattle.annotate.proofs.RunRead.{run_ok, run_read, tables_ok, tables_read, text_read}
use Rattle.annotate.proofs.loop_text.Goals as goal

-- `let read = sheet::read(sheet).unwrap()`
pub unwrap-read-requires : goal.unwrap-read-requires
unwrap-read-requires c = run_ok _ _ _ c.requires.fact c.requires.annotate_path c.read.result c.read.ensures.result_value

-- `let tables = book::read_for(read.architecture, book).unwrap()`
pub read_for-requires : goal.read_for-requires
read_for-requires c =
    architecture_proper c.unwrap-read.result (again_proper _ c.read.result c.read.ensures.result_value c.read.ensures.arrays _ c.unwrap-read.ensures)

pub unwrap-tables-requires : goal.unwrap-tables-requires
unwrap-tables-requires c =
    let is = again_is _ c.read.result c.read.ensures.result_value c.read.ensures.arrays _ c.unwrap-read.ensures in
    tables_ok (run_read _ _ _ c.requires.fact c.requires.annotate_path _ is) c.read_for.result c.read_for.ensures

-- `replay::run_text(text, read, &tables, path, lengths.stem, lengths.cycle)`
pub run_text-requires : goal.run_text-requires
run_text-requires c =
    let is = again_is _ c.read.result c.read.ensures.result_value c.read.ensures.arrays _ c.unwrap-read.ensures in
    let run = run_read _ _ _ c.requires.fact c.requires.annotate_path _ is in
    record {
      cycle_in_bounds = omega (arith, c.requires.in_bounds, run.few);
      proper = again_proper _ c.read.result c.read.ensures.result_value c.read.ensures.arrays _ c.unwrap-read.ensures;
      tables = tables_read run c.read_for.result c.read_for.ensures _ c.unwrap-tables.ensures;
      has_run = run.has_run;
    }

pub returns : goal.returns
returns c =
    let is = again_is _ c.read.result c.read.ensures.result_value c.read.ensures.arrays _ c.unwrap-read.ensures in
    let run = run_read _ _ _ c.requires.fact c.requires.annotate_path _ is in
    rw (text_read run c.read_for.result c.read_for.ensures _ c.unwrap-tables.ensures) c.run_text.ensures
