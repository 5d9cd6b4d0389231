-- A file is refused, or both are read, and the start is that of the book's choice.
use Rattle.sheet.proofs.AnswersOfReading.{architecture_proper}
use Rattle.sizes.proofs.SheetRead.{again_is, again_proper}
use Rattle.stepdesk.proofs.BothFiles.{opening_refused, sheet_ok, are_tables, opening_is}
use Rattle.stepdesk.proofs.opening_text.Goals as goal

pub unwrap-read-requires : goal.unwrap-read-requires
unwrap-read-requires c = sheet_ok _ _ _ c.in-Ok.ensures c.read-in-Ok.result c.read-in-Ok.ensures.result_value

pub start_text-requires : goal.start_text-requires
start_text-requires c =
    let r = c.read-in-Ok in
    let sheet = c.args.sheet.now in
    let is = again_is sheet r.result r.ensures.result_value r.ensures.arrays _ c.unwrap-read.ensures in
    let good = again_proper sheet r.result r.ensures.result_value r.ensures.arrays _ c.unwrap-read.ensures in
    record { in_bounds = c.requires; proper = architecture_proper _ good; tables = are_tables sheet c.args.book.now c.in-Ok.tables c.in-Ok.ensures _ is good }

pub returns-in-Err : goal.returns-in-Err
returns-in-Err c = rw (opening_refused c.args.sheet.now c.args.book.now c.in-Err.refusal c.in-Err.ensures) c.refused_text.ensures

pub returns-in-Ok : goal.returns-in-Ok
returns-in-Ok c =
    let r = c.read-in-Ok in
    let sheet = c.args.sheet.now in
    let is = again_is sheet r.result r.ensures.result_value r.ensures.arrays _ c.unwrap-read.ensures in
    let good = again_proper sheet r.result r.ensures.result_value r.ensures.arrays _ c.unwrap-read.ensures in
    rw (opening_is sheet c.args.book.now c.in-Ok.tables c.in-Ok.ensures _ is good) c.start_text.ensures
