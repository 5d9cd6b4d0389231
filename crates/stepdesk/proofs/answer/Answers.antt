-- The opening that is put out is the one that is due; where both files are read the sheet is read again.
use Rattle.sizes.proofs.SheetRead.{again_is, again_proper}
use Rattle.stepdesk.proofs.BothFiles.{sheet_ok, both_read}
use Rattle.stepdesk.proofs.answer.Goals as goal

pub put_opening-requires : goal.put_opening-requires
put_opening-requires g c = c.opening_text-end.ensures.is

pub unwrap-read-requires : goal.unwrap-read-requires
unwrap-read-requires g c = sheet_ok _ _ _ c.in-Ok.ensures c.read-in-Ok.result c.read-in-Ok.ensures.result_value

pub step_all-requires : goal.step_all-requires
step_all-requires g c =
    let r = c.read-in-Ok in
    let sheet = c.args.sheet.now in
    let is = again_is sheet r.result r.ensures.result_value r.ensures.arrays _ c.unwrap-read.ensures in
    let good = again_proper sheet r.result r.ensures.result_value r.ensures.arrays _ c.unwrap-read.ensures in
    both_read sheet _ _ c.in-Ok.ensures _ is good
