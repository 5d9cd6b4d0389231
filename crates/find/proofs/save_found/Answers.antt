-- `find::save_found` is safe: find read a proper sheet.
use Rattle.find.proofs.FoundBuffers.{reread_ok, reread}
use Rattle.find.proofs.save_found.Goals as goal

-- `let read = sheet::read(sheet).unwrap()`
pub unwrap-read-requires : goal.unwrap-read-requires
unwrap-read-requires g c = reread_ok _ _ _ _ _ c.requires c.read.result c.read.ensures.result_value

-- `save_choice(rt, read, book, annotation)`
pub save_choice-requires : goal.save_choice-requires
save_choice-requires g c =
    let r = reread _ _ _ _ _ c.requires c.read.result _ c.read.ensures.result_value c.read.ensures.arrays c.unwrap-read.ensures in
    record { proper = r.is_proper; fact = r.finds }
