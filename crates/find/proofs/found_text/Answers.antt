-- `find::found_text` meets its contract: find read a proper sheet.
use Rattle.find.specs.Printed.{sheet_text, printed}
use Rattle.find.proofs.FoundBuffers.{reread_ok, reread}
use Rattle.find.proofs.found_text.Goals as goal

-- `let read = sheet::read(sheet).unwrap()`
pub unwrap-read-requires : goal.unwrap-read-requires
unwrap-read-requires c = reread_ok _ _ _ _ _ c.requires.fact c.read.result c.read.ensures.result_value

-- `choice_text(text, read, book, annotation)`
pub choice_text-requires : goal.choice_text-requires
choice_text-requires c =
    let r = reread _ _ _ _ _ c.requires.fact c.read.result _ c.read.ensures.result_value c.read.ensures.arrays c.unwrap-read.ensures in
    record { in_bounds = c.requires.in_bounds; proper = r.is_proper; fact = r.finds }

pub returns : goal.returns
unfolding printed sheet_text
returns c =
    let r = reread _ _ _ _ _ c.requires.fact c.read.result _ c.read.ensures.result_value c.read.ensures.arrays c.unwrap-read.ensures in
    rw r.is c.choice_text.ensures
