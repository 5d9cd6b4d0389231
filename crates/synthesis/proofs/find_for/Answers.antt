-- Where there is room, the first choice decides.
use Rattle.std.proofs.Common.{refl}
use Rattle.model.specs.Calls.{find_in, find_choice}
use Rattle.sheet.specs.Struct.{sheet_of}
use Rattle.synthesis.proofs.RoomDecides.{no_room, some_room}
use Rattle.synthesis.proofs.find_for.Goals as goal

pub returns-in-Err : goal.returns-in-Err
unfolding find_in
returns-in-Err c =
    let a = c.args in
    rw (no_room (sheet_of a.sheet) a.book.now a.annotation.now _ c.in-Err.ensures) (record { value = refl; book_after = refl; annotation_after = refl })

pub put_found-requires-clause-annotation_value : goal.put_found-requires-clause-annotation_value
put_found-requires-clause-annotation_value c = some_room _ _ _ c.in_default.ensures

pub returns-in-Nothing : goal.returns-in-Nothing
unfolding find_in find_choice
returns-in-Nothing c = rw (some_room _ _ _ c.in_default.ensures, c.in-Nothing.ensures) (record { value = refl; book_after = refl; annotation_after = refl })

pub returns-in-Tables : goal.returns-in-Tables
unfolding find_in find_choice
returns-in-Tables c =
    let f = c.put_found.ensures in
    rw (some_room _ _ _ c.in_default.ensures, c.in-Tables.ensures.1) (record { value = refl; book_after = f.book_after; annotation_after = f.annotation_after })
