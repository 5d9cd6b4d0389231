-- At a byte that is due nothing is appended, at an entry the byte is.
use Rattle.std.proofs.Common.{arith}
use Rattle.model.specs.Book.{entries_in}
use Rattle.append.proofs.Appended.{append_none, append_one}
use Rattle.book.proofs.OneSlotMore.{slot_entry, slot_due}
use Rattle.book.proofs.walk.take_entry.Goals as goal

pub returns-then-slot-ne0 : goal.returns-then-slot-ne0
unfolding entries_in
returns-then-slot-ne0 c = rw (slot_due _ c.if-slot-ne0.true) (append_none c.args.tables.now c.args.e)

pub bounds-tables-e : goal.bounds-tables-e
unfolding entries_in
bounds-tables-e c = omega (arith, rw (slot_entry _ c.if-slot-ne0.false) at c.requires)

pub returns : goal.returns
unfolding entries_in
returns c =
    let a = c.args in
    rw (slot_entry _ c.if-slot-ne0.false) (append_one a.tables.now a.e a.byte (omega (arith, rw (slot_entry _ c.if-slot-ne0.false) at c.requires)))
