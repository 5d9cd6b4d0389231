-- At an entry no byte is due, and any other word says the byte that is due.
use Rattle.std.proofs.Common.{not, ap}
use mathlib.Core.Bool.{and-true}
use borrow.Author.Tests.{eq-eqb}
use Rattle.model.specs.Book.{well_formed}
use Rattle.book.proofs.OneSlotMore.{slot_entry, slot_due}
use Rattle.book.proofs.walk.differs.Goals as goal

pub returns-then-slot-ne0 : goal.returns-then-slot-ne0
unfolding well_formed
returns-then-slot-ne0 c = rw (slot_due _ c.if-slot-ne0.true, and-true)

pub returns-else-slot-ne0 : goal.returns-else-slot-ne0
unfolding well_formed
returns-else-slot-ne0 c = rw (slot_entry _ c.if-slot-ne0.false) (ap not (eq-eqb _ 0 c.if-slot-ne0.false))
