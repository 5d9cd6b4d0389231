-- The word tells whether its slot is an entry.
use Rattle.std.proofs.Common.{arith}
use Rattle.model.specs.Book.{holes}
use Rattle.book.proofs.OneSlotMore.{slot_entry, slot_due}
use Rattle.book.proofs.walk.entry_after.Goals as goal

pub returns-then-slot-eq0 : goal.returns-then-slot-eq0
unfolding holes
returns-then-slot-eq0 c = rw (slot_entry _ c.if-slot-eq0.true)

pub returns-else-slot-eq0 : goal.returns-else-slot-eq0
unfolding holes
returns-else-slot-eq0 c = rw (slot_due _ c.if-slot-eq0.false) (omega arith)
