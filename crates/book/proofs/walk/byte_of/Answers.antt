-- A word that is 0 is an entry, any other says the byte that is due.
use Rattle.std.proofs.Common.{arith}
use Rattle.std.proofs.Math.Seq.{drop-cons}
use Rattle.model.specs.Book.{holes, filled}
use Rattle.book.proofs.OneSlotMore.{slot_entry, slot_due}
use Rattle.book.proofs.walk.byte_of.Goals as goal

pub bounds-tables-e : goal.bounds-tables-e
unfolding holes
bounds-tables-e c = omega (arith, rw (slot_entry _ c.if-slot-eq0.true) at c.requires)

pub returns-then-slot-eq0 : goal.returns-then-slot-eq0
unfolding filled holes
returns-then-slot-eq0 c =
    let a = c.args in
    rw (slot_entry _ c.if-slot-eq0.true, drop-cons a.tables.now a.e 0 (omega (arith, rw (slot_entry _ c.if-slot-eq0.true) at c.requires)))

pub returns-else-slot-eq0 : goal.returns-else-slot-eq0
unfolding filled
returns-else-slot-eq0 c = rw (slot_due _ c.if-slot-eq0.false)
