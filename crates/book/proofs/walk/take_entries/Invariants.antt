-- The entries among the first k slots are at the front.
use Rattle.model.specs.Book.{entries_in}
use Rattle.append.specs.Appends.{Appends}
use Rattle.layout.specs.Slots.{slots_of}
use Rattle.book.proofs.walk.take_entries.Given as goal

abbrev pub invariant-loop-k : goal.invariant-loop-k
invariant-loop-k l = Appends l.initial.tables 0 (entries_in (slots_of l.slots l.k) l.book) l.e l.tables
