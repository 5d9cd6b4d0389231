-- The first k bytes of the book are at the front, and e entries were used.
use Rattle.std.proofs.Common.{◌≡◌}
use Rattle.model.specs.Book.{holes, filled}
use Rattle.append.specs.Appends.{Appends}
use Rattle.layout.specs.Slots.{slots_of}
use Rattle.book.proofs.walk.put_bytes.Given as goal

abbrev pub invariant-loop-k : goal.invariant-loop-k
invariant-loop-k l = record {
  used : l.e ≡ holes (slots_of l.slots l.k);
  written : Appends l.initial.book 0 (filled (slots_of l.slots l.k) l.tables) l.k l.book;
}
