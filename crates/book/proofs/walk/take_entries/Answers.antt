-- With one slot more.
use Rattle.std.proofs.Common.{ℕ, length, arith}
use Rattle.model.specs.Book.{entries_in}
use Rattle.model.specs.Calls.{front}
use Rattle.append.proofs.Appended.{append_none, append_more, append_front}
use Rattle.layout.specs.Slots.{slots_of}
use Rattle.book.proofs.OneSlotMore.{entries_more, entries_room}
use Rattle.book.proofs.walk.take_entries.Goals as goal

pub loop-k-init : goal.loop-k-init
unfolding entries_in
loop-k-init c = append_none c.args.tables.now 0

pub take_entry-e-requires : goal.take_entry-e-requires
take_entry-e-requires c =
    let a = c.args in
    let p = c.requires in
    omega (arith, entries_room a.slots.now a.n (length a.tables.now) p.n_in_bounds.0 p.n_in_bounds_2 a.book.now p.n_in_bounds.1 c.loop-k.k c.loop-k-test.true)

pub loop-k-preserved : goal.loop-k-preserved
loop-k-preserved c = rw (entries_more c.args.slots.now c.args.book.now c.loop-k.k (omega arith) (omega arith)) (append_more c.loop-k.invariant c.take_entry-e.ensures)

pub returns : goal.returns
unfolding front
returns c = append_front (λ (k : ℕ). entries_in (slots_of c.args.slots.now k) c.args.book.now) c.loop-k.k c.args.n (omega arith) c.loop-k.invariant
