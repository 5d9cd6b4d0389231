-- With one slot more.
use Rattle.std.proofs.Common.{ℕ, length, refl, sym, ◌∙◌, arith}
use Rattle.model.specs.Book.{holes, filled}
use Rattle.model.specs.Calls.{front}
use Rattle.append.proofs.Appended.{append_none, append_next, append_front}
use Rattle.layout.specs.Slots.{slots_of}
use Rattle.book.proofs.OneSlotMore.{filled_more, holes_more, holes_fit, holes_room}
use Rattle.book.proofs.walk.put_bytes.Goals as goal

pub loop-k-init : goal.loop-k-init
unfolding filled holes
loop-k-init c = record { used = refl; written = append_none c.args.book.now 0 }

pub byte_of-requires : goal.byte_of-requires
byte_of-requires c =
    let a = c.args in
    let p = c.requires in
    omega (arith, holes_room a.slots.now a.n (length a.tables.now) p.n_in_bounds.0 p.n_in_bounds_2 c.loop-k.k c.loop-k-test.true)

pub entry_after-e-requires : goal.entry_after-e-requires
entry_after-e-requires c =
    let a = c.args in
    let p = c.requires in
    omega (arith, holes_fit a.slots.now a.n (length a.tables.now) p.n_in_bounds.0 p.n_in_bounds_2 c.loop-k.k (omega arith))

pub loop-k-preserved : goal.loop-k-preserved
loop-k-preserved c =
    let slots = c.args.slots.now in
    let l = c.loop-k in
    record {
      used = c.entry_after-e.ensures ∙ rw l.invariant.used (sym (holes_more slots l.k (omega arith)));
      written = rw (filled_more slots c.args.tables.now l.k (omega arith), ← l.invariant.used, ← c.byte_of.ensures)
          (append_next l.invariant.written c.byte_of.result (omega arith));
    }

pub returns : goal.returns
unfolding front
returns c = append_front (λ (k : ℕ). filled (slots_of c.args.slots.now k) c.args.tables.now) c.loop-k.k c.args.n (omega arith) c.loop-k.invariant.written
