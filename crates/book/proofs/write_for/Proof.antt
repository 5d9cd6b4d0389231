-- `book::write_for` meets its contract: each return goes by the tests that led there, first that of the entries and then that of the buffer.
use mathlib.Core.Path.{◌≡◌, refl, sym, ap, ◌∙◌}
use mathlib.Core.List.{List}
use Prim.Native.Nat.{ℕ}
use native.Mathlib.Omega.{arith}
use borrow.Author.Tests.{lt-ltb, le-ltb}
use borrow.Author.Rules.{rules}
use Rattle.model.specs.declared.Refusal.TheVariants.{BadEntry, BufferTooShort}
use Rattle.model.specs.Sheet.{Architecture}
use Rattle.model.specs.Reading.{Reading, refused, proper, refuse◌when◌else◌}
use Rattle.model.specs.Book.{Slot, filled, book_of}
use Rattle.model.specs.Calls.{front, wrote, book_short, written_for}
use Rattle.architecture.specs.Struct.{architecture_of}
use Rattle.model.proofs.Refusing.{stop, go}
use Rattle.book.proofs.OneSlotMore.{form_holes}
use Rattle.book.proofs.write_for.Statement.{statement}
use Rattle.book.proofs.write_for.Tie as tie

-- `if ties::entry_fault(a, tables)`
entry-fault-requires : tie.Need-entry_fault-requires
entry-fault-requires c κs = search rules

-- the entries were tested
module _ (c : tie.After-entry_fault) where
  abbrev entry : tie.Start
  entry = c.before.before

  abbrev s : Architecture
  s = architecture_of entry.args.a

  -- what is due
  abbrev due : Reading (List ℕ)
  due = written_for s entry.args.tables.now entry.args.book.now

-- `return Reply::Refused(Refusal::BadEntry)`
returns : tie.Need-returns-then-entry_fault
unfolding wrote written_for
returns c =
    let e : due c.before ≡ refused BadEntry = stop _ _ (sym c.entry_fault.ensures ∙ c.if-entry_fault.true) in
    rw e (refl, refl)

-- `let n = layout::fill_slots(&mut slots, a)`
slice-aggregate-fill-slots : tie.Need-slice_bounds-fill_slots-end
slice-aggregate-fill-slots c = search rules

-- `let n = layout::fill_slots(&mut slots, a)`
fill-slots-requires : tie.Need-fill_slots-n-requires
fill-slots-requires c κs = search rules

-- the slots were filled
module _ (c : tie.After-fill_slots-n) where
  abbrev tested : tie.After-entry_fault
  tested = c.before.before.before

  -- the entries fit: the length of the buffer decides
  fitting : let a = (entry tested).args in
      due tested ≡ (refuse BufferTooShort when book_short (s tested) a.book.now else proper (book_of (s tested) a.tables.now))
  unfolding written_for
  fitting = go _ _ (sym tested.entry_fault.ensures ∙ c.if-entry_fault.false)

-- `return Reply::Refused(Refusal::BufferTooShort)`
returns-2 : tie.Need-returns-then-book-n
unfolding wrote book_short
returns-2 c =
    let f = c.before.before in
    let e : due (tested f) ≡ refused BufferTooShort = fitting f ∙ stop _ _ (lt-ltb _ _ (rw f.fill_slots-n.ensures.0.0 at c.if-book-n.true)) in
    rw e (refl, refl)

-- `put_bytes(book, &slots, n, tables)`
slice-aggregate-put-bytes : tie.Need-slice_bounds-put_bytes-end
slice-aggregate-put-bytes c = search rules

-- `put_bytes(book, &slots, n, tables)`
put-bytes-requires : tie.Need-put_bytes-requires
put-bytes-requires c κs =
    let f = c.before.before.before.before.before in
    let n = f.fill_slots-n in
    let start = entry (tested f) in (
      (omega (arith, n.auto.slots, n.ensures.0.1), c.if-book-n.false),
      (omega (arith, form_holes start.args.a start.requires _ n.ensures.1, start.well_formed), omega (arith, start.well_formed)),
    )

-- `Reply::Done`
same_length : tie.Need-shape_of-book
same_length c = search rules

-- `Reply::Done`
returns-3 : tie.Need-returns
unfolding wrote book_short book_of
returns-3 c =
    let f = c.before.before.before.before.before.before.before.before in
    let a = (entry (tested f)).args in
    let n = f.fill_slots-n in
    let long = rw n.ensures.0.0 at c.if-book-n.false in
    let e : due (tested f) ≡ proper (book_of (s (tested f)) a.tables.now) = fitting f ∙ go _ _ (le-ltb _ _ long) in
    rw e (refl, c.put_bytes.ensures ∙ ap (λ (ps : List Slot). front (filled ps a.tables.now) a.book.now) n.ensures.1)

pub write_for_spec : {M : Type 1} → statement M
write_for_spec =
    tie.close
    (tie.spec
    entry-fault-requires
    returns
    slice-aggregate-fill-slots
    fill-slots-requires
    returns-2
    slice-aggregate-put-bytes
    put-bytes-requires
    same_length
    returns-3)
