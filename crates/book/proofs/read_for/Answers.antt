-- The test of the book's bytes comes first, and `fitting` has that of the entries.
use Rattle.std.proofs.Common.{◌≡◌, ℕ, Bool, false, List, length, not, arith, sym, ap, ◌∙◌}
use borrow.Author.Tests.{not-false}
use Rattle.model.specs.Sheet.{Architecture}
use Rattle.model.specs.Choice.{entries}
use Rattle.model.specs.Book.{Slot, form, book_length, well_formed, entries_in, book_fault, read_book}
use Rattle.model.specs.Calls.{tables_of, gave}
use Rattle.model.proofs.BookInverse.{holes_form}
use Rattle.architecture.specs.Struct.{architecture_of}
use Rattle.model.proofs.Refusing.{stop, go}
use Rattle.book.proofs.OneSlotMore.{right_length, entries_length, form_holes}
use Rattle.book.proofs.ReadingAnswers.{fitting_is}
use Rattle.book.proofs.read_for.Goals as goal

-- 10, as the code tests it
fault_is : (s : Architecture) (book : List ℕ) {slots : List Slot} {r : Bool} → r ≡ not (well_formed slots book) → slots ≡ form s → r ≡ book_fault s book
unfolding book_fault
fault_is s book e filled = e ∙ ap (λ (ps : List Slot). not (well_formed ps book)) filled

-- a book that is not malformed is as long as it must be
long : (s : Architecture) (book : List ℕ) {r : Bool} → r ≡ book_fault s book → r ≡ false → length book ≡ length (form s)
unfolding book_fault
long s book e f = right_length (form s) book (not-false _ (sym e ∙ f))

pub returns-then-is_malformed : goal.returns-then-is_malformed
unfolding read_book gave
returns-then-is_malformed c =
    let s = architecture_of c.args.a in
    ap gave (sym (stop _ _ (sym (fault_is s c.args.book.now c.is_malformed.ensures c.fill_slots-n.ensures.result_after) ∙ c.if-is_malformed.true)))

pub take_entries-requires-clause-n_in_bounds : goal.take_entries-requires-clause-n_in_bounds
unfolding book_length
take_entries-requires-clause-n_in_bounds c =
    let n = c.fill_slots-n in
    let e = fault_is (architecture_of c.args.a) c.args.book.now c.is_malformed.ensures n.ensures.result_after in
    let whole = long _ _ e c.if-is_malformed.false in
    (omega (arith, n.auto.slots), omega (arith, n.ensures.value.0, whole))

pub take_entries-requires-clause-n_in_bounds_2 : goal.take_entries-requires-clause-n_in_bounds_2
take_entries-requires-clause-n_in_bounds_2 c = omega (arith, form_holes c.args.a c.requires _ c.fill_slots-n.ensures.result_after)

pub returns : goal.returns
unfolding read_book tables_of
returns c =
    let s = architecture_of c.args.a in
    let book = c.args.book.now in
    let n = c.fill_slots-n in
    let e = fault_is s book c.is_malformed.ensures n.ensures.result_after in
    let read = entries_in (form s) book in
    let tables_are : c.take_entries.new.tables ≡ tables_of read = c.take_entries.ensures ∙ ap (λ (ps : List Slot). tables_of (entries_in ps book)) n.ensures.result_after in
    let whole = long s book e c.if-is_malformed.false in
    let as_many : length read ≡ length (entries s) = entries_length (form s) book (omega (arith, whole)) ∙ holes_form s in
    rw (c.fitting.ensures, tables_are) (fitting_is s read (omega (arith, as_many)) ∙ ap gave (sym (go _ _ (sym e ∙ c.if-is_malformed.false))))
