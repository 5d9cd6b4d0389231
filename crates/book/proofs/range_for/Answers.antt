-- The process's number is tested first, and then reading the book decides.
use Rattle.std.proofs.Common.{◌≡◌, ◌<◌, List, ℕ, length, arith, sym, ap, ◌∙◌, add-one}
use Rattle.std.proofs.lemmas.Result.{err_from_is_err_and}
use borrow.Author.Tests.{le-leb, lt-leb}
use Rattle.model.specs.Sheet.{Architecture}
use Rattle.model.specs.Reading.{Reading, refused, proper, ◌then◌}
use Rattle.model.specs.Book.{read_book, part_end}
use Rattle.model.specs.Calls.{no_process, cut, part_for}
use Rattle.model.proofs.Refusing.{stop, go}
use Rattle.architecture.specs.Struct.{architecture_of}
use Rattle.architecture.proofs.ProcessesOfArrays.{count_is}
use Rattle.book.proofs.BookGivesChoice.{was_refused, was_read}
use Rattle.book.proofs.range_for.Goals as goal

pub returns-then-a-i : goal.returns-then-a-i
unfolding part_for no_process cut
returns-then-a-i c =
    let a = c.args in
    sym (ap (λ (k : Reading Architecture). cut k a.i) (stop _ _ (le-leb _ _ (rw (← count_is a.a) at c.if-a-i.true))))

-- there is such a process: the book decides
book_decides : (a : Architecture) (book : List ℕ) (i : ℕ) → i < length a.processes → part_for a book i ≡ (read_book a book then λ c. proper a)
unfolding part_for no_process
book_decides a book i h = go _ _ (lt-leb _ _ h)

pub returns-in_err-read_for : goal.returns-in_err-read_for
unfolding cut ◌then◌
returns-in_err-read_for c =
    let a = c.args in
    let s = architecture_of a.a in
    let p = err_from_is_err_and c.from_residual.result c.from_residual.ensures.1 in
    let part : part_for s a.book.now a.i ≡ refused c.in_err-read_for.field-0.0 = book_decides s a.book.now a.i (rw count_is (omega arith)) ∙ rw (was_refused s a.book.now _ c.in_err-read_for.ensures) in
    rw (p.1, p.2, part)

pub returns : goal.returns
unfolding cut ◌then◌ part_end architecture_of
returns c =
    let a = c.args in
    let s = architecture_of a.a in
    let read = was_read s a.book.now _ c.in_ok-read_for.ensures in
    let part : part_for s a.book.now a.i ≡ proper s = book_decides s a.book.now a.i (rw count_is (omega arith)) ∙ rw read.is_read in
    rw (part, c.part_start.ensures, c.part_start-2.ensures, add-one)
