-- Both tests are along the words of the sheet's own entries; the first decides, or leaves it to the second.
use Rattle.std.proofs.Common.{not, sym, ap, ◌∙◌}
use borrow.Author.Tests.{not-true, not-false}
use Rattle.theory.proofs.Bools.{and_on, and_off}
use Rattle.model.specs.Book.{entry_fault}
use Rattle.ties.proofs.entry_fault.Goals as goal

pub returns-then-is_misfit : goal.returns-then-is_misfit
unfolding entry_fault
returns-then-is_misfit c =
    let m = rw c.fill_kinds-n.ensures.result_after at c.is_misfit.ensures in
    c.if-is_misfit.true ∙ sym (ap not (and_off _ (not-true _ (sym m ∙ c.if-is_misfit.true))))

pub returns-else-is_misfit : goal.returns-else-is_misfit
unfolding entry_fault
returns-else-is_misfit c =
    let m = rw c.fill_kinds-n.ensures.result_after at c.is_misfit.ensures in
    ap not (c.keeps_ties.ensures ∙ sym (and_on _ (not-false _ (sym m ∙ c.if-is_misfit.false))))
