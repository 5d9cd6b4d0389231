-- The test of the entries decides.
use Rattle.std.proofs.Common.{sym, ◌∙◌}
use Rattle.model.specs.Mask.{if}
use Rattle.book.specs.Answers.{fitting_by}
use Rattle.book.proofs.fitting.Goals as goal

pub returns-then-entry_fault : goal.returns-then-entry_fault
unfolding fitting_by if
returns-then-entry_fault c = rw (sym c.entry_fault.ensures ∙ c.if-entry_fault.true)

pub returns : goal.returns
unfolding fitting_by if
returns c = rw (sym c.entry_fault.ensures ∙ c.if-entry_fault.false)
