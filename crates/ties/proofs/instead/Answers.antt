-- Whether x is the old one decides.
use Rattle.std.proofs.Common.{eq-eqb}
use borrow.Author.Tests.{ne_eqb}
use Rattle.model.specs.Mask.{if}
use Rattle.ties.specs.Leaders as lead
use Rattle.ties.proofs.instead.Goals as goal

pub returns-then-x-old : goal.returns-then-x-old
unfolding lead.instead if
returns-then-x-old c = simp (eq-eqb _ _ c.if-x-old.true)

pub returns-else-x-old : goal.returns-else-x-old
unfolding lead.instead if
returns-else-x-old c = simp (ne_eqb _ _ c.if-x-old.false)
