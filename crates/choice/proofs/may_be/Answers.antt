-- Whether the word is even decides what it says, and so the test.
use Rattle.std.proofs.Common.{eq-eqb}
use borrow.Author.Tests.{ne_eqb}
use Rattle.model.specs.Mask.{if, within}
use Rattle.model.specs.Choice.{may}
use Rattle.choice.specs.Kinds.{kind_of}
use Rattle.choice.proofs.may_be.Goals as goal

pub returns-then-kind-eq0 : goal.returns-then-kind-eq0
unfolding kind_of if may within
returns-then-kind-eq0 c = simp (eq-eqb _ _ c.if-kind-eq0.true)

pub returns-else-kind-eq0 : goal.returns-else-kind-eq0
unfolding kind_of if may
returns-else-kind-eq0 c = simp (ne_eqb _ _ c.if-kind-eq0.false)
