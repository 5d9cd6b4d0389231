-- Whether the word is even decides what it says, and so the packed value.
use Rattle.std.proofs.Common.{sym, ◌∙◌}
use Rattle.ties.proofs.KindValues.{packed_output, packed_next}
use Rattle.ties.proofs.packed_value.Goals as goal

pub returns-then-kind-eq0 : goal.returns-then-kind-eq0
returns-then-kind-eq0 c = c.pack.ensures ∙ rw c.mask_of.ensures (sym (packed_output _ c.if-kind-eq0.true _))

pub returns : goal.returns
returns c = sym (packed_next _ c.if-kind-eq0.false _)
