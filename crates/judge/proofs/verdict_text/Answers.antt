-- Each verdict has its text.
use Rattle.judge.specs.Printed.{verdict_text}
use Rattle.judge.proofs.verdict_text.Goals as goal

pub returns-in-Ok-Yes : goal.returns-in-Ok-Yes
unfolding verdict_text
returns-in-Ok-Yes c = let f = rw c.in-Ok-Yes.is at c.in-Ok-Yes.field-0-is in rw (c.in-Ok-Yes.is, f) c.answer_text.ensures

pub returns-in-Ok-No : goal.returns-in-Ok-No
unfolding verdict_text
returns-in-Ok-No c = let f = rw c.in-Ok-No.is at c.in-Ok-No.field-0-is in rw (c.in-Ok-No.is, f) c.answer_text-in-Ok-No.ensures

pub returns-in-Err : goal.returns-in-Err
unfolding verdict_text
returns-in-Err c = rw c.in-Err.is c.refused_text.ensures
