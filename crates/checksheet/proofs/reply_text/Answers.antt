-- Each reply has its text.
use Rattle.checksheet.specs.Printed.{reply_text}
use Rattle.checksheet.proofs.reply_text.Goals as goal

pub returns-in-Ok : goal.returns-in-Ok
unfolding reply_text
returns-in-Ok c = rw c.in-Ok.is c.answer_text.ensures

pub returns-in-Err : goal.returns-in-Err
unfolding reply_text
returns-in-Err c = rw c.in-Err.is c.refused_text.ensures
