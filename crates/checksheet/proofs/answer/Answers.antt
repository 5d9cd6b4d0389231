-- The text of the reply is what is due.
use Rattle.checksheet.specs.Printed.{printed}
use Rattle.checksheet.proofs.answer.Goals as goal

pub put_out-requires : goal.put_out-requires
unfolding printed
put_out-requires g c = rw (← c.check-reply.ensures) c.reply_text-end.ensures.is
