-- `template::put_hex`: the high digit, and behind it the low one.
use Rattle.append.proofs.Appended.{append_more}
use Rattle.template.specs.Template.{hex}
use Rattle.template.proofs.put_hex.Goals as goal

pub returns : goal.returns
unfolding hex
returns c = rw (← c.digit.ensures, ← c.digit-2.ensures) (append_more c.put-next.ensures c.put.ensures)
