-- `text::put_greatest`: the number is that of the annotation.
use Rattle.text.proofs.put_greatest.Goals as goal

pub returns : goal.returns
returns c = rw (← c.greatest.ensures) c.put_filled.ensures
