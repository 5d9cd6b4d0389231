-- `text::put_next`: what was written and the fields from here on are all.
use Rattle.std.proofs.Common.{drop}
use Rattle.append.proofs.Appending.{Appending}
use Rattle.text.specs.Text.{fields}
use Rattle.text.proofs.put_next.Given as goal

abbrev pub invariant-loop-x : goal.invariant-loop-x
invariant-loop-x l = Appending l.fn.text l.start (fields l.next) l.at l.text (fields (drop l.x-index l.next))
