-- What was written and the ties from the index on are all.
use Rattle.append.proofs.Appending.{Appending}
use Rattle.listing.proofs.TieTexts.{ties_from}
use Rattle.listing.proofs.put_ties.Given as goal

abbrev pub invariant-loop-tie : goal.invariant-loop-tie
invariant-loop-tie l = Appending l.fn.text l.fn.start (ties_from l.fn.a 0) l.at l.text (ties_from l.fn.a l.tie-index)
