-- What was written and the numbers from this one on are all.
use Rattle.std.proofs.Common.{◌+◌, ◌-◌}
use Rattle.theory.specs.Lists.{from}
use Rattle.append.proofs.Appending.{Appending}
use Rattle.ties.proofs.put_from.Given as goal

abbrev pub invariant-loop-number : goal.invariant-loop-number
invariant-loop-number l = Appending l.initial.words l.start (from l.count l.first) l.at l.words (from (l.first + l.count - l.number) l.number)
