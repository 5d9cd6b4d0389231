-- What was written and the leaders of the entries of the processes from i on are all.
use Rattle.append.proofs.Appending.{Appending}
use Rattle.architecture.specs.Struct.{architecture_of}
use Rattle.ties.specs.Leaders.{entry_leaders}
use Rattle.ties.proofs.LeadersOfArrays.{leaders_from}
use Rattle.ties.proofs.fill_leaders.Given as goal

abbrev pub invariant-loop-i : goal.invariant-loop-i
invariant-loop-i l = Appending l.initial.leaders 0 (entry_leaders (architecture_of l.a)) l.at l.leaders (leaders_from l.a l.i)
