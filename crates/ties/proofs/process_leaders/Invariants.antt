-- The ties from the index on, joined to the leaders so far, give the leaders of all.
use Rattle.std.proofs.Common.{◌≡◌, drop}
use Rattle.architecture.specs.Struct.{ties_in}
use Rattle.ties.specs.Leaders.{join_all, leaders}
use Rattle.ties.proofs.process_leaders.Given as goal

abbrev pub invariant-loop-tie : goal.invariant-loop-tie
invariant-loop-tie l = join_all l.leaders (drop l.tie-index (ties_in l.fn.a)) ≡ leaders 4 (ties_in l.fn.a)
