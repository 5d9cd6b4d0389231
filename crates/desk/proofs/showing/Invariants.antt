-- The first i places are put, and the others are as they were.
use Rattle.std.proofs.Common.{◌≡◌, ◌++◌, take, drop}
use Rattle.model.specs.Desk.{numbers, process_states}
use Rattle.desk.proofs.showing.Given as goal

abbrev pub invariant-loop-i : goal.invariant-loop-i
invariant-loop-i l = l.states ≡ process_states (take l.i (numbers l.t.states)) ++ drop l.i l.initial.states
