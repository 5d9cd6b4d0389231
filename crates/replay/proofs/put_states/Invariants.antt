-- What was written and the states from process i on are all.
use Rattle.std.proofs.Common.{take, drop}
use Rattle.composition.specs.Struct.{numbers}
use Rattle.append.proofs.Appending.{Appending}
use Rattle.text.specs.Text.{fields}
use Rattle.replay.proofs.put_states.Given as goal

abbrev pub invariant-loop-i : goal.invariant-loop-i
invariant-loop-i l = let states = take l.processes (numbers l.state.states) in Appending l.initial.text l.start (fields states) l.at l.text (fields (drop l.i states))
