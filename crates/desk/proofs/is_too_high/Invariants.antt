-- What is left to test decides.
use Rattle.std.proofs.Common.{◌≡◌, take, drop}
use Rattle.model.specs.Desk.{numbers, too_high}
use Rattle.architecture.specs.Struct.{processes_in}
use Rattle.desk.proofs.is_too_high.Given as goal

abbrev pub invariant-loop-i : goal.invariant-loop-i
invariant-loop-i l =
    let bounded = processes_in l.a in
    let states = take l.a.processes (numbers l.t.states) in
    too_high (drop l.i bounded) (drop l.i states) ≡ too_high bounded states
