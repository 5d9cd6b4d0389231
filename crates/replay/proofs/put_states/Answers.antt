-- The state of process i is due next, and at the end none is.
use Rattle.std.proofs.Common.{◌+◌, ◌<◌, ◌≤◌, length, take, drop, arith}
use Rattle.std.proofs.lemmas.List.{drop_all, get_or-take, length-take-le}
use Rattle.composition.specs.Struct.{numbers}
use Rattle.append.proofs.Appending.{Opens, appending_next, appending_room, appending_all}
use Rattle.text.specs.Text.{field, fields}
use Rattle.text.proofs.RowTexts.{fields_open}
use Rattle.replay.proofs.put_states.Goals as goal
use Rattle.replay.proofs.put_states.Goals.{After-process_state}

next : (c : After-process_state) → let states = take c.args.processes (numbers c.args.state.states) in
    Opens (fields (drop c.loop-i.i states)) (field c.process_state.result.0) (fields (drop (c.loop-i.i + 1) states))
next c =
    let n = c.args.processes in
    let xs = numbers c.args.state.states in
    let here : c.loop-i.i < n = c.loop-i-test.true in
    let inside : c.loop-i.i < length (take n xs) = omega (arith, length-take-le n xs (omega arith)) in
    rw (c.process_state.ensures, ← get_or-take n xs c.loop-i.i 0 here) (fields_open (take n xs) c.loop-i.i inside)

pub put_field-at-requires : goal.put_field-at-requires
put_field-at-requires c = appending_room c.loop-i.invariant c.requires.states_in_bounds (next (goal.at.put_field-at-requires c).After-process_state)

pub loop-i-preserved : goal.loop-i-preserved
loop-i-preserved c = appending_next c.loop-i.invariant (next (goal.at.loop-i-preserved c).After-process_state) c.put_field-at.ensures

pub returns : goal.returns
unfolding fields
returns c =
    let xs = numbers c.args.state.states in
    let all : length (take c.args.processes xs) ≤ c.loop-i.i = omega (arith, length-take-le c.args.processes xs (omega arith)) in
    appending_all (rw (drop_all c.loop-i.i _ all) at c.loop-i.invariant)
