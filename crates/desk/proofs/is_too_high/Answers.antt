-- The test of this state, and of those behind it.
use Rattle.std.proofs.Common.{◌≡◌, ◌+◌, ◌≤◌, ◌||◌, leb, length, take, drop, le-leb, arith, ◌∙◌}
use Rattle.std.proofs.lemmas.Bool.{lt-leb}
use Rattle.std.proofs.lemmas.List.{length-map}
use Rattle.model.specs.Desk.{numbers, too_high}
use Rattle.architecture.specs.Struct.{process_in, processes_in}
use Rattle.architecture.proofs.ProcessesOfArrays.{processes_end}
use Rattle.desk.proofs.PlaceByPlace.{high_turn}
use Rattle.desk.proofs.is_too_high.Goals as goal
use Rattle.desk.proofs.is_too_high.Goals.{After-bound_of}

turn : (c : After-bound_of) → let bounded = processes_in c.args.a in let states = take c.args.a.processes (numbers c.args.t.states) in
    (leb c.bound_of.result c.process_state-x.result.0 || too_high (drop (c.loop-i.i + 1) bounded) (drop (c.loop-i.i + 1) states)) ≡ too_high bounded states
turn c =
    let a = c.args.a in
    let few : a.processes ≤ length (numbers c.args.t.states) = omega (arith, length-map c.args.t.states (λ x. x.0)) in
    high_turn (process_in a) a.processes c.loop-i.i c.loop-i-test.true (numbers c.args.t.states) few _ _ c.bound_of.ensures c.process_state-x.ensures ∙ c.loop-i.invariant

pub returns-then-bound_of-x : goal.returns-then-bound_of-x
returns-then-bound_of-x c = rw (le-leb _ _ c.if-bound_of-x.true) at (turn (goal.at.returns-then-bound_of-x c).After-bound_of)

pub loop-i-preserved : goal.loop-i-preserved
loop-i-preserved c = rw (lt-leb _ _ c.if-bound_of-x.false) at (turn (goal.at.loop-i-preserved c).After-bound_of)

pub returns : goal.returns
unfolding too_high
returns c =
    let a = c.args.a in
    let all : c.loop-i.i ≡ a.processes = omega arith in
    rw (all, processes_end (process_in a) a.processes) at c.loop-i.invariant
