-- The step at the front is due next, and at the end none is.
use Rattle.std.proofs.Common.{◌<◌, length, get_or, arith, sym, ◌∙◌}
use Rattle.std.specs.Slice.Iter.{chunks_exact_rest}
use Rattle.architecture.specs.Struct.{architecture_of}
use Rattle.automaton.specs.Struct.{automaton_of}
use Rattle.automaton.proofs.Edges.{edges_length}
use Rattle.sheet.specs.Struct.{sheet_of}
use Rattle.append.proofs.Appending.{appending_next, appending_room, appending_all}
use Rattle.replay.specs.Struct.{choice_in, vertex_of}
use Rattle.replay.proofs.StepsInTurn.{Next, step_next, steps_open, after_next, steps_end, after_end}
use Rattle.replay.proofs.put_steps.Goals as goal
use Rattle.replay.proofs.put_steps.Goals.{In-Some, In-None}

next : (c : In-Some) → Next (sheet_of c.args.sheet) (chunks_exact_rest c.loop-step.step-iterator) (get_or c.in-Some.step.now 0 0) (get_or c.in-Some.step.now 1 0) (chunks_exact_rest c.next.new.self)
next c =
    let took = c.in-Some.ensures.steps.1 in
    step_next (sheet_of c.args.sheet) c.in-Some.step.now (took.1 ∙ c.loop-step.invariant.by_two) took.0 c.loop-step.invariant.possible

pub put_step-run-requires-clause-direction_bound : goal.put_step-run-requires-clause-direction_bound
unfolding architecture_of automaton_of
put_step-run-requires-clause-direction_bound c =
    let due = next (goal.at.put_step-run-requires-clause-direction_bound c).In-Some in
    (due.direction_possible, omega (arith, due.edge_known, edges_length c.args.sheet.automaton))

pub put_step-run-requires-clause-edge_in_bounds : goal.put_step-run-requires-clause-edge_in_bounds
put_step-run-requires-clause-edge_in_bounds c =
    let due = next (goal.at.put_step-run-requires-clause-edge_in_bounds c).In-Some in
    appending_room c.loop-step.invariant.written c.requires.steps_in_bounds (steps_open _ _ _ due)

pub loop-step-preserved : goal.loop-step-preserved
loop-step-preserved c =
    let due = next (goal.at.loop-step-preserved c).In-Some in
    let so_far = c.loop-step.invariant in
    let stepped = c.put_step-run.ensures in record {
      written = rw stepped.reaches (appending_next so_far.written (steps_open _ _ _ due) stepped.appends);
      same_end = rw stepped.reaches (sym (after_next _ _ _ due) ∙ so_far.same_end);
      in_state = stepped.new_state;
      possible = due.rest_possible;
      by_two = c.in-Some.ensures.steps.0 ∙ so_far.by_two;
    }

few : (c : In-None) → length (chunks_exact_rest c.loop-step.step-iterator) < 2
few c = omega (arith, c.in-None.ensures.steps.1.0)

pub returns-clause-appends : goal.returns-clause-appends
returns-clause-appends c =
    let left = chunks_exact_rest c.loop-step.step-iterator in
    appending_all (rw (steps_end (sheet_of c.args.sheet) (choice_in c.args.sheet c.args.tables.now) (vertex_of c.args.sheet.architecture c.loop-step.run) left (few (goal.at.returns-clause-appends c).In-None)) at c.loop-step.invariant.written)

pub returns-clause-reaches : goal.returns-clause-reaches
returns-clause-reaches c = sym (after_end _ _ _ _ (few (goal.at.returns-clause-reaches c).In-None)) ∙ c.loop-step.invariant.same_end
