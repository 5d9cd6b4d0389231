-- What was written and the steps that are left are all, these lead to the same vertex as all of them, the run has come to a composed state, and they are possible.
use Rattle.std.proofs.Common.{◌≡◌}
use Rattle.std.specs.Slice.Iter.{chunks_exact_rest, chunks_exact_size}
use Rattle.sheet.specs.Struct.{sheet_of}
use Rattle.composition.specs.Struct.{IsState}
use Rattle.append.proofs.Appending.{Appending}
use Rattle.replay.specs.Run.{after, steps_text, Possible}
use Rattle.replay.specs.Struct.{choice_in, vertex_of}
use Rattle.replay.proofs.put_steps.Given as goal

abbrev pub invariant-loop-step : goal.invariant-loop-step
invariant-loop-step l =
    let s = sheet_of l.sheet in
    let c = choice_in l.sheet l.tables in
    let v₀ = vertex_of l.sheet.architecture l.fn.start in
    let v = vertex_of l.sheet.architecture l.run in
    let left = chunks_exact_rest l.step-iterator in record {
      written : Appending l.initial.text l.fn.start.at (steps_text s c v₀ l.steps) l.run.at l.text (steps_text s c v left);
      same_end : after s c v left ≡ after s c v₀ l.steps;
      in_state : IsState l.sheet.architecture l.run.state;
      possible : Possible s left;
      by_two : chunks_exact_size l.step-iterator ≡ 2;
    }
