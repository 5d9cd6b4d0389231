-- The line behind the lengths is that of the initial vertex.
use Rattle.std.proofs.Common.{◌≡◌, ◌∙◌, arith}
use Rattle.sheet.specs.Struct.{sheet_of}
use Rattle.replay.specs.Run.{start_of, opening_text}
use Rattle.replay.specs.Struct.{vertex_at}
use Rattle.replay.proofs.StructIsVertex.{same_vertex, start_is}
use Rattle.replay.proofs.put_opening.Goals as goal
use Rattle.replay.proofs.put_opening.Goals.{After-initial-state}

starts : (c : After-initial-state) → vertex_at c.args.sheet.architecture c.args.sheet.automaton.initial c.initial-state.result ≡ start_of (sheet_of c.args.sheet)
starts c = start_is c.args.sheet c.initial-state.result c.initial-state.ensures.result_value

pub put_line-requires-clause-run_in_bounds : goal.put_line-requires-clause-run_in_bounds
unfolding opening_text
put_line-requires-clause-run_in_bounds c = rw (starts (goal.at.put_line-requires-clause-run_in_bounds c).After-initial-state) (omega arith)

pub returns-clause-appends : goal.returns-clause-appends
unfolding opening_text
returns-clause-appends c = rw (starts (goal.at.returns-clause-appends c).After-initial-state) at c.put_line.ensures.appends

pub returns-clause-reaches : goal.returns-clause-reaches
returns-clause-reaches c =
    let kept = c.put_line.ensures.vertex_stays in
    same_vertex c.args.sheet.architecture kept.0 kept.1 ∙ starts (goal.at.returns-clause-reaches c).After-initial-state
