-- A mark that is not there, or 64 edges: EN is what is left. At a mark, this edge and then the rest.
use Rattle.std.proofs.Common.{◌≡◌, ◌≤◌, ◌⊎◌, inl, inr, false, refl, sym, ◌∙◌, true, arith, rules}
use Rattle.std.proofs.lemmas.Result.{err_from_is_err_and}
use Rattle.model.specs.Reading.{edge_marked}
use Rattle.sheet.proofs.ReadingEdges.{end_refused, end_read, reads_refused, reads_on}
use Rattle.sheet.proofs.behind.read_edges.Goals as goal
use Rattle.sheet.proofs.behind.read_edges.Goals.{After-read_end, else-loop-test, then-loop-test+then-not-is_edge}

pub loop-init : goal.loop-init
loop-init c = record { arrays = c.requires.arrays; counted = c.requires.edges_value; inside = c.requires.start_in_bounds.0; rest = refl }

pub returns-in_err-edge-clause-result_value : goal.returns-in_err-edge-clause-result_value
returns-in_err-edge-clause-result_value c =
    let p = err_from_is_err_and c.from_residual.result c.from_residual.ensures.1 in
    let marked : edge_marked c.args.sheet.now c.loop.at ≡ true = sym c.is_edge.ensures ∙ c.if-not-is_edge.false in
    rw (p.1, p.2) (reads_refused c.loop.invariant c.loop-test.true marked _ c.in_err-edge.ensures.result_value)

pub loop-preserved : goal.loop-preserved
loop-preserved c =
    let marked : edge_marked c.args.sheet.now c.loop.at ≡ true = sym c.is_edge.ensures ∙ c.if-not-is_edge.false in
    let e = c.in_ok-edge.ensures in
    reads_on c.loop.invariant c.loop-test.true marked c.with_edge-read.result _ e.result_value c.with_edge-read.ensures.result_value (search rules) (omega (arith, c.loop.invariant.counted)) e.inside

-- the loop is over: no mark, or enough edges
over : (c : After-read_end) → (edge_marked c.args.sheet.now c.loop.at ≡ false) ⊎ (64 ≤ c.loop.counter)
over c = elim c.loop-test.branch [ else-loop-test w ↦ inr w.loop-test.false | then-loop-test+then-not-is_edge w ↦ inl (sym w.is_edge.ensures ∙ w.if-not-is_edge.true) ]

pub returns-in_err-read_end-clause-result_value : goal.returns-in_err-read_end-clause-result_value
returns-in_err-read_end-clause-result_value c =
    let d = (goal.at.returns-in_err-read_end-clause-result_value c).After-read_end in
    let p = err_from_is_err_and c.from_residual-in_err-read_end.result c.from_residual-in_err-read_end.ensures.1 in
    rw (p.1, p.2) (end_refused c.loop.invariant (over d) _ c.in_err-read_end.ensures)

pub returns-clause-result_value : goal.returns-clause-result_value
returns-clause-result_value c = end_read c.loop.invariant (over (goal.at.returns-clause-result_value c).After-read_end) c.in_ok-read_end.ensures
