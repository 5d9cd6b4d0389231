-- With room for the path the answer is that of the annotation, and a run is written exactly on `loop`.
use Rattle.std.proofs.Common.{◌≡◌, ◌*◌, ◌≤◌, List, ℕ, length, refl, sym, ap, subst, ◌∙◌, arith, Result, Ok, Err}
use Rattle.std.proofs.lemmas.Result.{err_from_is_err_and}
use Rattle.model.specs.Sheet as model
use Rattle.model.specs.Choice.{chosen}
use Rattle.model.specs.RunGraph.{vertices}
use Rattle.model.specs.Reading.{Reading}
use Rattle.model.specs.Calls.{Chosen, room_for, rooms_for}
use Rattle.architecture.specs.Struct.{architecture_of}
use Rattle.sheet.specs.Struct.{sheet_of}
use Rattle.judging.specs.declared.Annotated.{Annotated}
use Rattle.model.specs.declared.Refusal.{Refusal}
use Rattle.judging.proofs.RoomForPath.{path_is_short, path_long, loop_reached, Due, due_refused, due_err, due_keeps, due_run}
use Rattle.judging.proofs.annotate_or_break.Goals as goal

-- what is due where there is no room to ask for
roomy : (s : model.Sheet) (c ann path : List ℕ) {r : Result Annotated Refusal} {ann' path' : List ℕ} → 4 * vertices s ≤ length path → Due (room_for s c ann) ann path r ann' path' → Due (rooms_for s c ann path) ann path r ann' path'
roomy s c ann path {r} {ann'} {path'} h d = subst (λ (x : Reading Chosen). Due x ann path r ann' path') (sym (path_long s c ann path (vertices s) refl h)) d

pub returns-then-path-vertices : goal.returns-then-path-vertices
returns-then-path-vertices c =
    let a = c.args in
    let d = due_refused a.annotation.now a.path.now (path_is_short (sheet_of a.sheet) (chosen (architecture_of a.sheet.architecture) a.tables.now) a.annotation.now a.path.now _ c.vertices.ensures.0 c.if-path-vertices.true) in
    record { verdict_value = d.answer; annotation_after = d.annotation; path_for = d.run }

pub returns-in_err-annotate_tables : goal.returns-in_err-annotate_tables
returns-in_err-annotate_tables c =
    let a = c.args in
    let t = c.in_err-annotate_tables.ensures in
    let p = err_from_is_err_and c.from_residual.result c.from_residual.ensures.1 in
    let d = roomy (sheet_of a.sheet) (chosen (architecture_of a.sheet.architecture) a.tables.now) a.annotation.now a.path.now (omega (arith, c.vertices.ensures.0)) (due_err _ _ _ a.path.now t.annotation_after _ t.value) in
    rw (p.1, p.2) (record { verdict_value = d.answer; annotation_after = d.annotation; path_for = d.run })

pub put_lasso-requires-clause-rejecting_loop : goal.put_lasso-requires-clause-rejecting_loop
put_lasso-requires-clause-rejecting_loop c =
    let a = c.args in
    loop_reached (sheet_of a.sheet) _ a.annotation.now (sym c.in_ok-annotate_tables.ensures.value ∙ ap Ok c.in-No.is) c.requires.proper.proper c.requires.tables

pub returns-in-Yes : goal.returns-in-Yes
returns-in-Yes c =
    let a = c.args in
    let t = c.in_ok-annotate_tables.ensures in
    let d = roomy (sheet_of a.sheet) (chosen (architecture_of a.sheet.architecture) a.tables.now) a.annotation.now a.path.now (omega (arith, c.vertices.ensures.0))
    (due_keeps _ _ _ a.path.now t.annotation_after (ap Ok (sym c.in-Yes.is) ∙ t.value)) in
    record { verdict_value = d.answer; annotation_after = d.annotation; path_for = d.run }

pub returns-in-No : goal.returns-in-No
returns-in-No c =
    let a = c.args in
    let t = c.in_ok-annotate_tables.ensures in
    let d = roomy (sheet_of a.sheet) (chosen (architecture_of a.sheet.architecture) a.tables.now) a.annotation.now a.path.now (omega (arith, c.vertices.ensures.0))
    (due_run _ _ _ a.path.now t.annotation_after c.put_lasso.result (ap Ok (sym c.in-No.is) ∙ t.value) c.put_lasso.ensures) in
    record { verdict_value = d.answer; annotation_after = d.annotation; path_for = d.run }
