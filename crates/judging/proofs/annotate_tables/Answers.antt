-- The tables are those of the run graph, so that the numbering finds a loop where the run graph has one, and its annotation otherwise.
use Rattle.std.proofs.Common.{◌≡◌, ℕ, ◌↔◌, List, true, false, refl, ap, ◌∙◌, ⊎_elim, arith, length, length-take, take, drop, ◌++◌, ◌*◌}
use Rattle.theory.specs.Graph as graph
use Rattle.theory.proofs.Bools.{bool_cases}
use Rattle.model.specs.declared.Refusal.TheVariants.{AnnotationBufferTooShort}
use Rattle.model.specs.Reading.{refused, proper}
use Rattle.model.specs.Choice.{chosen}
use Rattle.model.specs.RunGraph.{RejectingLoop}
use Rattle.model.specs.Computed.{loops}
use Rattle.model.specs.Calls.{front, annotated_by, annotated, room_for}
use Rattle.model.proofs.ComputedTests.{loops_exactly}
use Rattle.model.proofs.RunGraphSteps.{vertices_few}
use Rattle.sheet.specs.Struct.{sheet_of}
use Rattle.annotation.specs.Tables.{table_graph}
use Rattle.graph.proofs.TablesOfChoice.{shape_size}
use Rattle.graph.proofs.TablesAreRunGraph.{tables_sized, tables_loop, tables_annotation}
use Rattle.judging.proofs.RoomForNumbers.{too_short, long_enough}
use Rattle.judging.proofs.annotate_tables.Goals as goal
use Rattle.judging.proofs.annotate_tables.Goals.{After-fill-shape, Else-annotation-n}

-- a rejecting loop of the tables is one of the choice
loop-is : (f : After-fill-shape) → let r = f.fill-shape in
    graph.RejectingLoop (table_graph r.result r.new.targets r.new.steps) ↔ RejectingLoop (sheet_of f.args.sheet) (chosen (sheet_of f.args.sheet).architecture f.args.tables.now)
loop-is f =
    let r = f.fill-shape in
    tables_loop _ _ f.requires.proper.proper f.requires.tables r.result r.new.targets r.new.steps r.ensures

-- there is room
room : (c : Else-annotation-n) → let s = sheet_of c.args.sheet in
    room_for s (chosen s.architecture c.args.tables.now) c.args.annotation.now ≡ proper record { sheet = s; choice = chosen s.architecture c.args.tables.now }
room c = long_enough _ _ _ _ (shape_size _ _ c.fill-shape.ensures.shape_is) c.if-annotation-n.false

pub overflow_mul-n : goal.overflow_mul-n
overflow_mul-n c = omega (arith, shape_size _ _ c.fill-shape.ensures.shape_is, vertices_few _ c.requires.proper.proper)

pub returns-then-annotation-n : goal.returns-then-annotation-n
unfolding annotated
returns-then-annotation-n c =
    let s = sheet_of c.args.sheet in
    let e : room_for s (chosen s.architecture c.args.tables.now) c.args.annotation.now ≡ refused AnnotationBufferTooShort =
    too_short _ _ _ _ (shape_size _ _ c.fill-shape.ensures.shape_is) c.if-annotation-n.true in
    rw e (record { value = refl; annotation_after = refl })

pub number-requires-clause-sized : goal.number-requires-clause-sized
number-requires-clause-sized c =
    let r = c.fill-shape in
    tables_sized _ _ c.requires.proper.proper c.requires.tables r.result r.new.targets r.new.steps r.ensures

pub slice_bounds-numbers-end : goal.slice_bounds-numbers-end
slice_bounds-numbers-end c = omega (arith, c.number.ensures.buffers_2.d_long, shape_size _ _ c.fill-shape.ensures.shape_is, vertices_few _ c.requires.proper.proper)

pub slice_bounds-copy_from_slice-end-in-Ok-2 : goal.slice_bounds-copy_from_slice-end-in-Ok-2
slice_bounds-copy_from_slice-end-in-Ok-2 c =
    simp length-take (omega (arith, c.number.ensures.buffers_2.d_long, shape_size _ _ c.fill-shape.ensures.shape_is, vertices_few _ c.requires.proper.proper))

pub copy_from_slice-requires : goal.copy_from_slice-requires
copy_from_slice-requires c =
    simp length-take
    (omega (arith, c.if-annotation-n.false, c.number.ensures.buffers_2.d_long, shape_size _ _ c.fill-shape.ensures.shape_is, vertices_few _ c.requires.proper.proper))

pub returns-in-Err : goal.returns-in-Err
unfolding annotated annotated_by
returns-in-Err c =
    let s = sheet_of c.args.sheet in
    let loop = (loop-is (goal.at.returns-in-Err c).After-fill-shape).0 c.in-Err.ensures.says in
    let e : loops s (chosen s.architecture c.args.tables.now) ≡ true = (loops_exactly s _ c.requires.proper.proper c.requires.tables).1 loop in
    rw (room (goal.at.returns-in-Err c).Else-annotation-n, e) (record { value = refl; annotation_after = refl })

-- what is written over a part goes to the front
written : {n : ℕ} (new old : List ℕ) → n ≡ length new → new ++ drop n old ≡ front new old
unfolding front
written new old e = ap (λ (m : ℕ). new ++ drop m old) e

pub returns-in-Ok : goal.returns-in-Ok
unfolding annotated annotated_by
returns-in-Ok c =
    let s = sheet_of c.args.sheet in
    let r = c.fill-shape in
    let keeps = c.in-Ok.ensures.says in
    let loop = (loop-is (goal.at.returns-in-Ok c).After-fill-shape).1 in
    let e : loops s (chosen s.architecture c.args.tables.now) ≡ false =
    ⊎_elim (λ t. absurd (keeps.0 (loop ((loops_exactly s _ c.requires.proper.proper c.requires.tables).0 t)))) (λ t. t) (bool_cases _) in
    let numbers = keeps.1 ∙ tables_annotation _ _ c.requires.proper.proper c.requires.tables r.result r.new.targets r.new.steps r.ensures in
    let n = r.result.states * r.result.total in
    let all = c.number.new.numbers in
    let long : n ≡ length (take n all) =
    simp length-take (omega (arith, c.number.ensures.buffers_2.d_long, shape_size _ _ r.ensures.shape_is, vertices_few _ c.requires.proper.proper)) in
    rw (room (goal.at.returns-in-Ok c).Else-annotation-n, e)
    (record { value = refl; annotation_after = rw c.copy_from_slice.ensures.after (written (take n all) c.args.annotation.now long ∙ ap (λ (xs : List ℕ). front xs c.args.annotation.now) numbers) })
