-- `judging::judge_tables` meets its contract: the tables are those of the run graph, so that their test of the annotation is the run graph's.
use mathlib.Core.Path.{◌≡◌, sym, ◌∙◌}
use Prim.Native.Nat.{◌*◌}
use native.Mathlib.Omega.{arith}
use borrow.Author.Rules.{rules}
use Rattle.model.specs.declared.Refusal.TheVariants.{AnnotationBufferTooShort}
use Rattle.model.specs.Mask.{if}
use Rattle.model.specs.Reading.{refused, proper}
use Rattle.model.specs.RunGraph.{vertices}
use Rattle.model.specs.Computed.{valid}
use Rattle.model.specs.Calls.{judged, room_for}
use Rattle.sheet.specs.Struct.{sheet_of}
use Rattle.model.specs.Choice.{chosen}
use Rattle.model.proofs.RunGraphSteps.{vertices_few}
use Rattle.graph.proofs.TablesOfChoice.{shape_size}
use Rattle.graph.proofs.TablesAreRunGraph.{tables_sized, tables_judge}
use Rattle.judging.proofs.RoomForNumbers.{too_short, long_enough}
use Rattle.judging.proofs.judge_tables.Statement.{statement}
use Rattle.judging.proofs.judge_tables.Tie as tie

-- ---- positions: where the function is entered, where the tables are filled, and where the annotation is long enough
abbrev entry : tie.After-fill-shape → tie.Start
entry f = f.before.before.before.before.before

abbrev filled : tie.Else-annotation-shape → tie.After-fill-shape
filled c = c.before.before

abbrev roomy : tie.After-steps-2-1 → tie.Else-annotation-shape
roomy c = c.before.before

-- `let shape = graph::fill(&mut targets, &mut steps, sheet, tables)`
fill-requires : tie.Need-fill-shape-requires
fill-requires c κs = search rules

-- how many vertices there are
size_is : (f : tie.After-fill-shape) → f.fill-shape.result.states * f.fill-shape.result.total ≡ vertices (sheet_of (entry f).args.sheet)
size_is f = shape_size _ _ f.fill-shape.ensures.shape_is

-- `if annotation.len() < shape.states * shape.total`
mul-if1 : tie.Need-overflow_mul-shape
mul-if1 c = omega (arith, size_is c.before, vertices_few _ (entry c.before).requires.0.proper)

-- `return Verdict::Refused(Refusal::AnnotationBufferTooShort)`
returns : tie.Need-returns-then-annotation-shape
unfolding judged
returns c =
    let f = c.before.before in
    let a = (entry f).args in
    let s = sheet_of a.sheet in
    let e : room_for s (chosen s.architecture a.tables.now) a.annotation.now ≡ refused AnnotationBufferTooShort = too_short _ _ _ _ (size_is f) c.if-annotation-shape.true in
    rw e

-- `if annotation::is_valid(annotation, &targets, &steps, shape)`
slice-aggregate-is-valid : tie.Need-slice_bounds-is_valid-end
slice-aggregate-is-valid c = search rules

-- `if annotation::is_valid(annotation, &targets, &steps, shape)`
slice-aggregate-is-valid-2 : tie.Need-slice_bounds-is_valid-end-2
slice-aggregate-is-valid-2 c = search rules

-- there is room
room : (c : tie.Else-annotation-shape) → let a = (entry (filled c)).args in let s = sheet_of a.sheet in
    room_for s (chosen s.architecture a.tables.now) a.annotation.now ≡ proper record { sheet = s; choice = chosen s.architecture a.tables.now }
room c = long_enough _ _ _ _ (size_is (filled c)) c.if-annotation-shape.false

-- `if annotation::is_valid(annotation, &targets, &steps, shape)`
is-valid-requires : tie.Need-is_valid-requires
is-valid-requires c κs =
    let f = filled (roomy c) in
    let p = (entry f).requires in
    let r = f.fill-shape in
    (tables_sized _ _ p.0.proper p.1 r.result r.new.targets r.new.steps r.ensures, (roomy c).if-annotation-shape.false)

-- what the test says
says : (c : tie.After-is_valid) → let a = (entry (filled (roomy c.before))).args in
    c.is_valid.result ≡ valid (sheet_of a.sheet) (chosen (sheet_of a.sheet).architecture a.tables.now) a.annotation.now
says c =
    let f = filled (roomy c.before) in
    let b = entry f in
    let r = f.fill-shape in
    c.is_valid.ensures ∙ tables_judge _ _ b.requires.0.proper b.requires.1 r.result r.new.targets r.new.steps r.ensures b.args.annotation.now

-- `return Verdict::Found(Finding::Yes)`
returns-2 : tie.Need-returns-then-is_valid
unfolding judged if
returns-2 c = rw (room (roomy c.before.before), sym (says c.before) ∙ c.if-is_valid.true)

-- `Verdict::Found(Finding::No)`
returns-3 : tie.Need-returns
unfolding judged if
returns-3 c = rw (room (roomy c.before.before), sym (says c.before) ∙ c.if-is_valid.false)

pub judge_tables_spec : {M : Type 1} → statement M
judge_tables_spec =
    tie.close
    (tie.spec
    fill-requires
    mul-if1
    returns
    slice-aggregate-is-valid
    slice-aggregate-is-valid-2
    is-valid-requires
    returns-2
    returns-3)
