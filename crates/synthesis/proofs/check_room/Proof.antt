-- `synthesis::check_room` meets its contract. Each return goes by the tests that led there.
use mathlib.Core.Path.{◌≡◌, ap, ◌∙◌}
use Prim.Native.Nat.{ℕ, ◌*◌}
use native.Mathlib.Omega.{arith}
use borrow.Author.Tests.{lt-ltb, le-ltb}
use borrow.Author.Rules.{rules}
use Rattle.model.specs.declared.Refusal.TheVariants.{BufferTooShort, AnnotationBufferTooShort}
use Rattle.model.specs.Reading.{refused, proper, refuse◌when◌else◌}
use Rattle.model.specs.RunGraph.{vertices}
use Rattle.model.specs.Calls.{reply, book_short, annotation_short, room_to_find}
use Rattle.model.proofs.Refusing.{stop, go}
use Rattle.architecture.specs.Struct.{IsProper}
use Rattle.automaton.specs.Struct.{automaton_of}
use Rattle.sheet.specs.Struct.{sheet_of}
use Rattle.sheet.proofs.AnswersOfReading.{architecture_proper}
use Rattle.model.proofs.RunGraphSteps.{vertices_few}
use Rattle.synthesis.proofs.check_room.Statement.{statement}
use Rattle.synthesis.proofs.check_room.Tie as tie

-- where the function is entered, from the first test on
abbrev entry : tie.After-fill_slots-n → tie.Start
entry f = f.before.before.before.before.before.before

order : (b : tie.Start) → IsProper b.args.sheet.architecture
order b = architecture_proper b.args.sheet b.requires

-- `let n = layout::fill_slots(&mut slots, a)`
slice-aggregate-fill-slots : tie.Need-slice_bounds-fill_slots-end
slice-aggregate-fill-slots c = search rules

-- `let n = layout::fill_slots(&mut slots, a)`
fill-slots-requires : tie.Need-fill_slots-n-requires
fill-slots-requires c κs = (order c.before.before.before.before.before, omega arith)

-- `return Reply::Refused(Refusal::BufferTooShort)`
returns : tie.Need-returns-then-book-n
unfolding reply room_to_find book_short
returns c =
    let a = (entry c.before.before).args in
    let e : room_to_find (sheet_of a.sheet) a.book.now a.annotation.now ≡ refused BufferTooShort =
    stop _ _ (lt-ltb _ _ (rw c.fill_slots-n.ensures.0.0 at c.if-book-n.true)) in
    rw e

-- `let vertices = automaton.states as usize * a.composed_states()`
cast-vertices : tie.Need-overflow_cast-vertices
cast-vertices c = search rules

-- `let vertices = automaton.states as usize * a.composed_states()`
composed-states-requires : tie.Need-composed_states-requires
composed-states-requires c κs = order (entry c.before.before.before)

-- how long the annotation is
annotation-long : (c : tie.After-composed_states) → let s = (entry c.before.before.before.before).args.sheet in s.automaton.states * c.composed_states.result ≡ vertices (sheet_of s)
unfolding vertices automaton_of
annotation-long c = ap (λ (n : ℕ). (entry c.before.before.before.before).args.sheet.automaton.states * n) c.composed_states.ensures

-- `let vertices = automaton.states as usize * a.composed_states()`
mul-vertices : tie.Need-overflow_mul-vertices
mul-vertices c = omega (arith, annotation-long c, vertices_few _ (entry c.before.before.before.before).requires.proper)

-- there is room for the book
book-fits : (c : tie.Else-book-n) → let a = (entry c.before.before).args in
    room_to_find (sheet_of a.sheet) a.book.now a.annotation.now
    ≡ (refuse AnnotationBufferTooShort when annotation_short (sheet_of a.sheet) a.annotation.now else proper (sheet_of a.sheet))
unfolding room_to_find book_short
book-fits c = go _ _ (le-ltb _ _ (rw c.fill_slots-n.ensures.0.0 at c.if-book-n.false))

-- `return Reply::Refused(Refusal::AnnotationBufferTooShort)`
returns-2 : tie.Need-returns-then-annotation-vertices
unfolding reply annotation_short
returns-2 c =
    let a = (entry c.before.before.before.before.before).args in
    let e : room_to_find (sheet_of a.sheet) a.book.now a.annotation.now ≡ refused AnnotationBufferTooShort =
    book-fits c.before.before.before ∙ stop _ _ (lt-ltb _ _ (rw (annotation-long c.before) at c.if-annotation-vertices.true)) in
    rw e

-- `Reply::Done`
returns-3 : tie.Need-returns
unfolding reply annotation_short
returns-3 c =
    let a = (entry c.before.before.before.before.before).args in
    let e : room_to_find (sheet_of a.sheet) a.book.now a.annotation.now ≡ proper (sheet_of a.sheet) = book-fits c.before.before.before
    ∙ go _ _ (le-ltb _ _ (rw (annotation-long c.before) at c.if-annotation-vertices.false)) in
    rw e

pub check_room_spec : {M : Type 1} → statement M
check_room_spec =
    tie.close
    (tie.spec
    slice-aggregate-fill-slots
    fill-slots-requires
    returns
    cast-vertices
    composed-states-requires
    mul-vertices
    returns-2
    returns-3)
