-- The records of process i are due next, and behind those of the last EN is.
use Rattle.std.proofs.Common.{List, ℕ, ◌≡◌, ◌+◌, ◌≤◌, suc, [], ◌∷◌, map, length, ap, ◌∙◌, arith}
use Rattle.std.proofs.lemmas.List.{length-map}
use Rattle.model.specs.Book.{form, book_length}
use Rattle.append.specs.Appends.{Appends}
use Rattle.append.proofs.Appended.{append_more}
use Rattle.append.proofs.Appending.{Opens, appending_none, appending_next, appending_room, appending_all}
use Rattle.architecture.specs.declared.Architecture.{Architecture}
use Rattle.architecture.specs.Struct.{IsProper, architecture_of}
use Rattle.layout.specs.Slots.{slot_of, slot_code}
use Rattle.layout.proofs.FormWords.{slots_back, bytes_form, form_from, form_open, form_closing, form_short}
use Rattle.layout.proofs.fill_slots.Goals as goal
use Rattle.layout.proofs.fill_slots.Goals.{After-put}

pub loop-i-init : goal.loop-i-init
unfolding form architecture_of
loop-i-init c = appending_none _ _ _

-- there is room for all words
room : (a : Architecture) (slots : List ℕ) → IsProper a → 338 ≤ length slots → 0 + length (map slot_code (form (architecture_of a))) ≤ length slots
room a slots z h = omega (arith, form_short a z)

pub put_records-at-requires-clause-i_in_bounds : goal.put_records-at-requires-clause-i_in_bounds
put_records-at-requires-clause-i_in_bounds c =
    appending_room c.loop-i.invariant (room _ _ c.requires.proper c.requires.in_bounds) (form_open c.args.a c.loop-i.i c.loop-i-test.true)

pub loop-i-preserved : goal.loop-i-preserved
loop-i-preserved c = appending_next c.loop-i.invariant (form_open c.args.a c.loop-i.i c.loop-i-test.true) c.put_records-at.ensures

-- behind the loop EN is due
due_last : (a : Architecture) (i : ℕ) → i ≡ a.processes → Opens (form_from a i) (suc 0x45 ∷ suc 0x4E ∷ []) []
unfolding slot_code
due_last a i e = record { is = form_closing a i e }

pub put-within_end-requires : goal.put-within_end-requires
put-within_end-requires c =
    let end = appending_room c.loop-i.invariant (room _ _ c.requires.proper c.requires.in_bounds) (due_last c.args.a c.loop-i.i (omega arith)) in
    omega arith

pub put-requires : goal.put-requires
put-requires c =
    let end = appending_room c.loop-i.invariant (room _ _ c.requires.proper c.requires.in_bounds) (due_last c.args.a c.loop-i.i (omega arith)) in
    omega arith

-- all words were written
whole : (c : After-put) → Appends c.args.slots.now 0 (map slot_code (form (architecture_of c.args.a))) c.put.result c.put.new.list
whole c =
    let two = append_more c.put-within_end.ensures c.put.ensures in
    appending_all (appending_next c.loop-i.invariant (due_last c.args.a c.loop-i.i (omega arith)) (rw (← c.due.ensures, ← c.due-2.ensures) two))

pub returns-clause-value : goal.returns-clause-value
unfolding book_length
returns-clause-value c =
    let w = whole (goal.at.returns-clause-value c).After-put in
    let long = length-map (form (architecture_of c.args.a)) slot_code in
    (omega (arith, w.ends, long), omega (arith, w.ends, form_short c.args.a c.requires.proper))

pub returns-clause-result_after : goal.returns-clause-result_after
returns-clause-result_after c =
    ap (map slot_of) (whole (goal.at.returns-clause-result_after c).After-put).is ∙ slots_back (form (architecture_of c.args.a)) (bytes_form (architecture_of c.args.a) c.requires.proper.proper)
