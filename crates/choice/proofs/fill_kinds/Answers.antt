-- The rows of process i are due next, and behind those of the last process nothing is.
use Rattle.std.proofs.Common.{◌+◌, ◌≤◌, map, length, ap, ◌∙◌, arith}
use Rattle.std.proofs.lemmas.List.{length-map}
use Rattle.model.specs.Choice.{entries}
use Rattle.append.specs.Appends.{Appends}
use Rattle.append.proofs.Appending.{appending_none, appending_next, appending_room, appending_all}
use Rattle.architecture.specs.Struct.{architecture_of}
use Rattle.choice.specs.Kinds.{kind_of, kind_code}
use Rattle.choice.proofs.KindWords.{kinds_back, kinds_open, kinds_end, entries_few}
use Rattle.choice.proofs.fill_kinds.Goals as goal
use Rattle.choice.proofs.fill_kinds.Goals.{After-loop-i}

pub loop-i-init : goal.loop-i-init
unfolding entries architecture_of
loop-i-init c = appending_none _ _ _

pub put_rows-at-requires-clause-i_in_bounds : goal.put_rows-at-requires-clause-i_in_bounds
put_rows-at-requires-clause-i_in_bounds c =
    let room : 0 + length (map kind_code (entries (architecture_of c.args.a))) ≤ length c.args.kinds.now =
    omega (arith, length-map (entries (architecture_of c.args.a)) kind_code, entries_few c.args.a c.requires.proper) in
    appending_room c.loop-i.invariant room (kinds_open c.args.a c.loop-i.i c.loop-i-test.true)

pub loop-i-preserved : goal.loop-i-preserved
loop-i-preserved c = appending_next c.loop-i.invariant (kinds_open c.args.a c.loop-i.i c.loop-i-test.true) c.put_rows-at.ensures

-- all words were written
whole : (c : After-loop-i) → Appends c.args.kinds.now 0 (map kind_code (entries (architecture_of c.args.a))) c.loop-i.at c.loop-i.kinds
whole c = appending_all (rw (kinds_end c.args.a c.loop-i.i (omega arith)) at c.loop-i.invariant)

pub returns-clause-value : goal.returns-clause-value
returns-clause-value c =
    let w = whole (goal.at.returns-clause-value c).After-loop-i in
    let long = length-map (entries (architecture_of c.args.a)) kind_code in
    (omega (arith, w.ends, long), omega (arith, w.ends, long, entries_few c.args.a c.requires.proper))

pub returns-clause-result_after : goal.returns-clause-result_after
returns-clause-result_after c = ap (map kind_of) (whole (goal.at.returns-clause-result_after c).After-loop-i).is ∙ kinds_back (entries (architecture_of c.args.a))
