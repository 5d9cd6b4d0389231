-- `text::put_next`: in each turn the next field goes behind what was written.
use lib.ListN.{drop_of_length-le}
use Rattle.append.proofs.Appending.{appending_next, appending_room, appending_all}
use Rattle.text.specs.Text.{fields}
use Rattle.text.proofs.RowTexts.{fields_open}
use Rattle.text.proofs.put_next.Goals as goal

pub put_field-at-requires : goal.put_field-at-requires
put_field-at-requires c = appending_room c.loop-x.invariant c.requires (fields_open c.args.next.now c.loop-x.x-index c.loop-x-test.true)

pub loop-x-preserved : goal.loop-x-preserved
loop-x-preserved c = appending_next c.loop-x.invariant (fields_open c.args.next.now c.loop-x.x-index c.loop-x-test.true) c.put_field-at.ensures

pub returns : goal.returns
unfolding fields
returns c = appending_all (rw (drop_of_length-le c.args.next.now {i = c.loop-x.x-index} c.loop-x-test.false) at c.loop-x.invariant)
