-- `template::put_filled`: in each turn the text for the next byte goes behind what was written.
use native.Mathlib.Omega.{arith}
use lib.ListN.{get_or}
use Rattle.append.proofs.Appending.{appending_next, appending_room, appending_all}
use Rattle.template.proofs.Holes.{taken_few, filled_open, filled_end}
use Rattle.template.proofs.put_filled.Goals as goal

-- the text for this byte is due next
pub put_part-at-requires : goal.put_part-at-requires
put_part-at-requires c =
    let l = c.loop-byte in
    appending_room l.invariant.written c.requires (filled_open c.args.template.now c.args.numbers.now l.byte-index l.used _ _ c.loop-byte-test.true c.nth.ensures c.nth-in-loop-byte.ensures)

-- it takes two numbers at most
pub overflow_add-used-in-loop-byte : goal.overflow_add-used-in-loop-byte
overflow_add-used-in-loop-byte c = omega (arith, taken_few (get_or c.args.template.now c.loop-byte.byte-index 0))

pub loop-byte-preserved : goal.loop-byte-preserved
loop-byte-preserved c =
    let l = c.loop-byte in
    record {
      used_few = omega (arith, taken_few (get_or c.args.template.now l.byte-index 0));
      written = rw c.taken-used.ensures (appending_next l.invariant.written
          (filled_open c.args.template.now c.args.numbers.now l.byte-index l.used _ _ c.loop-byte-test.true c.nth.ensures c.nth-in-loop-byte.ensures) c.put_part-at.ensures);
    }

pub returns : goal.returns
returns c = appending_all (rw (filled_end c.args.template.now _ c.loop-byte.byte-index c.loop-byte-test.false) at c.loop-byte.invariant.written)
