-- `join::answer` is safe, and what it puts out is what is due: both sheets as one stand at the front of the buffer.
use Rattle.std.proofs.Common.{arith, replicate, length-take}
use Rattle.join.proofs.JoinedBuffer.{was_refused, is_printed, is_short}
use Rattle.join.proofs.answer.Goals as goal

pub refuse-requires : goal.refuse-requires
refuse-requires g c = was_refused c.args.first.now c.args.second.now (replicate 433 0) (omega arith) _ c.in-Err.ensures.value

-- ---- what was written
pub slice_bounds-sheet-end : goal.slice_bounds-sheet-end
slice_bounds-sheet-end g c =
    let n = is_short c.args.first.now c.args.second.now (replicate 433 0) (omega arith) c.in-Ok.length _ c.in-Ok.ensures.value c.in-Ok.ensures.sheet_after in
    omega (arith, n, c.join.auto.sheet)

pub slice_bounds-put_out-end : goal.slice_bounds-put_out-end
slice_bounds-put_out-end g c =
    let n = is_short c.args.first.now c.args.second.now (replicate 433 0) (omega arith) c.in-Ok.length _ c.in-Ok.ensures.value c.in-Ok.ensures.sheet_after in
    omega (arith, n, c.join.auto.sheet, length-take c.in-Ok.length c.join.new.sheet)

pub put_out-requires : goal.put_out-requires
put_out-requires g c =
    is_printed c.args.first.now c.args.second.now (replicate 433 0) (omega arith) c.in-Ok.length _ c.in-Ok.ensures.value c.in-Ok.ensures.sheet_after
