use Rattle.std.proofs.Common.{arith}
use Rattle.append.proofs.Appended.{append_none, append_copy, append_length}
use Rattle.writing.proofs.put_front.Goals as goal

pub loop-k-init : goal.loop-k-init
loop-k-init c = append_none c.args.sheet.now 0

pub loop-k-preserved : goal.loop-k-preserved
loop-k-preserved c = append_copy c.args.front.now c.loop-k.k (omega arith) c.loop-k.invariant (omega (arith, append_length c.loop-k.invariant (omega arith)))
