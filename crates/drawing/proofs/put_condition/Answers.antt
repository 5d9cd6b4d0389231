-- `drawing::put_condition`: the inputs that are on are among the inputs, and the others are off.
use native.Mathlib.Omega.{arith}
use Rattle.ties.proofs.Unpacked.{unpack_le}
use Rattle.drawing.proofs.put_condition.Goals as goal

pub overflow_sub-mask : goal.overflow_sub-mask
overflow_sub-mask c = omega (arith, unpack_le c.args.mask c.args.index)
