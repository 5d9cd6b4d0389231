-- One bit after the other, the lowest first.
use Rattle.std.proofs.Common.{◌≡◌, ◌+◌, ◌-◌, ◌*◌, ◌/◌, ◌%◌, arith}
use Rattle.std.proofs.Math.Nat.{one-mul}
use Rattle.theory.proofs.Digits.{weight_turn}
use Rattle.ties.specs.Unpack as spec
use Rattle.ties.specs.Unpack.{unpacked}
use Rattle.ties.proofs.Unpacked.{unpacked_turn, unpack_le}
use Rattle.ties.proofs.unpack.Goals as goal
use Rattle.ties.proofs.unpack.Goals.{After-lowest-has, After-loop}

pub loop-init : goal.loop-init
unfolding spec.unpack
loop-init c = (omega arith, omega (arith, one-mul (unpacked 8 c.args.mask c.args.index)))

-- what is unpacked after a turn
turn : (c : After-lowest-has) → let l = c.loop in
    l.v + l.weight * (c.lowest-has.result * (l.w % 2)) + l.weight * 2 * unpacked (8 - (l.counter + 1)) (l.m / 2) (l.w / (1 + c.lowest-has.result))
    ≡ spec.unpack c.args.mask c.args.index
turn c = let l = c.loop in unpacked_turn l.counter l.m l.w l.v l.weight _ _ c.loop-test.true c.lowest-has.ensures l.invariant.1

pub overflow_add-v : goal.overflow_add-v
overflow_add-v c = omega (arith, turn (goal.at.overflow_add-v c).After-lowest-has, unpack_le c.args.mask c.args.index)

pub loop-preserved : goal.loop-preserved
loop-preserved c = (weight_turn c.loop.weight c.loop.counter 1 (omega arith) c.loop.invariant.0, turn (goal.at.loop-preserved c).After-lowest-has)

-- all is unpacked
whole : (c : After-loop) → c.loop.v ≡ spec.unpack c.args.mask c.args.index
unfolding unpacked
whole c = let z : 8 - c.loop.counter ≡ 0 = omega arith in omega (arith, rw z at c.loop.invariant.1)

pub overflow_cast-result : goal.overflow_cast-result
overflow_cast-result c = omega (arith, whole (goal.at.overflow_cast-result c).After-loop, unpack_le c.args.mask c.args.index)

pub returns : goal.returns
returns c = whole (goal.at.returns c).After-loop
