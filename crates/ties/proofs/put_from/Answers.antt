-- The number itself is due next, and behind the last nothing is.
use Rattle.std.proofs.Common.{◌≡◌, ◌+◌, ◌-◌, ◌≤◌, length, arith}
use Rattle.theory.specs.Lists.{from}
use Rattle.theory.proofs.ListLaws.{from_long}
use Rattle.append.proofs.Appending.{appending_none, appending_next, appending_room, appending_all}
use Rattle.ties.proofs.LeadersOfArrays.{from_open, from_end}
use Rattle.ties.proofs.put_from.Goals as goal

pub loop-number-init : goal.loop-number-init
loop-number-init c = let e : c.args.first + c.args.count - c.args.first ≡ c.args.count = omega arith in rw e (appending_none _ _ _)

pub put-at-requires : goal.put-at-requires
put-at-requires c =
    let room : c.args.start + length (from c.args.count c.args.first) ≤ length c.args.words.now = omega (arith, from_long c.args.count c.args.first) in
    omega (arith, appending_room c.loop-number.invariant room (from_open (c.args.first + c.args.count) c.loop-number.number c.loop-number-test.true))

pub loop-number-preserved : goal.loop-number-preserved
loop-number-preserved c =
    appending_next c.loop-number.invariant (from_open (c.args.first + c.args.count) c.loop-number.number c.loop-number-test.true) c.put-at.ensures

pub returns : goal.returns
returns c = appending_all (rw (from_end (c.args.first + c.args.count) c.loop-number.number (omega arith)) at c.loop-number.invariant)
