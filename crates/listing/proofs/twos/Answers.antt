-- `listing::twos`: in each turn the exponents of the next process are added, if it leads itself.
use mathlib.Core.Path.{◌≡◌}
use native.Mathlib.Omega.{arith}
use lib.Count.{ones-le}
use Rattle.model.specs.Mask.{count}
use Rattle.model.specs.Choice.{rows}
use Rattle.listing.specs.Listing.{twos, total}
use Rattle.listing.proofs.Exponents.{twos_few, once_all, once_none, total_turn}
use Rattle.listing.proofs.twos.Goals as goal

pub rows_total-sum-requires-clause-of_output_bound : goal.rows_total-sum-requires-clause-of_output_bound
rows_total-sum-requires-clause-of_output_bound c =
    (ones-le 8 c.outputs_of.result (omega (arith, c.outputs_of.type_inv)), omega (arith, twos_few.of_next c.bound_of.result))

pub loop-i-preserved : goal.loop-i-preserved
unfolding twos count
loop-i-preserved c =
    let added = rw (c.outputs_of.ensures, c.next_twos.ensures, c.bound_of.ensures) at c.rows_total-sum.ensures.value in
    record { few = omega arith; so_far = omega (arith, added, total_turn twos c.args.a c.requires c.loop-i.i c.loop-i-test.true) }

pub returns : goal.returns
unfolding rows total
returns c =
    let e : c.loop-i.i ≡ c.args.a.processes = omega arith in
    omega (arith, rw (once_none c.args.a c.requires c.loop-i.i e, once_all c.args.a) at c.loop-i.invariant.so_far)
