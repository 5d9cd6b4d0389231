-- `listing::threes`: in each turn the exponents of the next process are added, if it leads itself.
use mathlib.Core.Path.{◌≡◌}
use native.Mathlib.Omega.{arith}
use Rattle.model.specs.Choice.{rows}
use Rattle.listing.specs.Listing.{threes, total}
use Rattle.listing.proofs.Exponents.{threes_few, once_all, once_none, total_turn}
use Rattle.listing.proofs.threes.Goals as goal

pub rows_total-sum-requires-clause-of_output_bound : goal.rows_total-sum-requires-clause-of_output_bound
rows_total-sum-requires-clause-of_output_bound c = (omega arith, omega (arith, threes_few.of_next c.bound_of.result))

pub loop-i-preserved : goal.loop-i-preserved
unfolding threes
loop-i-preserved c =
    let added = rw (c.next_threes.ensures, c.bound_of.ensures) at c.rows_total-sum.ensures.value in
    record { few = omega arith; so_far = omega (arith, added, total_turn threes c.args.a c.requires c.loop-i.i c.loop-i-test.true) }

pub returns : goal.returns
unfolding rows total
returns c =
    let e : c.loop-i.i ≡ c.args.a.processes = omega arith in
    omega (arith, rw (once_none c.args.a c.requires c.loop-i.i e, once_all c.args.a) at c.loop-i.invariant.so_far)
