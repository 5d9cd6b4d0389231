-- `listing::twos`: the exponents so far, and those of the processes from i on that lead themselves, are all.
use Rattle.std.proofs.Common.{◌≡◌, ◌+◌, ◌*◌, ◌≤◌}
use Rattle.model.specs.Choice.{rows}
use Rattle.listing.specs.Listing.{twos, total}
use Rattle.listing.proofs.Exponents.{once_from}
use Rattle.listing.proofs.twos.Given as goal

abbrev pub invariant-loop-i : goal.invariant-loop-i
invariant-loop-i l =
    record {
      few : l.sum ≤ 160 * l.i;
      so_far : l.sum + total twos (rows (once_from l.a l.i)) ≡ total twos (rows (once_from l.a 0));
    }
