-- `listing::put_counts`: each number is the one that its function answers.
use Rattle.architecture.proofs.ProcessesOfArrays.{entries_are}
use Rattle.listing.proofs.put_counts.Goals as goal

pub put_filled-requires : goal.put_filled-requires
put_filled-requires c = rw (c.composed_states.ensures, c.start.ensures, ← entries_are c.args.a, c.twos.ensures, c.threes.ensures) c.requires.a_in_bounds

pub returns : goal.returns
returns c = rw (c.composed_states.ensures, c.start.ensures, ← entries_are c.args.a, c.twos.ensures, c.threes.ensures) at c.put_filled.ensures
