-- The word and the value are those at k.
use Rattle.ties.specs.Tables.{packed_in}
use Rattle.ties.proofs.packed_at.Goals as goal

pub returns : goal.returns
unfolding packed_in
returns c = c.packed_value.ensures
