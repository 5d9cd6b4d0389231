-- An output mask is within the outputs, and so not above them; a next state is below its bound.
use Rattle.std.proofs.Common.{arith}
use Rattle.choice.proofs.KindWords.{none_from}
use Rattle.choice.proofs.values_end.Goals as goal

pub returns-clause-none_behind : goal.returns-clause-none_behind
returns-clause-none_behind c v h small = none_from c.args.kind v (omega (arith, c.min.ensures, h, small))
