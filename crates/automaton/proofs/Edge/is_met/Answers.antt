-- Whether the masks' test differs from the kind is that test, turned round where the edge says unless.
use Rattle.std.proofs.Common.{arith}
use Rattle.std.proofs.lemmas.Grind.{common_steps}
use Rattle.model.specs.Mask.{if}
use Rattle.model.specs.RunGraph.{meets}
use Rattle.automaton.proofs.Edge.is_met.Goals as goal

pub returns : goal.returns
unfolding meets if
returns c = grind (arith, common_steps)
