-- The kind decides.
use Rattle.std.proofs.Common.{arith}
use Rattle.std.proofs.lemmas.Grind.{common_steps}
use Rattle.model.specs.Mask.{if}
use Rattle.joining.proofs.fronts.process_length.Goals as goal

pub returns-then-prompted : goal.returns-then-prompted
unfolding if
returns-then-prompted c = grind (arith, common_steps)

pub returns-else-prompted : goal.returns-else-prompted
unfolding if
returns-else-prompted c = grind (arith, common_steps)
