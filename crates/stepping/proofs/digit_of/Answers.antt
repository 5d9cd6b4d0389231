-- One range of bytes after the other.
use Rattle.std.proofs.Common.{arith}
use Rattle.std.proofs.lemmas.Grind.{common_steps}
use Rattle.model.specs.Mask.{if}
use Rattle.stepping.specs.Words.{digit_of}
use Rattle.stepping.proofs.digit_of.Goals as goal

pub returns-in-48-to-57-clause-value : goal.returns-in-48-to-57-clause-value
unfolding digit_of if
returns-in-48-to-57-clause-value c = grind (arith, common_steps)

pub returns-in-65-to-70-clause-value : goal.returns-in-65-to-70-clause-value
unfolding digit_of if
returns-in-65-to-70-clause-value c = grind (arith, common_steps)

pub returns-in-97-to-102-clause-value : goal.returns-in-97-to-102-clause-value
unfolding digit_of if
returns-in-97-to-102-clause-value c = grind (arith, common_steps)

pub returns-in_default-clause-value : goal.returns-in_default-clause-value
unfolding digit_of if
returns-in_default-clause-value c = grind (arith, common_steps)

pub returns-in_default-2-clause-value : goal.returns-in_default-2-clause-value
unfolding digit_of if
returns-in_default-2-clause-value c = grind (arith, common_steps)

pub returns-in_default-3-clause-value : goal.returns-in_default-3-clause-value
unfolding digit_of if
returns-in_default-3-clause-value c = grind (arith, common_steps)

pub returns-in_default-4-clause-value : goal.returns-in_default-4-clause-value
unfolding digit_of if
returns-in_default-4-clause-value c = grind (arith, common_steps)
