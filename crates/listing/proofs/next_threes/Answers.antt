-- `listing::next_threes`: its cases are those of the definition.
use borrow.Author.Rules.{rules}
use Rattle.model.specs.Mask.{if}
use Rattle.listing.specs.Listing.{threes}
use Rattle.listing.proofs.next_threes.Goals as goal

pub returns-in-3 : goal.returns-in-3
unfolding threes if
returns-in-3 c = search rules

pub returns-in_default : goal.returns-in_default
unfolding threes if
returns-in_default c = search rules
