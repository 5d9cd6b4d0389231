-- `listing::next_twos`: its cases are those of the definition.
use borrow.Author.Rules.{rules}
use Rattle.model.specs.Mask.{if}
use Rattle.listing.specs.Listing.{twos}
use Rattle.listing.proofs.next_twos.Goals as goal

pub returns-in-2 : goal.returns-in-2
unfolding twos if
returns-in-2 c = search rules

pub returns-in-4 : goal.returns-in-4
unfolding twos if
returns-in-4 c = search rules

pub returns-in_default : goal.returns-in_default
unfolding twos if
returns-in_default c = search rules
