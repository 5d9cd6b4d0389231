-- `template::digit`: the test against 10 is the one of the definition.
use borrow.Author.Rules.{rules}
use Rattle.model.specs.Mask.{if}
use Rattle.template.specs.Template.{digit}
use Rattle.template.proofs.digit.Goals as goal

pub returns-then-d-lt10 : goal.returns-then-d-lt10
unfolding digit if
returns-then-d-lt10 c = search rules

pub returns : goal.returns
unfolding digit if
returns c = search rules
