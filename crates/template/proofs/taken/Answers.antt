-- `template::taken`: each hole takes its numbers, and any other byte takes none.
use borrow.Author.Rules.{rules}
use Rattle.model.specs.Mask.{if}
use Rattle.template.specs.Template.{taken}
use Rattle.template.proofs.taken.Goals as goal

pub returns-in-63 : goal.returns-in-63
unfolding taken if
returns-in-63 c = rw c.in-63.is

pub returns-in_default : goal.returns-in_default
unfolding taken if
returns-in_default c = search rules

pub returns-in_default-2 : goal.returns-in_default-2
unfolding taken if
returns-in_default-2 c = search rules

pub returns-in-35 : goal.returns-in-35
unfolding taken if
returns-in-35 c = search rules

pub returns-in-35-2 : goal.returns-in-35-2
unfolding taken if
returns-in-35-2 c = search rules
