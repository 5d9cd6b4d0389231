-- `template::put_part`: each hole has its text, and any other byte stands for itself.
use borrow.Author.Rules.{rules}
use Rattle.model.specs.Mask.{if}
use Rattle.template.specs.Template.{hex, variables, states, condition, part}
use Rattle.template.proofs.put_part.Goals as goal

pub put_decimal-requires : goal.put_decimal-requires
unfolding part if
put_decimal-requires c = rw c.in-35.is at c.requires

pub put_hex-requires : goal.put_hex-requires
unfolding part if hex
put_hex-requires c = rw c.in-37.is at c.requires

pub put_literals-requires : goal.put_literals-requires
unfolding part if variables
put_literals-requires c = rw c.in-64.is at c.requires

pub put_literals-requires-in-36 : goal.put_literals-requires-in-36
unfolding part if states
put_literals-requires-in-36 c = rw c.in-36.is at c.requires

pub put_literals-requires-in-63 : goal.put_literals-requires-in-63
unfolding part if condition
put_literals-requires-in-63 c = rw c.in-63.is at c.requires

pub put-requires : goal.put-requires
unfolding part if
put-requires c = search rules

pub returns-in-35 : goal.returns-in-35
unfolding part if
returns-in-35 c = rw c.in-35.is c.put_decimal.ensures

pub returns-in-37 : goal.returns-in-37
unfolding part if hex
returns-in-37 c = rw c.in-37.is c.put_hex.ensures

pub returns-in-64 : goal.returns-in-64
unfolding part if variables
returns-in-64 c = rw c.in-64.is c.put_literals.ensures

pub returns-in-36 : goal.returns-in-36
unfolding part if states
returns-in-36 c = rw c.in-36.is c.put_literals-in-36.ensures

pub returns-in-63 : goal.returns-in-63
unfolding part if condition
returns-in-63 c = rw c.in-63.is c.put_literals-in-63.ensures

pub returns-in_default : goal.returns-in_default
unfolding part if
returns-in_default c = search rules
