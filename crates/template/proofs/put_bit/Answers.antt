-- `template::put_bit`: a word where the bit is on or off, and nothing where it is neither.
use borrow.Author.Rules.{rules}
use Rattle.model.specs.Mask.{if}
use Rattle.append.proofs.Appended.{append_none}
use Rattle.template.specs.Template.{bit_text}
use Rattle.template.proofs.put_bit.Goals as goal

pub put_literal-requires : goal.put_literal-requires
unfolding bit_text if
put_literal-requires c = search rules

pub returns-then-on-eq1 : goal.returns-then-on-eq1
unfolding bit_text if
returns-then-on-eq1 c = search rules

pub put_literal-requires-then-off-eq1 : goal.put_literal-requires-then-off-eq1
unfolding bit_text if
put_literal-requires-then-off-eq1 c = search rules

pub returns-then-off-eq1 : goal.returns-then-off-eq1
unfolding bit_text if
returns-then-off-eq1 c = search rules

pub returns : goal.returns
unfolding bit_text if
returns c = search (rules, append_none)
