-- `template::put_unless`: nothing where the test holds, and the bytes where it does not.
use borrow.Author.Rules.{rules}
use Rattle.model.specs.Mask.{if}
use Rattle.append.proofs.Appended.{append_none}
use Rattle.template.proofs.put_unless.Goals as goal

pub returns-then-test : goal.returns-then-test
unfolding if
returns-then-test c = search (rules, append_none)

pub put_all-requires : goal.put_all-requires
unfolding if
put_all-requires c = search rules

pub returns : goal.returns
unfolding if
returns c = search rules
