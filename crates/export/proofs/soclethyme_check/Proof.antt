-- `export::soclethyme_check` meets its contract: the number is that of the planner's reply.
use mathlib.Core.Path.{ap, ◌∙◌}
use borrow.Author.Rules.{rules}
use Rattle.model.specs.Numbers.{reply_code}
use Rattle.export.proofs.soclethyme_check.Statement.{statement}
use Rattle.export.proofs.soclethyme_check.Tie as tie

-- `reply_code(planner::check(sheet))`
check-requires : tie.Need-check-requires
check-requires c κs = search rules

-- `reply_code(planner::check(sheet))`
reply-code-requires : tie.Need-reply_code-requires
reply-code-requires c κs = search rules

-- `reply_code(planner::check(sheet))`
returns : tie.Need-returns
returns c = c.reply_code.ensures ∙ ap reply_code c.check.ensures

pub soclethyme_check_spec : {M : Type 1} → statement M
soclethyme_check_spec = tie.close (tie.spec check-requires reply-code-requires returns)
