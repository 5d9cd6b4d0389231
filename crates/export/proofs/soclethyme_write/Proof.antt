-- `export::soclethyme_write` meets its contract: the number is that of the planner's reply, and the book is as the planner left it.
use mathlib.Core.Path.{ap, ◌∙◌}
use borrow.Author.Rules.{rules}
use Rattle.model.specs.Numbers.{reply_code}
use Rattle.export.proofs.soclethyme_write.Statement.{statement}
use Rattle.export.proofs.soclethyme_write.Tie as tie

-- `reply_code(planner::write(sheet, tables, book))`
write-requires : tie.Need-write-requires
write-requires c κs = search rules

-- `reply_code(planner::write(sheet, tables, book))`
reply-code-requires : tie.Need-reply_code-requires
reply-code-requires c κs = search rules

-- `reply_code(planner::write(sheet, tables, book))`
same_length : tie.Need-shape_of-book
same_length c = search rules

-- `reply_code(planner::write(sheet, tables, book))`
returns : tie.Need-returns
returns c = let w = c.write.ensures in (c.reply_code.ensures ∙ ap reply_code w.0, w.1)

pub soclethyme_write_spec : {M : Type 1} → statement M
soclethyme_write_spec = tie.close (tie.spec write-requires reply-code-requires same_length returns)
