-- `join::refuse` is safe, and what it puts out is what is due: the text of the refusal.
use Rattle.std.proofs.Common.{sym, ap, ◌∙◌}
use Rattle.text.specs.Text.{text_or_refused}
use Rattle.join.specs.Printed.{printed}
use Rattle.join.proofs.refuse.Goals as goal

-- `put_out(rt, first, second, &text[..end])`
pub put_out-requires : goal.put_out-requires
unfolding printed text_or_refused
put_out-requires g c = c.refused_text-end.ensures.is ∙ sym (ap text_or_refused c.requires)
