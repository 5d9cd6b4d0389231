-- `show::answer` is safe, and what it puts out is the text that is due: the text is whole.
use Rattle.show.proofs.answer.Goals as goal

-- `put_out(rt, sheet, &text[..end])`
pub put_out-requires : goal.put_out-requires
put_out-requires g c = c.answer_text-end.ensures.is
