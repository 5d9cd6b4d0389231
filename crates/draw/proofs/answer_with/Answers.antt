-- `draw::answer_with` is safe, and what it puts out is the text that is due: the text is whole.
use Rattle.draw.proofs.answer_with.Goals as goal

-- `put_out_with(rt, sheet, book, &text[..end])`
pub put_out_with-requires : goal.put_out_with-requires
put_out_with-requires g c = c.book_text-end.ensures.is
