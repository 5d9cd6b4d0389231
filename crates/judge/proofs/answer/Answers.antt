-- `judge::answer` is safe, and what it puts out is the text that is due: the text of the verdict is whole.
use Rattle.judge.specs.Printed.{printed}
use Rattle.judge.proofs.answer.Goals as goal

-- `put_out(rt, sheet, book, annotation, &text[..end])`
pub put_out-requires : goal.put_out-requires
unfolding printed
put_out-requires g c = rw (← c.judge_files-verdict.ensures) c.verdict_text-end.ensures.is
