-- The words are at the front of the buffer.
use Rattle.std.proofs.Common.{ap, length, length-take, arith}
use Rattle.judge.proofs.judge_files.Goals as goal

pub slice_bounds-words-end : goal.slice_bounds-words-end
slice_bounds-words-end c = let f = c.from_bytes-count in omega (arith, f.ensures.ends, ap length f.ensures.is, length-take f.result f.new.words)

pub slice_bounds-judge-end : goal.slice_bounds-judge-end
slice_bounds-judge-end c = let h = c.from_bytes-count.ensures in omega (arith, h.ends, ap length h.is)

pub returns : goal.returns
returns c = rw c.from_bytes-count.ensures.is at c.judge.ensures
