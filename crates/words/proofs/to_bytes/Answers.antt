-- Each word has two bytes, and at the end those of all words were written.
use Rattle.std.proofs.Common.{take, arith, length-take}
use Rattle.append.proofs.Appended.{append_none, append_more}
use Rattle.words.specs.Words.{bytes_of}
use Rattle.words.proofs.WordLaws.{bytes_count, bytes_next}
use Rattle.words.proofs.to_bytes.Goals as goal

pub loop-word-init : goal.loop-word-init
unfolding bytes_of
loop-word-init c = append_none _ _

pub put_word-at-requires : goal.put_word-at-requires
put_word-at-requires c =
    let k = c.loop-word.word-index in
    omega (arith, bytes_count (take k c.args.words.now), length-take k c.args.words.now)

pub loop-word-preserved : goal.loop-word-preserved
loop-word-preserved c = rw (bytes_next c.args.words.now c.loop-word.word-index (omega arith)) (append_more c.loop-word.invariant c.put_word-at.ensures)
