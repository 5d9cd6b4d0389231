-- The next word is that of the next two bytes, and at the end all words were written.
use Rattle.std.proofs.Common.{◌≡◌, ◌/◌, ◌<◌, length, get_or, arith}
use Rattle.std.proofs.lemmas.List.{take_all, take_more}
use Rattle.append.proofs.Appended.{append_next}
use Rattle.words.specs.Words.{words_of}
use Rattle.words.proofs.WordLaws.{words_count, word_at}
use Rattle.words.proofs.from_bytes.Goals as goal

pub loop-k-preserved : goal.loop-k-preserved
loop-k-preserved c =
    let k = c.loop-k.k in
    let words = words_of c.args.bytes.now in
    let inside : k < length words = omega (arith, words_count c.args.bytes.now) in
    let is : get_or words k 0 ≡ c.from_le_bytes.result = omega (arith, word_at c.args.bytes.now k (omega arith)) in
    rw (take_more words k 0 inside, is) (append_next c.loop-k.invariant _ (omega arith))

pub returns : goal.returns
returns c =
    let bytes = c.args.bytes.now in
    let all : c.loop-k.k ≡ length bytes / 2 = omega arith in
    rw all at (rw (take_all c.loop-k.k (words_of bytes) (omega (arith, words_count bytes))) at c.loop-k.invariant)
