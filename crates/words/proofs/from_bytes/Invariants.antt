-- The first k words were written.
use Rattle.std.proofs.Common.{take}
use Rattle.append.specs.Appends.{Appends}
use Rattle.words.specs.Words.{words_of}
use Rattle.words.proofs.from_bytes.Given as goal

abbrev pub invariant-loop-k : goal.invariant-loop-k
invariant-loop-k l = Appends l.initial.words 0 (take l.k (words_of l.bytes)) l.k l.words
