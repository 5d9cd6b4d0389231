-- The bytes of the first words were written.
use Rattle.std.proofs.Common.{take}
use Rattle.append.specs.Appends.{Appends}
use Rattle.words.specs.Words.{bytes_of}
use Rattle.words.proofs.to_bytes.Given as goal

abbrev pub invariant-loop-word : goal.invariant-loop-word
invariant-loop-word l = Appends l.initial.bytes 0 (bytes_of (take l.word-index l.words)) l.at l.bytes
