-- The first k bytes were appended.
use Rattle.std.proofs.Common.{take}
use Rattle.append.specs.Appends.{Appends}
use Rattle.writing.proofs.put_front.Given as goal

abbrev pub invariant-loop-k : goal.invariant-loop-k
invariant-loop-k l = Appends l.initial.sheet 0 (take l.k l.front) l.k l.sheet
