-- What was begun with k entries has one more, and those behind are as at the start.
use Rattle.search.specs.Choices.{Begun}
use Rattle.search.proofs.LeastChoice.{Untouched}
use Rattle.search.proofs.begin.Given as goal

abbrev pub invariant-loop-k : goal.invariant-loop-k
invariant-loop-k l = record { begun : Begun l.k l.groups l.tables l.i l.values l.unset; untouched : Untouched l.k l.tables l.values l.unset }
