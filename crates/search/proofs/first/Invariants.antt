-- Each entry that was settled is as low as it can be.
use Rattle.sheet.specs.Struct.{sheet_of}
use Rattle.exploration.specs.Answers.{Work}
use Rattle.search.proofs.LeastChoice.{Leading}
use Rattle.search.proofs.first.Given as goal

abbrev pub invariant-loop-i : goal.invariant-loop-i
invariant-loop-i l = record { leading : Leading (sheet_of l.sheet) l.i l.witness; work : Work l.numbers l.stack l.waiting l.targets l.steps }
