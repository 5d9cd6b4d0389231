-- For an entry that leads itself: with each lower value at i, no choice keeps the sheet, and the witness is as it was.
use Rattle.std.proofs.Common.{◌≡◌}
use Rattle.sheet.specs.Struct.{sheet_of}
use Rattle.choice.specs.Kinds.{kind_of}
use Rattle.exploration.specs.Answers.{Work}
use Rattle.search.proofs.OneGroup.{Trying}
use Rattle.search.proofs.LeastChoice.{Lost}
use Rattle.search.proofs.settle.Given as goal

abbrev pub invariant-loop-v : goal.invariant-loop-v
invariant-loop-v l = record {
  tried : Trying (kind_of l.kind) (Lost (sheet_of l.sheet) l.i l.fn.witness) l.v;
  same : l.witness ≡ l.fn.witness;
  work : Work l.numbers l.stack l.waiting l.targets l.steps;
}
