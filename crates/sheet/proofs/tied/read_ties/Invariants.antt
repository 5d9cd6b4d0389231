-- Reading on behind what was read is the reading of the whole.
use Rattle.std.proofs.Common.{◌≡◌}
use Rattle.model.specs.Reading.{read_ties}
use Rattle.sheet.proofs.ReadingOn.{RecordsRead}
use Rattle.sheet.proofs.tied.read_ties.Given as goal

abbrev pub invariant-loop : goal.invariant-loop
invariant-loop l = (l.read.architecture.ties ≡ l.counter) × RecordsRead l.sheet (λ k a i. read_ties k a l.sheet i) 3 l.counter l.fn.first l.read
