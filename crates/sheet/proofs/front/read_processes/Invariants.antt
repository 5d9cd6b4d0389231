-- Reading on behind what was read is the reading of the whole.
use Rattle.std.proofs.Common.{◌≡◌}
use Rattle.model.specs.Reading.{read_processes}
use Rattle.sheet.proofs.ReadingOn.{RecordsRead}
use Rattle.sheet.proofs.front.read_processes.Given as goal

abbrev pub invariant-loop : goal.invariant-loop
invariant-loop l = (l.read.architecture.processes ≡ l.counter) × RecordsRead l.sheet (λ k a i. read_processes k a l.sheet i) 4 l.counter l.fn.first l.read
