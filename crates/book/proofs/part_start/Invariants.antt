-- What was added up and the records of the processes from k on are all; 84 bytes are the records of a process at most.
use Rattle.std.proofs.Common.{◌≡◌, ◌+◌, ◌-◌, ◌*◌, ◌≤◌, drop}
use Rattle.model.specs.Book.{part_start}
use Rattle.architecture.specs.Struct.{processes_in}
use Rattle.book.proofs.part_start.Given as goal

abbrev pub invariant-loop-k : goal.invariant-loop-k
invariant-loop-k l = record {
  small : l.at ≤ 84 * l.k;
  all : l.at + part_start (drop l.k (processes_in l.a)) (l.i - l.k) ≡ part_start (processes_in l.a) l.i;
}
