-- The bytes of AR, of the ties and of the processes before the index are counted.
use Rattle.std.proofs.Common.{◌≡◌, ◌+◌, ◌*◌, ◌≤◌, length}
use Rattle.model.specs.SheetFile.{processes_bytes}
use Rattle.architecture.specs.Struct.{first_in}
use Rattle.joining.proofs.fronts.front_length.Given as goal

abbrev pub invariant-loop-process : goal.invariant-loop-process
invariant-loop-process l = record {
  is : l.bytes ≡ 5 + 4 * l.fn.a.ties + length (processes_bytes (first_in l.fn.a l.process-index));
  few : l.bytes ≤ 5 + 4 * l.fn.a.ties + 6 * l.process-index;
}
