-- `text::row_count`: the rows so far, and those of the processes from i on, are all.
use Rattle.std.proofs.Common.{◌≡◌, ◌+◌, ◌*◌, ◌≤◌, drop}
use Rattle.architecture.specs.Struct.{processes_in}
use Rattle.text.specs.Text.{row_count}
use Rattle.text.proofs.row_count.Given as goal

abbrev pub invariant-loop-i : goal.invariant-loop-i
invariant-loop-i l =
    record {
      few : l.rows ≤ 4 * l.i;
      so_far : l.rows + row_count (drop l.i (processes_in l.a)) ≡ row_count (processes_in l.a);
    }
