-- `text::row_count`: a process has at most 4 rows, and of processes there are at most 4.
use mathlib.Core.Path.{◌≡◌}
use native.Mathlib.Omega.{arith}
use Rattle.architecture.specs.Struct.{process_in}
use Rattle.architecture.proofs.ProcessesOfArrays.{facts, process_next, processes_end}
use Rattle.text.specs.Text.{row_count}
use Rattle.text.proofs.row_count.Goals as goal

pub overflow_add-rows : goal.overflow_add-rows
overflow_add-rows c = omega (arith, (facts c.requires).few_states c.loop-i.i c.loop-i-test.true, (facts c.requires).few_processes)

pub loop-i-preserved : goal.loop-i-preserved
unfolding row_count
loop-i-preserved c =
    let a = c.args.a in
    record {
      few = omega (arith, (facts c.requires).few_states c.loop-i.i c.loop-i-test.true);
      so_far = omega (arith, rw (process_next (process_in a) a.processes c.loop-i.i c.loop-i-test.true) at c.loop-i.invariant.so_far);
    }

pub returns : goal.returns
unfolding row_count
returns c =
    let a = c.args.a in
    let e : c.loop-i.i ≡ a.processes = omega arith in
    omega (arith, rw (e, processes_end (process_in a) a.processes) at c.loop-i.invariant.so_far)
