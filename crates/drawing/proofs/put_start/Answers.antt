-- `drawing::put_start`: the front, and behind it the automaton. The title counts the processes.
use native.Mathlib.Omega.{arith}
use lib.ListN.{length-append}
use Rattle.architecture.specs.Struct.{process_in, architecture_of}
use Rattle.architecture.proofs.ProcessesOfArrays.{processes_length}
use Rattle.automaton.specs.Struct.{automaton_of}
use Rattle.append.proofs.Appended.{append_more}
use Rattle.drawing.specs.Drawing.{start_text}
use Rattle.drawing.proofs.put_start.Goals as goal

pub put_graph_front-after_front-requires : goal.put_graph_front-after_front-requires
unfolding start_text architecture_of automaton_of
put_graph_front-after_front-requires c =
    let a = c.args.sheet.architecture in
    omega (arith, simp length-append at (rw (processes_length a.processes (process_in a)) at c.requires.sheet_in_bounds))

pub put_automaton-requires-clause-u_in_bounds : goal.put_automaton-requires-clause-u_in_bounds
unfolding start_text architecture_of automaton_of
put_automaton-requires-clause-u_in_bounds c =
    let a = c.args.sheet.architecture in
    omega (arith, simp length-append at (rw (processes_length a.processes (process_in a)) at c.requires.sheet_in_bounds))

pub returns : goal.returns
unfolding start_text architecture_of automaton_of
returns c =
    let a = c.args.sheet.architecture in
    rw (processes_length a.processes (process_in a)) (append_more c.put_graph_front-after_front.ensures c.put_automaton.ensures)
