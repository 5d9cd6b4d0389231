-- `text::put_edges`: what was written and the edges from i on are all.
use Rattle.automaton.specs.Struct.{first_in}
use Rattle.append.proofs.Appending.{Appending}
use Rattle.text.specs.Rows.{edges_text}
use Rattle.text.proofs.RowTexts.{edges_from}
use Rattle.text.proofs.put_edges.Given as goal

abbrev pub invariant-loop-i : goal.invariant-loop-i
invariant-loop-i l = Appending l.fn.text l.start (edges_text l.ed l.ex (first_in l.u l.u.edges)) l.at l.text (edges_from l.ed l.ex l.u l.i)
