-- What was written and the edges from i on are all.
use Rattle.model.specs.SheetFile.{edges_bytes}
use Rattle.append.proofs.Appending.{Appending}
use Rattle.automaton.specs.Struct.{first_in}
use Rattle.writing.proofs.EdgeRecords.{edges_from}
use Rattle.writing.proofs.put_edges.Given as goal

abbrev pub invariant-loop-i : goal.invariant-loop-i
invariant-loop-i l = Appending l.initial.sheet l.start (edges_bytes (first_in l.u l.u.edges)) l.at l.sheet (edges_from l.u l.i)
