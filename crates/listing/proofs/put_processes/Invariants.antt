-- `listing::put_processes`: what was written and the processes from i on are all.
use Rattle.architecture.specs.Struct.{processes_in}
use Rattle.append.proofs.Appending.{Appending}
use Rattle.text.proofs.RowTexts.{processes_from}
use Rattle.listing.specs.Listing.{process_text, processes_text}
use Rattle.listing.proofs.put_processes.Given as goal

abbrev pub invariant-loop-i : goal.invariant-loop-i
invariant-loop-i l = Appending l.fn.text l.start (processes_text (processes_in l.a)) l.at l.text (processes_from (λ j p at. process_text j p) l.a l.i)
