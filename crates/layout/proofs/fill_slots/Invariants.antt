-- What was written, the records of the processes from i on, and EN are all.
use Rattle.std.proofs.Common.{map}
use Rattle.model.specs.Book.{form}
use Rattle.append.proofs.Appending.{Appending}
use Rattle.architecture.specs.Struct.{architecture_of}
use Rattle.layout.specs.Slots.{slot_code}
use Rattle.layout.proofs.FormWords.{form_from}
use Rattle.layout.proofs.fill_slots.Given as goal

abbrev pub invariant-loop-i : goal.invariant-loop-i
invariant-loop-i l = Appending l.initial.slots 0 (map slot_code (form (architecture_of l.a))) l.at l.slots (form_from l.a l.i)
