-- What was written and the records of the states from x on are all.
use Rattle.std.proofs.Common.{◌-◌, map}
use Rattle.model.specs.Book.{records}
use Rattle.append.proofs.Appending.{Appending}
use Rattle.architecture.specs.Struct.{process_in}
use Rattle.layout.specs.Slots.{slot_code, process_codes}
use Rattle.layout.proofs.put_records.Given as goal

abbrev pub invariant-loop-x : goal.invariant-loop-x
invariant-loop-x l =
    let p = process_in l.fn.a l.i in
    Appending l.initial.slots l.start (process_codes l.fn.a l.i) l.at l.slots (map slot_code (records l.i p (p.bound - l.x) l.x))
