-- What was written and the rows of the states from that of the counter on are all.
use Rattle.std.proofs.Common.{◌-◌, map}
use Rattle.model.specs.Choice.{row, times}
use Rattle.append.proofs.Appending.{Appending}
use Rattle.architecture.specs.Struct.{process_in}
use Rattle.choice.specs.Kinds.{kind_code, process_codes}
use Rattle.choice.proofs.put_rows.Given as goal

abbrev pub invariant-loop : goal.invariant-loop
invariant-loop l =
    let p = process_in l.fn.a l.i in
    Appending l.initial.kinds l.start (process_codes l.fn.a l.i) l.at l.kinds (map kind_code (times (p.bound - l.counter) (row p)))
