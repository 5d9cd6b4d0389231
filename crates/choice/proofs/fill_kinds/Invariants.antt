-- What was written and the rows of the processes from i on are all.
use Rattle.std.proofs.Common.{map}
use Rattle.model.specs.Choice.{entries}
use Rattle.append.proofs.Appending.{Appending}
use Rattle.architecture.specs.Struct.{architecture_of}
use Rattle.choice.specs.Kinds.{kind_code}
use Rattle.choice.proofs.KindWords.{kinds_from}
use Rattle.choice.proofs.fill_kinds.Given as goal

abbrev pub invariant-loop-i : goal.invariant-loop-i
invariant-loop-i l = Appending l.initial.kinds 0 (map kind_code (entries (architecture_of l.a))) l.at l.kinds (kinds_from l.a l.i)
