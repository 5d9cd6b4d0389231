-- The bits from i on are all set exactly where those from the first on are.
use Rattle.std.proofs.Common.{◌≡◌, ◌-◌}
use Rattle.theory.specs.Lists.{all, from}
use Rattle.model.specs.Mask.{bit}
use Rattle.sheet.proofs.faults.all_set.Given as goal

abbrev pub invariant-loop-i : goal.invariant-loop-i
invariant-loop-i l = all (bit l.mask) (from (l.end - l.i) l.i) ≡ all (bit l.mask) (from (l.end - l.fn.first) l.fn.first)
