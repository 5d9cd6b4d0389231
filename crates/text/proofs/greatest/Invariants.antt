-- `text::greatest`: the greatest so far, and that of the rest, are the greatest of all.
use Rattle.std.proofs.Common.{◌≡◌, drop}
use Prim.Native.Nat.{max}
use Rattle.theory.specs.Lists as lists
use Rattle.text.specs.Text.{unblank}
use Rattle.text.proofs.greatest.Given as goal

abbrev pub invariant-loop-number : goal.invariant-loop-number
invariant-loop-number l = max l.most (lists.greatest unblank (drop l.number-index l.annotation)) ≡ lists.greatest unblank l.annotation
