use Rattle.std.proofs.Common.{◌≡◌, length}
use Rattle.cases.proofs.sheets.edges_then.Given as goal

abbrev pub invariant-loop-k : goal.invariant-loop-k
invariant-loop-k l = length l.sheet ≡ 408
