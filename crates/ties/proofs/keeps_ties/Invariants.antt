-- The test of the ties from the index on is the test of all.
use Rattle.std.proofs.Common.{◌≡◌, drop}
use Rattle.theory.specs.Lists.{all}
use Rattle.model.specs.Choice.{kept, keeps_ties}
use Rattle.architecture.specs.Struct.{architecture_of, ties_in}
use Rattle.ties.proofs.keeps_ties.Given as goal

abbrev pub invariant-loop-tie : goal.invariant-loop-tie
invariant-loop-tie l = all (kept (architecture_of l.fn.a) l.tables) (drop l.tie-index (ties_in l.fn.a)) ≡ keeps_ties (architecture_of l.fn.a) l.tables
