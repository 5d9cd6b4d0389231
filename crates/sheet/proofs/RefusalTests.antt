-- Tests that passed or failed, and what a reading then is.
use mathlib.Core.Path.{◌≡◌}
use mathlib.Core.Bool.{true, false}
use mathlib.Core.List.{List}
use Prim.Native.Nat.{ℕ, ◌+◌, ◌-◌, ◌<◌, ◌≤◌}
use native.Mathlib.Omega.{arith}
use lib.ListN.{length}
use Rattle.std.proofs.lemmas.Bool.Decides.{nat_tests}
use borrow.Author.Tests.{lt-ltb, le-ltb}
use Rattle.model.specs.Reading.{short}
use Rattle.model.proofs.Refusing.{stop, go}

-- fewer than n bytes are left at i, or not
module _ (b : List ℕ) (i n : ℕ) where
  pub too_few : length b - i < n → short b i n ≡ true
  unfolding short
  too_few h = lt-ltb (length b) (i + n) (omega arith)

  pub enough : i ≤ length b → n ≤ length b - i → short b i n ≡ false
  unfolding short
  enough l h = le-ltb (length b) (i + n) (omega arith)

-- tests in order: those that failed go on, the last one refuses
pub ruleset in_order = (stop, go, too_few, enough, nat_tests)
