-- The texts of ties, one behind another: which is due next, and what is left behind it.
use mathlib.Core.Path.{◌≡◌}
use mathlib.Core.List.{List, []}
use Prim.Native.Nat.{ℕ, ◌+◌, ◌<◌}
use lib.ListN.{drop}
use Rattle.architecture.specs.declared.Architecture.{Architecture}
use Rattle.architecture.specs.Struct.{tie_in, ties_in}
use Rattle.architecture.proofs.ProcessesOfArrays.{tie_next, ties_end}
use Rattle.append.proofs.Appending.{Opens}
use Rattle.listing.specs.Listing.{tie_text, ties_text}

module _ (a : Architecture) where
  -- the text from tie k on
  abbrev pub ties_from : ℕ → List ℕ
  ties_from k = ties_text (drop k (ties_in a))

  -- tie k, and those after it
  pub ties_open : (k : ℕ) → k < a.ties → Opens (ties_from k) (tie_text (tie_in a k)) (ties_from (k + 1))
  unfolding ties_text
  ties_open k h = record { is = rw (tie_next a.tie_list a.ties k h) }

  -- no tie is left
  pub ties_none : (k : ℕ) → a.ties ≡ k → ties_from k ≡ []
  unfolding ties_text
  ties_none k e = rw (← e, ties_end a.tie_list a.ties)
