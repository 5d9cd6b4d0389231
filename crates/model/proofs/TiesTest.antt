-- The test `keeps_ties` is the proposition `KeepsTies`; what follows the entries is ignored.
use mathlib.Core.Path.{◌≡◌, ap}
use mathlib.Core.Bool.{true}
use mathlib.Core.Logic.{◌↔◌}
use mathlib.Core.List.{List, [], ◌∷◌}
use Prim.Native.Nat.{ℕ, zero, suc, ◌+◌, ◌≤◌}
use native.Mathlib.Omega.{arith}
use lib.ListN.{length, length-append}
use lib.Seq.{get_or-take}
use Rattle.theory.specs.Lists.{all, same}
use Rattle.theory.proofs.ListLaws.{all_is, same_is}
use Rattle.theory.proofs.EqualGraphs.{tab_same}
use Rattle.model.specs.Sheet.{Process, Architecture}
use Rattle.model.specs.Choice.{rows, entries, begins, length_of, packed_value, entry_at, packed_at, table_of, KeepsTies, kept, keeps_ties, chosen}
use Rattle.model.proofs.Places.{own, own_length}

-- the test decides
pub keeps_ties_is : (a : Architecture) (c : List ℕ) → (keeps_ties a c ≡ true) ↔ KeepsTies a c
unfolding keeps_ties kept
keeps_ties_is a c = (
  λ e t m. (same_is (table_of a c t.left) (table_of a c t.right)).0 ((all_is (kept a c) a.ties).0 e t m),
  λ h. (all_is (kept a c) a.ties).1 (λ t m. (same_is (table_of a c t.left) (table_of a c t.right)).1 (h t m)),
)

-- ---- what follows the entries is ignored
-- the entries of process i end among all; where there is no such process there is none
inside : (ps : List Process) (i : ℕ) → begins ps i + length_of ps i ≤ length (rows ps)
unfolding begins length_of rows
inside [] i = omega arith
inside (p ∷ ps) zero = omega (arith, length-append (own p) (rows ps), own_length p)
inside (p ∷ ps) (suc i) = omega (arith, length-append (own p) (rows ps), own_length p, inside ps i)

table_chosen : (a : Architecture) (tables : List ℕ) (i : ℕ) → table_of a (chosen a tables) i ≡ table_of a tables i
unfolding table_of packed_at entries
table_chosen a tables i =
    tab_same (packed_at a (chosen a tables)) (packed_at a tables) (length_of a.processes i) (begins a.processes i)
    (λ k l. ap (packed_value (entry_at a k)) (get_or-take (length (entries a)) tables k 0 (omega (arith, inside a.processes i))))

pub keeps_chosen : (a : Architecture) (tables : List ℕ) → keeps_ties a (chosen a tables) ≡ keeps_ties a tables
unfolding keeps_ties kept
keeps_chosen a tables = λ j. all (λ t. same (table_chosen a tables t.left j) (table_chosen a tables t.right j)) a.ties
