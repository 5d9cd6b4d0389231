-- Where the entries of a process stand, from the arrays of an architecture; and the tables of a process, from the words of the entries.
use mathlib.Core.Path.{◌≡◌, refl, sym, ap, ap₂, ◌∙◌}
use mathlib.Core.Bool.{Bool, true, ◌&&◌}
use mathlib.Core.List.{List, [], ◌∷◌}
use Prim.Native.Nat.{ℕ, zero, suc, ◌+◌, ◌≤◌, ◌<◌}
use native.Mathlib.Omega.{arith}
use lib.ListN.{length, get_or, take, drop}
use lib.Seq.{get_or-take, length-take-le}
use Rattle.theory.specs.Lists.{tab, all, same}
use Rattle.theory.proofs.ListLaws.{map_there}
use Rattle.theory.proofs.EqualGraphs.{tab_same}
use Rattle.model.specs.Sheet.{Process, Tie, ProperTie, process_no, nobody}
use Rattle.model.specs.Compose.{process_length}
use Rattle.model.specs.Choice.{Entry, next, entries, begins, length_of, packed_value, packed_at, table_of, kept}
use Rattle.model.proofs.Places.{length_is, shape_length}
use Rattle.architecture.specs.declared.Architecture.{Architecture}
use Rattle.architecture.specs.Struct.{IsProper, architecture_of, process_in, processes_in, processes_of, first_in, tie_in, ties_in, entries_of}
use Rattle.architecture.proofs.ProcessesOfArrays.{processes_at, processes_length, entries_are, entries_snoc, start_few, starts_at, start_next, tie_next, ties_end, tie_has}
use Rattle.choice.specs.Kinds.{kind_of, kinds_of}
use Rattle.ties.specs.Tables.{packed_in, table_in}

-- ---- where the entries of the next process begin
pub begins_first : (ps : List Process) → begins ps 0 ≡ 0
unfolding begins
begins_first [] = refl
begins_first (p ∷ ps) = refl

pub begins_next : (ps : List Process) (i : ℕ) → begins ps (suc i) ≡ begins ps i + length_of ps i
unfolding begins length_of
begins_next [] i = refl
begins_next (p ∷ ps) zero = omega (arith, begins_first ps)
begins_next (p ∷ ps) (suc i) = omega (arith, begins_next ps i)

module _ (a : Architecture) where
  process_there : (i : ℕ) → i < a.processes → process_no (processes_in a) i ≡ process_in a i
  process_there i h = processes_at (process_in a) a.processes i nobody h

  pub lengths_are : (i : ℕ) → i < a.processes → length_of (processes_in a) i ≡ process_length (process_in a i)
  lengths_are i h =
      length_is (processes_in a) i (omega (arith, processes_length a.processes (process_in a))) ∙ ap process_length (process_there i h)

  pub begins_are : (i : ℕ) → i ≤ a.processes → entries_of (first_in a i) ≡ begins (processes_in a) i
  unfolding processes_of entries_of
  begins_are zero h = sym (begins_first (processes_in a))
  begins_are (suc i) h = omega (arith, entries_snoc (first_in a i) (process_in a i), begins_are i (omega arith), lengths_are i h, begins_next (processes_in a) i)

  module _ (i : ℕ) (h : i < a.processes) where
    -- the entries of a process are among all
    own_within : entries_of (first_in a i) + process_length (process_in a i) ≤ length (entries (architecture_of a))
    own_within = omega (arith, starts_at a (i + 1) (omega arith), start_next (process_in a) i, entries_are a)

    pub own_few : IsProper a → entries_of (first_in a i) + process_length (process_in a i) ≤ 272
    own_few z = omega (arith, start_few a z (i + 1) (omega arith), start_next (process_in a) i, z.arrays.few_processes)

-- ---- the processes of a tie
module _ (a : Architecture) (t : Tie) (proper : ProperTie (processes_in a) t) where
  pub tie_left : t.left < a.processes
  tie_left = omega (arith, proper.left_known, processes_length a.processes (process_in a))

  pub tie_right : t.right < a.processes
  tie_right = omega (arith, proper.right_known, processes_length a.processes (process_in a))

  -- they have equally many entries
  pub tie_long : process_length (process_in a t.left) ≡ process_length (process_in a t.right)
  tie_long =
      ap process_length (sym (process_there a t.left tie_left)) ∙ shape_length (process_no (processes_in a) t.left) (process_no (processes_in a) t.right) proper.shape
      ∙ ap process_length (process_there a t.right tie_right)

-- tie k of the arrays
pub tie_proper : (a : Architecture) → IsProper a → (k : ℕ) → k < a.ties → ProperTie (processes_in a) (tie_in a k)
unfolding architecture_of
tie_proper a z k h = z.proper.front.ties_proper (tie_in a k) (tie_has a.tie_list a.ties k h)

-- ---- the test of all ties, from tie k on and from the next on
module _ (a : Architecture) (p : Tie → Bool) where
  pub ties_turn : (k : ℕ) → k < a.ties → all p (drop k (ties_in a)) ≡ (p (tie_in a k) && all p (drop (k + 1) (ties_in a)))
  unfolding all
  ties_turn k h = rw (tie_next a.tie_list a.ties k h)

  -- behind the last
  pub ties_done : (k : ℕ) → k ≡ a.ties → all p (drop k (ties_in a)) ≡ true
  unfolding all
  ties_done k e = rw (e, ties_end a.tie_list a.ties)

-- ---- the words of the entries
module _ (a : Architecture) (kinds tables : List ℕ) (long : length (entries (architecture_of a)) ≤ length kinds)
    (known : kinds_of kinds (length (entries (architecture_of a))) ≡ entries (architecture_of a)) where
  n : ℕ
  n = length (entries (architecture_of a))

  packed_is : (k : ℕ) → k < n → packed_in kinds tables k ≡ packed_at (architecture_of a) tables k
  unfolding packed_in packed_at n
  packed_is k h =
      ap (λ (e : Entry). packed_value e (get_or tables k 0))
      (ap kind_of (sym (get_or-take n kinds k 0 h)) ∙ sym (map_there kind_of (take n kinds) k (next 0) (omega (arith, length-take-le n kinds long))) ∙ ap (λ (es : List Entry). get_or es k (next 0)) known)

  table_is : (i : ℕ) → i < a.processes → table_in kinds tables (process_length (process_in a i)) (entries_of (first_in a i)) ≡ table_of (architecture_of a) tables i
  unfolding table_of architecture_of n
  table_is i h =
      tab_same (packed_in kinds tables) (packed_at (architecture_of a) tables) (process_length (process_in a i)) (entries_of (first_in a i)) (λ k l. packed_is k (omega (arith, own_within a i h)))
      ∙ ap₂ (tab (packed_at (architecture_of a) tables)) (sym (lengths_are a i h)) (begins_are a i (omega arith))

  -- the test of one tie, whose processes have m entries each, from `left` and from `right` on
  pub kept_is : (t : Tie) → ProperTie (processes_in a) t → (m left right : ℕ)
      → m ≡ process_length (process_in a t.left) → left ≡ entries_of (first_in a t.left) → right ≡ entries_of (first_in a t.right)
      → same (table_in kinds tables m left) (table_in kinds tables m right) ≡ kept (architecture_of a) tables t
  unfolding kept
  kept_is t proper m left right em el er =
      ap₂ same
      (ap₂ (tab (packed_in kinds tables)) em el ∙ table_is t.left (tie_left a t proper))
      (ap₂ (tab (packed_in kinds tables)) (em ∙ tie_long a t proper) er ∙ table_is t.right (tie_right a t proper))
