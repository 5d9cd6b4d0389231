-- The leaders of processes and of entries, from the arrays of an architecture: one tie, one process and one entry after the other.
use mathlib.Core.Path.{◌≡◌, sym, ap, ◌∙◌}
use mathlib.Core.List.{List, [], ◌∷◌}
use Prim.Native.Nat.{ℕ, suc, ◌+◌, ◌-◌, ◌≤◌, ◌<◌}
use native.Mathlib.Numerals.{add-one}
use native.Mathlib.Omega.{arith}
use lib.ListN.{length, get_or, take, drop}
use lib.Seq.{drop-cons, get_or-take}
use Rattle.theory.specs.Lists.{from}
use Rattle.model.specs.Compose.{process_length}
use Rattle.model.specs.Choice.{entries, begins}
use Rattle.architecture.specs.declared.Architecture.{Architecture}
use Rattle.architecture.specs.Struct.{IsProper, architecture_of, process_in, processes_in, first_in, entries_of, tie_in, ties_in}
use Rattle.architecture.proofs.ProcessesOfArrays.{processes_length, process_next, processes_end, tie_next, ties_end}
use Rattle.choice.proofs.KindWords.{entries_few}
use Rattle.append.proofs.Appending.{Opens}
use Rattle.ties.specs.Leaders.{join, join_all, leaders, entry_leaders_of, entry_leaders}
use Rattle.ties.specs.Groups.{LeadersInside}
use Rattle.ties.proofs.Leaders.{Leads, AllThere, leaders_lead, leaders_take}
use Rattle.ties.proofs.Entries.{entry_leaders_long, leader_low}
use Rattle.ties.proofs.TablesOfArrays.{begins_are}

-- ---- one tie after the other
pub join_turn : (ls : List ℕ) (a : Architecture) (k : ℕ) → k < a.ties → join_all ls (drop k (ties_in a)) ≡ join_all (join ls (tie_in a k)) (drop (k + 1) (ties_in a))
unfolding join_all
join_turn ls a k h = rw (tie_next a.tie_list a.ties k h)

pub join_done : (ls : List ℕ) (a : Architecture) (k : ℕ) → k ≡ a.ties → join_all ls (drop k (ties_in a)) ≡ ls
unfolding join_all
join_done ls a k e = rw (e, ties_end a.tie_list a.ties)

-- ---- one number after the other
pub from_open : (end i : ℕ) → i < end → Opens (from (end - i) i) (i ∷ []) (from (end - (i + 1)) (i + 1))
unfolding from
from_open end i h = let e : end - i ≡ suc (end - (i + 1)) = omega arith in record { is = rw (e, add-one i) }

pub from_end : (end i : ℕ) → end ≤ i → from (end - i) i ≡ []
unfolding from
from_end end i h = let e : end - i ≡ 0 = omega arith in rw e

-- ---- one process after the other
-- the leaders of the entries of the processes from i on
abbrev pub leaders_from : Architecture → ℕ → List ℕ
leaders_from a i = entry_leaders_of (processes_in a) (drop i (processes_in a)) (drop i (leaders a.processes (ties_in a)))

-- before the first
pub leaders_all : (a : Architecture) → leaders_from a 0 ≡ entry_leaders (architecture_of a)
unfolding entry_leaders architecture_of
leaders_all a = rw (processes_length a.processes (process_in a))

-- behind the last
pub leaders_none : (a : Architecture) (i : ℕ) → i ≡ a.processes → leaders_from a i ≡ []
unfolding entry_leaders_of
leaders_none a i e = rw (e, processes_end (process_in a) a.processes)

module _ (a : Architecture) (z : IsProper a) where
  there : AllThere a.processes (ties_in a)
  unfolding architecture_of
  there t m =
      let long = processes_length a.processes (process_in a) in
      let p = z.proper.front.ties_proper t m in
      (omega (arith, long, p.left_known), omega (arith, long, p.right_known))

  pub lead : Leads a.processes (leaders a.processes (ties_in a))
  lead = leaders_lead a.processes (ties_in a) there

  -- as many as entries
  pub leaders_count : length (entry_leaders (architecture_of a)) ≡ length (entries (architecture_of a))
  leaders_count = entry_leaders_long (architecture_of a) z.proper.front.ties_proper

  -- and each is a place of the tables
  pub leaders_inside : (ls : List ℕ) → take (length (entries (architecture_of a))) ls ≡ entry_leaders (architecture_of a) → LeadersInside (length (entries (architecture_of a))) ls
  leaders_inside ls e k h =
      omega (
        arith,
        sym (get_or-take (length (entries (architecture_of a))) ls k 0 h) ∙ ap (λ (x : List ℕ). get_or x k 0) e,
        leader_low (architecture_of a) z.proper.front.ties_proper k h,
        entries_few a z,
      )

  -- of the array of four
  module _ (own : List ℕ) (is : own ≡ leaders 4 (ties_in a)) (i : ℕ) (h : i < a.processes) where
    pub own_leader : get_or own i 0 ≡ get_or (leaders a.processes (ties_in a)) i 0
    own_leader =
        ap (λ (ls : List ℕ). get_or ls i 0) is ∙ sym (get_or-take a.processes (leaders 4 (ties_in a)) i 0 h)
        ∙ ap (λ (ls : List ℕ). get_or ls i 0) (leaders_take a.processes 4 (ties_in a) z.arrays.few_processes there)

    -- the leader is one of the processes
    pub own_there : get_or own i 0 < a.processes
    own_there = omega (arith, own_leader, lead.low i h)

    -- the leaders of the entries of process i: from `first` on, where those of its leader begin
    pub leaders_open : (count first : ℕ) → count ≡ process_length (process_in a i) → first ≡ entries_of (first_in a (get_or own i 0)) → Opens (leaders_from a i) (from count first) (leaders_from a (i + 1))
    unfolding entry_leaders_of
    leaders_open count first ec ef =
        let ls = leaders a.processes (ties_in a) in
        let next : drop i ls ≡ get_or ls i 0 ∷ drop (i + 1) ls = rw (add-one i) (drop-cons ls i 0 (omega (arith, lead.long))) in
        let begin : first ≡ begins (processes_in a) (get_or ls i 0) = ef ∙ begins_are a (get_or own i 0) (omega (arith, own_there)) ∙ ap (begins (processes_in a)) own_leader in
        record { is = rw (process_next (process_in a) a.processes i h, next, ec, begin) }
