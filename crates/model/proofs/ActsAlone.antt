-- What is seen of a process is what its row table does alone with the indexes that it read: its outputs and its next state stand in its own rows, the next state at the index of what it reads.
use mathlib.Core.Path.{◌≡◌, sym, ap, ap₂, ◌∙◌}
use mathlib.Core.List.{List, [], ◌∷◌}
use Prim.Native.Nat.{ℕ, suc, ◌+◌, ◌<◌}
use native.Mathlib.Nat.{zero-add, add-zero}
use native.Mathlib.Omega.{arith}
use lib.ListN.{length, get_or, drop, get_or-map}
use lib.Seq.{get_or-take, get_or-drop}
use Rattle.theory.proofs.ListLaws.{map_from_at}
use Rattle.model.specs.Sheet as Sheet
use Rattle.model.specs.Sheet.{Architecture, process_no}
use Rattle.model.specs.Compose.{Composed, row_length, row_at, step, initial}
use Rattle.model.specs.Choice.{entries, begins}
use Rattle.model.specs.Information.{row_of, row_table, values_read, index_read, indexes_read, Face, face, shows, face_in, alone}
use Rattle.model.specs.Demands.{next_of, InSystem}
use Rattle.model.proofs.ComposedNumbers.{InBounds, in_length, in_at, index_inside, row_pos, moves_in, initial_in}
use Rattle.model.proofs.MovesInTurn.{step_at_lem}

-- it starts in state 0
pub starts_at_0 : (a : Architecture) (i : ℕ) → get_or (initial a).states i 0 ≡ 0
unfolding initial
starts_at_0 a i = get_or-map (λ p. 0) a.processes i Sheet.nobody

module _ (a : Architecture) (c : List ℕ) (i : ℕ) where
  -- entry j of the row for state x
  pub entry_is : let p = process_no a.processes i in (x j : ℕ) → x < p.bound → j < row_length p → get_or (get_or (row_table a c i) x []) j 0 ≡ get_or c (row_at p (begins a.processes i) x + j) 0
  unfolding row_table
  entry_is x j lx lj =
      let p = process_no a.processes i in
      let row = row_of p (begins a.processes i) c in
      ap (λ (r : List ℕ). get_or r j 0) (map_from_at row p.bound 0 x [] lx ∙ ap row (zero-add x))
      ∙ get_or-take (row_length p) (drop (row_at p (begins a.processes i) x) c) j 0 lj ∙ get_or-drop (row_at p (begins a.processes i) x) c j 0

  module _ (known : i < length a.processes) where
    -- what is seen of it stands in its rows
    face_is : (t : Composed) → InBounds a.processes t.states → face a c i t ≡ face_in (row_table a c i) (get_or t.states i 0)
    unfolding face face_in
    face_is t h =
        let x = get_or t.states i 0 in
        ap (λ (o : ℕ). record { state = x; outputs = o }) (ap (λ (n : ℕ). get_or c n 0) (sym (add-zero _)) ∙ sym (entry_is x 0 (in_at i Sheet.nobody h known) (row_pos (process_no a.processes i))))

    -- its next state, at the index of what it reads
    pub next_is : (t : Composed) (d : ℕ) → InBounds a.processes t.states
        → get_or (step a c t d).states i 0 ≡ get_or (get_or (row_table a c i) (get_or t.states i 0) []) (suc (index_read a c i t d)) 0
    unfolding next_of index_read
    next_is t d h =
        let x = get_or t.states i 0 in
        step_at_lem a c t d i known (in_length h) ∙ ap (λ (n : ℕ). get_or c n 0) (omega arith)
        ∙ sym (entry_is x (suc (index_read a c i t d)) (in_at i Sheet.nobody h known) (omega (arith, index_inside (process_no a.processes i) (values_read a c i t d))))

-- ---- so its table acts alone
module _ {a : Architecture} {c : List ℕ} {i : ℕ} (z : InSystem a c i) where
  -- each process stays within its bound, whatever the direction is
  pub in_step : (t : Composed) (d : ℕ) → InBounds a.processes t.states → InBounds a.processes (step a c t d).states
  unfolding step entries
  in_step t d h = moves_in a.processes 0 c _ 0 t.states z.tables h

  -- from any composed state on
  along : (t : Composed) → InBounds a.processes t.states → (ds : List ℕ) → shows a c i t ds ≡ alone (row_table a c i) (get_or t.states i 0) (indexes_read a c i t ds)
  unfolding shows alone indexes_read
  along t h [] = ap (λ (f : Face). f ∷ []) (face_is a c i z.known t h)
  along t h (d ∷ ds) =
      let u = step a c t d in
      ap₂ (λ (f : Face) (fs : List Face). f ∷ fs) (face_is a c i z.known t h)
      (along u (in_step t d h) ds ∙ ap (λ (x : ℕ). alone (row_table a c i) x (indexes_read a c i u ds)) (next_is a c i z.known t d h))

  -- from the initial one on
  pub starts_in : InBounds a.processes (initial a).states
  starts_in = (initial_in a z.is_proper).states_in

  pub acts_alone : (ds : List ℕ) → shows a c i (initial a) ds ≡ alone (row_table a c i) 0 (indexes_read a c i (initial a) ds)
  acts_alone ds = along (initial a) starts_in ds ∙ ap (λ (x : ℕ). alone (row_table a c i) x (indexes_read a c i (initial a) ds)) (starts_at_0 a i)
