-- Processes with equal bounds, equally many inputs and equal packed tables, perhaps of two systems: where they read the same they are in the same states, and put out the same once it is packed.
use mathlib.Core.Path.{◌≡◌, sym, ap, ap₂, ◌∙◌}
use mathlib.Core.List.{List, [], ◌∷◌, map}
use Prim.Native.Nat.{ℕ, suc, ◌+◌, ◌*◌, ◌^◌, ◌<◌}
use native.Mathlib.Omega.{arith}
use lib.Arith.{digits_lt}
use lib.ListN.{length, get_or, get_or-replicate}
use Rattle.theory.proofs.ListLaws.{tab_from}
use Rattle.model.specs.Mask.{count}
use Rattle.model.specs.Sheet.{Process, Tie, Architecture, nobody, process_no, SameShape, ProperTies}
use Rattle.model.specs.Compose.{Composed, row_length, process_length, row_at, step, initial}
use Rattle.model.specs.Choice.{Entry, next, row, entries, begins, length_of, packed_value, packed_at, table_of}
use Rattle.model.specs.Information.{row_table, index_read, indexes_read, Face, shows, packed_face, face_in, alone}
use Rattle.model.specs.Demands.{InSystem, Chain, tied, itself, back, link}
use Rattle.model.proofs.ComposedNumbers.{InBounds, in_at, pack_lt, row_pos}
use Rattle.model.proofs.Places.{entry_there, length_is, own_at, shape_itself, shape_turn, shape_chain}
use Rattle.model.proofs.ActsAlone.{starts_at_0, entry_is, next_is, in_step, starts_in, acts_alone}

-- the packed table has the entries of the rows, packed
module _ (a : Architecture) (c : List ℕ) (i : ℕ) (known : i < length a.processes) where
  packed_entry : let p = process_no a.processes i in (x n : ℕ) → x < p.bound → n < row_length p
      → get_or (table_of a c i) (x * row_length p + n) 0 ≡ packed_value (get_or (row p) n (next 0)) (get_or (get_or (row_table a c i) x []) n 0)
  unfolding table_of packed_at entries row_at process_length
  packed_entry x n lx ln =
      let ps = a.processes in
      let p = process_no ps i in
      let k : ℕ = x * row_length p + n in
      let inside : k < length_of ps i = omega (arith, length_is ps i known, digits_lt lx ln) in
      tab_from (packed_at a c) (length_of ps i) (begins ps i) k 0 inside
      ∙ ap₂ packed_value (entry_there ps i k (next 0) known inside ∙ own_at p x n (next 0) lx ln) (ap (λ (m : ℕ). get_or c m 0) (omega arith) ∙ sym (entry_is a c i x n lx ln))

module _ {a a' : Architecture} {c c' : List ℕ} {i i' : ℕ} (z : InSystem a c i) (z' : InSystem a' c' i') where
  abbrev p : Process
  p = process_no a.processes i

  abbrev q : Process
  q = process_no a'.processes i'

  module _ (bounds : p.bound ≡ q.bound) (inputs : count p.inputs ≡ count q.inputs) (tables : table_of a c i ≡ table_of a' c' i') where
    -- two entries at the same place are equal once they are packed
    same_entry : (x n : ℕ) → x < p.bound → n < row_length p
        → packed_value (get_or (row p) n (next 0)) (get_or (get_or (row_table a c i) x []) n 0) ≡ packed_value (get_or (row q) n (next 0)) (get_or (get_or (row_table a' c' i') x []) n 0)
    unfolding row_length
    same_entry x n lx ln =
        let rows : row_length p ≡ row_length q = ap (λ (m : ℕ). 1 + 2 ^ m) inputs in
        sym (packed_entry a c i z.known x n lx ln)
        ∙ ap₂ (λ (l : List ℕ) (m : ℕ). get_or l (x * m + n) 0) tables rows
        ∙ packed_entry a' c' i' z'.known x n (omega (arith, bounds)) (omega (arith, rows))

    -- the outputs of a row
    same_face : (x : ℕ) → x < p.bound → packed_face p.outputs (face_in (row_table a c i) x) ≡ packed_face q.outputs (face_in (row_table a' c' i') x)
    unfolding packed_face face_in packed_value row
    same_face x lx = ap (λ (o : ℕ). record { state = x; outputs = o }) (same_entry x 0 lx (row_pos p))

    -- its next states
    same_next : (x k : ℕ) → x < p.bound → k < 2 ^ count p.inputs → get_or (get_or (row_table a c i) x []) (suc k) 0 ≡ get_or (get_or (row_table a' c' i') x []) (suc k) 0
    unfolding packed_value row row_length
    same_next x k lx lk =
        sym (ap (λ (e : Entry). packed_value e (get_or (get_or (row_table a c i) x []) (suc k) 0)) (get_or-replicate (2 ^ count p.inputs) k (next p.bound) (next 0) lk))
        ∙ same_entry x (suc k) lx (omega arith)
        ∙ ap (λ (e : Entry). packed_value e (get_or (get_or (row_table a' c' i') x []) (suc k) 0))
        (get_or-replicate (2 ^ count q.inputs) k (next q.bound) (next 0) (omega (arith, ap (λ (m : ℕ). 2 ^ m) inputs)))

    -- what is read is an index of the row
    index_few : (t : Composed) (d : ℕ) → index_read a c i t d < 2 ^ count p.inputs
    unfolding index_read
    index_few t d = pack_lt p.inputs _

    -- so both tables do the same with the indexes that the first process read
    along : (t : Composed) → InBounds a.processes t.states → (ds : List ℕ) → let x = get_or t.states i 0 in let ks = indexes_read a c i t ds in
        map (packed_face p.outputs) (alone (row_table a c i) x ks) ≡ map (packed_face q.outputs) (alone (row_table a' c' i') x ks)
    unfolding alone indexes_read
    along t h [] = ap (λ (f : Face). f ∷ []) (same_face (get_or t.states i 0) (in_at i nobody h z.known))
    along t h (d ∷ ds) =
        let x = get_or t.states i 0 in
        let u = step a c t d in
        let ks = indexes_read a c i u ds in
        let moved = next_is a c i z.known t d h in
        ap₂ (λ (f : Face) (fs : List Face). f ∷ fs) (same_face x (in_at i nobody h z.known))
        (ap (λ (y : ℕ). map (packed_face p.outputs) (alone (row_table a c i) y ks)) (sym moved)
        ∙ along u (in_step z t d h) ds
        ∙ ap (λ (y : ℕ). map (packed_face q.outputs) (alone (row_table a' c' i') y ks)) (moved ∙ same_next x (index_read a c i t d) (in_at i nobody h z.known) (index_few t d)))

    -- and the second read the same
    pub same_packed : (ds ds' : List ℕ) → indexes_read a c i (initial a) ds ≡ indexes_read a' c' i' (initial a') ds'
        → map (packed_face p.outputs) (shows a c i (initial a) ds) ≡ map (packed_face q.outputs) (shows a' c' i' (initial a') ds')
    same_packed ds ds' read =
        ap (map (packed_face p.outputs)) (acts_alone z ds ∙ ap (λ (x : ℕ). alone (row_table a c i) x (indexes_read a c i (initial a) ds)) (sym (starts_at_0 a i)))
        ∙ along (initial a) (starts_in z) ds
        ∙ ap₂ (λ (x : ℕ) (ks : List ℕ). map (packed_face q.outputs) (alone (row_table a' c' i') x ks)) (starts_at_0 a i) read
        ∙ ap (map (packed_face q.outputs)) (sym (acts_alone z' ds'))

-- processes that a chain of ties joins have one shape
pub chain_shape : (ps : List Process) → {ts : List Tie} {i j : ℕ} → ProperTies ps ts → Chain ts i j → SameShape (process_no ps i) (process_no ps j)
chain_shape ps good (tied {t = t} m) = (good t m).shape
chain_shape ps good (itself {i = i}) = shape_itself (process_no ps i)
chain_shape ps good (back h) = shape_turn (chain_shape ps good h)
chain_shape ps good (link h k) = shape_chain (chain_shape ps good h) (chain_shape ps good k)
