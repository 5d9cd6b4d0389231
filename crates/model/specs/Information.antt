-- 01, "How the machines run together": what a process reads along a run, what is seen of it then, and what its table does alone.
use Rattle.std.specs.Prelude.{List, [], ◌∷◌, ◌++◌, map, ℕ, suc, get_or, take, drop, Result, Ok, Err}
use Rattle.std.specs.Int.Bits.{bit_and, bit_or}
use Rattle.theory.specs.Lists.{from}
use Rattle.model.specs.declared.Desk.{Desk}
use Rattle.model.specs.Mask.{pack}
use Rattle.model.specs.Sheet.{Process, Architecture, process_no}
use Rattle.model.specs.Compose.{Composed, row_length, row_at, outputs, reads, present, step}
use Rattle.model.specs.Choice.{begins}
use Rattle.model.specs.Desk.{numbers, step_of}
use Rattle.model.specs.declared.Refusal.{Refusal}

-- ---- the table of a process
-- the row of p for state x, if its entries begin at `at`: an output mask, and the next states by their indexes
abbrev pub row_of : Process → ℕ → List ℕ → ℕ → List ℕ
row_of p at c x = take (row_length p) (drop (row_at p at x) c)

-- the rows of process i, states rising
unfoldable pub row_table : Architecture → List ℕ → ℕ → List (List ℕ)
unfolding from row_length row_at begins
row_table a c i =
    let p = process_no a.processes i in
    map (row_of p (begins a.processes i) c) (from p.bound 0)

-- ---- what it reads
-- the values that process i reads in the step of t by direction d: prompt inputs as the lower processes put them out once they have stepped, all others from before the step
unfoldable pub values_read : Architecture → List ℕ → ℕ → Composed → ℕ → ℕ
unfolding reads present outputs step
values_read a c i t d = reads (process_no a.processes i) (bit_or d (present a c t)) (outputs (take i a.processes) 0 c (step a c t d).states)

-- the index that its inputs have with these values
unfoldable pub index_read : Architecture → List ℕ → ℕ → Composed → ℕ → ℕ
unfolding pack values_read
index_read a c i t d = pack (process_no a.processes i).inputs (values_read a c i t d)

-- the index at each step of the run from t by these directions
unfoldable pub indexes_read : Architecture → List ℕ → ℕ → Composed → List ℕ → List ℕ
unfolding index_read step
indexes_read a c i t [] = []
indexes_read a c i t (d ∷ ds) = index_read a c i t d ∷ indexes_read a c i (step a c t d) ds

-- ---- what is seen of it
-- its state and its outputs
pub record Face : Type 0 where
  pub state : ℕ
  pub outputs : ℕ

-- process i in t
unfoldable pub face : Architecture → List ℕ → ℕ → Composed → Face
unfolding row_at begins
face a c i t =
    let x = get_or t.states i 0 in
    record { state = x; outputs = get_or c (row_at (process_no a.processes i) (begins a.processes i) x) 0 }

-- at the start and after each step of the run from t by these directions
unfoldable pub shows : Architecture → List ℕ → ℕ → Composed → List ℕ → List Face
unfolding face step
shows a c i t [] = face a c i t ∷ []
shows a c i t (d ∷ ds) = face a c i t ∷ shows a c i (step a c t d) ds

-- the same with its outputs packed to the mask of all that it has
unfoldable pub packed_face : ℕ → Face → Face
unfolding pack
packed_face m f = record { state = f.state; outputs = pack m f.outputs }

-- ---- a row table by itself
-- in state x: the first entry of its row are the outputs
unfoldable pub face_in : List (List ℕ) → ℕ → Face
face_in table x = record { state = x; outputs = get_or (get_or table x []) 0 0 }

-- from state x on, fed with these indexes: behind the outputs stand the next states
unfoldable pub alone : List (List ℕ) → ℕ → List ℕ → List Face
unfolding face_in
alone table x [] = face_in table x ∷ []
alone table x (k ∷ ks) = face_in table x ∷ alone table (get_or (get_or table x []) (suc k) 0) ks

-- ---- on a desk
-- where a step answers so and leaves the desk k: the place of process i, and the label's bits within these outputs; a refusal is left out
unfoldable pub face_on : (i outputs : ℕ) → Result ℕ Refusal → Desk → List Face
face_on i outputs (Err r) k = []
face_on i outputs (Ok l) k = record { state = get_or (numbers k.states) i 0; outputs = bit_and l outputs } ∷ []

-- along a row of steps
unfoldable pub shows_on : (sheet book : List ℕ) → (i outputs : ℕ) → Desk → List ℕ → List Face
unfolding face_on step_of
shows_on sheet book i outputs k [] = []
shows_on sheet book i outputs k (d ∷ ds) =
    let r = step_of sheet book k d in
    face_on i outputs r.answer r.desk ++ shows_on sheet book i outputs r.desk ds
