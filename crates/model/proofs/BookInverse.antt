-- A book is read as it was written, and written as it was read.
use mathlib.Core.Path.{◌≡◌, refl, sym, ap, ◌∙◌}
use mathlib.Core.Bool.{true, true≢false}
use mathlib.Core.List.{List, [], ◌∷◌, ◌++◌}
use Prim.Native.Nat.{ℕ, zero, suc, ◌+◌}
use native.Mathlib.Omega.{arith}
use lib.Dec.{eqb}
use lib.ListN.{length, replicate, take, drop, length-append}
use lib.Seq.{drop-nil}
use borrow.Author.Tests.{eqb-true, eq-eqb}
use Rattle.theory.proofs.Bools.{and_is}
use Rattle.model.specs.Sheet.{Process, Architecture}
use Rattle.model.specs.Compose.{row_length}
use Rattle.model.specs.Choice.{row, times, rows, entries}
use Rattle.model.specs.Book.{Slot, due, entry, records, all_records, form, holes, filled, well_formed, entries_in}
use Rattle.model.proofs.FitsTest.{row_length_lem}

pub filled_front : (ps : List Slot) (c r : List ℕ) → length c ≡ holes ps → filled ps (c ++ r) ≡ filled ps c
unfolding filled holes
filled_front [] c r l = refl
filled_front (due x ∷ ps) c r l = ap (λ (b : List ℕ). x ∷ b) (filled_front ps c r l)
filled_front (entry ∷ ps) [] r l = absurd (omega arith)
filled_front (entry ∷ ps) (v ∷ c) r l = ap (λ (b : List ℕ). v ∷ b) (filled_front ps c r (omega arith))

-- only as many entries count as there are slots for
pub filled_take : (ps : List Slot) (c : List ℕ) → filled ps c ≡ filled ps (take (holes ps) c)
unfolding filled holes
filled_take [] c = refl
filled_take (due x ∷ ps) c = ap (λ (b : List ℕ). x ∷ b) (filled_take ps c)
filled_take (entry ∷ ps) [] = refl
filled_take (entry ∷ ps) (v ∷ c) = ap (λ (b : List ℕ). v ∷ b) (filled_take ps c)

-- slots one behind the other take their entries one behind the other
pub filled_append : (ps qs : List Slot) (c : List ℕ) → filled (ps ++ qs) c ≡ filled ps c ++ filled qs (drop (holes ps) c)
unfolding filled holes
filled_append [] qs c = refl
filled_append (due x ∷ ps) qs c = ap (λ (b : List ℕ). x ∷ b) (filled_append ps qs c)
filled_append (entry ∷ ps) qs [] = ap (λ (b : List ℕ). 0 ∷ b) (filled_append ps qs [] ∙ ap (λ (l : List ℕ). filled ps [] ++ filled qs l) (drop-nil (holes ps)))
filled_append (entry ∷ ps) qs (v ∷ c) = ap (λ (b : List ℕ). v ∷ b) (filled_append ps qs c)

pub filled_length : (ps : List Slot) (c : List ℕ) → length (filled ps c) ≡ length ps
unfolding filled
filled_length [] c = refl
filled_length (due x ∷ ps) c = ap suc (filled_length ps c)
filled_length (entry ∷ ps) [] = ap suc (filled_length ps [])
filled_length (entry ∷ ps) (v ∷ c) = ap suc (filled_length ps c)

pub filled_well : (ps : List Slot) (c : List ℕ) → well_formed ps (filled ps c) ≡ true
unfolding filled well_formed
filled_well [] c = refl
filled_well (due x ∷ ps) c = (and_is (eqb x x) (well_formed ps (filled ps c))).1 (eq-eqb x x refl, filled_well ps c)
filled_well (entry ∷ ps) [] = filled_well ps []
filled_well (entry ∷ ps) (v ∷ c) = filled_well ps c

pub filled_entries : (ps : List Slot) (c : List ℕ) → length c ≡ holes ps → entries_in ps (filled ps c) ≡ c
unfolding filled entries_in holes
filled_entries [] [] l = refl
filled_entries [] (v ∷ c) l = absurd (omega arith)
filled_entries (due x ∷ ps) c l = filled_entries ps c l
filled_entries (entry ∷ ps) [] l = absurd (omega arith)
filled_entries (entry ∷ ps) (v ∷ c) l = ap (λ (b : List ℕ). v ∷ b) (filled_entries ps c (omega arith))

pub read_filled : (ps : List Slot) (b : List ℕ) → well_formed ps b ≡ true → filled ps (entries_in ps b) ≡ b
unfolding filled well_formed entries_in
read_filled [] [] w = refl
read_filled [] (y ∷ b) w = absurd (true≢false (sym w))
read_filled (due x ∷ ps) [] w = absurd (true≢false (sym w))
read_filled (due x ∷ ps) (y ∷ b) w =
    let h : (eqb y x ≡ true) × (well_formed ps b ≡ true) = (and_is (eqb y x) (well_formed ps b)).0 w in
    ap (λ (z : ℕ). z ∷ filled ps (entries_in ps b)) (sym (eqb-true y x h.0)) ∙ ap (λ (t : List ℕ). y ∷ t) (read_filled ps b h.1)
read_filled (entry ∷ ps) [] w = absurd (true≢false (sym w))
read_filled (entry ∷ ps) (y ∷ b) w = ap (λ (t : List ℕ). y ∷ t) (read_filled ps b w)

pub read_length : (ps : List Slot) (b : List ℕ) → well_formed ps b ≡ true → length (entries_in ps b) ≡ holes ps
unfolding well_formed entries_in holes
read_length [] [] w = refl
read_length [] (y ∷ b) w = absurd (true≢false (sym w))
read_length (due x ∷ ps) [] w = absurd (true≢false (sym w))
read_length (due x ∷ ps) (y ∷ b) w = read_length ps b ((and_is (eqb y x) (well_formed ps b)).0 w).1
read_length (entry ∷ ps) [] w = absurd (true≢false (sym w))
read_length (entry ∷ ps) (y ∷ b) w = ap suc (read_length ps b w)

-- ---- the form has a byte for each entry
pub holes_append : (ps qs : List Slot) → holes (ps ++ qs) ≡ holes ps + holes qs
unfolding holes
holes_append [] qs = omega arith
holes_append (due x ∷ ps) qs = holes_append ps qs
holes_append (entry ∷ ps) qs = omega (arith, holes_append ps qs)

holes_entries : (n : ℕ) → holes (replicate n entry) ≡ n
unfolding holes
holes_entries zero = refl
holes_entries (suc n) = ap suc (holes_entries n)

holes_records : (i : ℕ) (p : Process) (n x : ℕ) → holes (records i p n x) ≡ length (times n (row p))
unfolding holes records times
holes_records i p zero x = refl
holes_records i p (suc n) x =
    omega (
      arith,
      holes_append (replicate (row_length p) entry) (records i p n (suc x)),
      holes_entries (row_length p),
      holes_records i p n (suc x),
      length-append (row p) (times n (row p)),
      row_length_lem p,
    )

pub holes_all : (i : ℕ) (ps : List Process) → holes (all_records i ps) ≡ length (rows ps)
unfolding holes all_records rows
holes_all i [] = refl
holes_all i (p ∷ ps) =
    omega (
      arith,
      holes_append (records i p p.bound 0) (all_records (suc i) ps),
      holes_records i p p.bound 0,
      holes_all (suc i) ps,
      length-append (times p.bound (row p)) (rows ps),
    )

pub holes_form : (a : Architecture) → holes (form a) ≡ length (entries a)
unfolding holes form entries
holes_form a = omega (arith, holes_append (all_records 0 a.processes) (due 0x45 ∷ due 0x4E ∷ []), holes_all 0 a.processes)
