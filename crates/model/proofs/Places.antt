-- Where the entries of the processes stand: each entry is one of a process, at a place of its table; and processes of one shape have equally many.
use mathlib.Core.Path.{◌≡◌, refl, sym, ap, ap₂, ◌∙◌}
use mathlib.Core.List.{List, [], ◌∷◌, ◌++◌}
use Prim.Native.Nat.{ℕ, zero, suc, ◌+◌, ◌-◌, ◌*◌, ◌^◌, ◌≤◌, ◌<◌}
use native.Mathlib.Omega.{arith}
use native.Mathlib.Decide.{dec_lt}
use lib.Arith.{digits_lt}
use lib.ListN.{length, get_or, length-append, get_or-append}
use lib.Seq.{get_or-append-add}
use Rattle.model.specs.Sheet.{Process, SameShape, process_no}
use Rattle.model.specs.Compose.{row_length, process_length}
use Rattle.model.specs.Choice.{Entry, row, times, rows, begins, length_of}
use Rattle.model.proofs.FitsTest.{row_length_lem}
use Rattle.model.proofs.ComposedNumbers.{times_length, times_at}

-- the entries of one process
abbrev pub own : Process → List Entry
own p = times p.bound (row p)

pub own_length : (p : Process) → length (own p) ≡ process_length p
unfolding process_length
own_length p = times_length p.bound (row p) ∙ ap (λ (n : ℕ). p.bound * n) (row_length_lem p)

-- the row of each state
pub own_at : (p : Process) (x j : ℕ) (d : Entry) → x < p.bound → j < row_length p → get_or (own p) (x * row_length p + j) d ≡ get_or (row p) j d
unfolding process_length
own_at p x j d lx lj =
    sym (get_or-append (own p) [] d (x * row_length p + j) (omega (arith, digits_lt lx lj, own_length p)))
    ∙ ap (λ (n : ℕ). get_or (own p ++ []) (x * n + j) d) (sym (row_length_lem p))
    ∙ times_at p.bound x j (row p) [] d lx (omega (arith, row_length_lem p))

-- entry k is at place j of process i
pub record Place (ps : List Process) (k : ℕ) : Type 0 where
  pub i : ℕ
  pub j : ℕ
  pub there : i < length ps
  pub inside : j < length_of ps i
  pub is : k ≡ begins ps i + j

pub place_of : (ps : List Process) (k : ℕ) → k < length (rows ps) → Place ps k
unfolding rows length_of begins
place_of [] k l = absurd (omega arith)
place_of (p ∷ ps) k l = by (dec_lt k (process_length p)) (λ h. place_of ps (k - process_length p) h)
  where
    long : length (rows (p ∷ ps)) ≡ process_length p + length (rows ps)
    long = length-append (own p) (rows ps) ∙ ap (λ (n : ℕ). n + length (rows ps)) (own_length p)

    by : Dec (k < process_length p) → (k - process_length p < length (rows ps) → Place ps (k - process_length p)) → Place (p ∷ ps) k
    by (yes h) ih = record { i = 0; j = k; there = omega arith; inside = h; is = omega arith }
    by (no h) ih =
        let r : Place ps (k - process_length p) = ih (omega (arith, long)) in
        record { i = suc r.i; j = r.j; there = omega (arith, r.there); inside = r.inside; is = omega (arith, r.is) }

pub place_inside : (ps : List Process) (i j : ℕ) → i < length ps → j < length_of ps i → begins ps i + j < length (rows ps)
unfolding rows length_of begins
place_inside [] i j li lj = absurd (omega arith)
place_inside (p ∷ ps) zero j li lj = omega (arith, length-append (own p) (rows ps), own_length p)
place_inside (p ∷ ps) (suc i) j li lj = omega (arith, length-append (own p) (rows ps), own_length p, place_inside ps i j (omega arith) lj)

pub entry_there : (ps : List Process) (i j : ℕ) (d : Entry) → i < length ps → j < length_of ps i → get_or (rows ps) (begins ps i + j) d ≡ get_or (own (process_no ps i)) j d
unfolding rows length_of begins
entry_there [] i j d li lj = absurd (omega arith)
entry_there (p ∷ ps) zero j d li lj =
    ap (λ (k : ℕ). get_or (own p ++ rows ps) k d) (zero_plus j) ∙ get_or-append (own p) (rows ps) d j (omega (arith, own_length p))
  where
    zero_plus : (j : ℕ) → 0 + j ≡ j
    zero_plus j = omega arith
entry_there (p ∷ ps) (suc i) j d li lj =
    ap (λ (k : ℕ). get_or (own p ++ rows ps) k d) behind ∙ get_or-append-add (own p) (rows ps) (begins ps i + j) d ∙ entry_there ps i j d (omega arith) lj
  where
    behind : process_length p + begins ps i + j ≡ length (own p) + (begins ps i + j)
    behind = omega (arith, own_length p)

pub length_is : (ps : List Process) (i : ℕ) → i < length ps → length_of ps i ≡ process_length (process_no ps i)
unfolding length_of
length_is [] i l = absurd (omega arith)
length_is (p ∷ ps) zero l = refl
length_is (p ∷ ps) (suc i) l = length_is ps i (omega arith)

pub begins_rise : (ps : List Process) (i j : ℕ) → i ≤ j → begins ps i ≤ begins ps j
unfolding begins
begins_rise [] i j l = omega arith
begins_rise (p ∷ ps) zero j l = omega arith
begins_rise (p ∷ ps) (suc i) zero l = absurd (omega arith)
begins_rise (p ∷ ps) (suc i) (suc j) l = omega (arith, begins_rise ps i j (omega arith))

-- ---- processes of the same shape
pub shape_itself : (p : Process) → SameShape p p
shape_itself p = record { bounds = refl; inputs = refl; outputs = refl; prompts = refl }

pub shape_turn : {p q : Process} → SameShape p q → SameShape q p
shape_turn h = record { bounds = sym h.bounds; inputs = sym h.inputs; outputs = sym h.outputs; prompts = sym h.prompts }

pub shape_chain : {p q r : Process} → SameShape p q → SameShape q r → SameShape p r
shape_chain h k = record { bounds = h.bounds ∙ k.bounds; inputs = h.inputs ∙ k.inputs; outputs = h.outputs ∙ k.outputs; prompts = h.prompts ∙ k.prompts }

pub shape_length : (p q : Process) → SameShape p q → process_length p ≡ process_length q
unfolding process_length row_length
shape_length p q h = ap₂ (λ (b n : ℕ). b * (1 + 2 ^ n)) h.bounds h.inputs
