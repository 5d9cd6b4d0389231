-- The exponents in the number of choices, a process at a time: each of its rows adds that of its output mask, and that of a next state for each index.
use mathlib.Core.Path.{◌≡◌, refl, ap, ◌∙◌}
use mathlib.Core.Bool.{Bool, true, false}
use mathlib.Core.List.Memᴰ
use mathlib.Core.List.{List, [], ◌∷◌, ◌++◌}
use Prim.Native.Nat.{ℕ, zero, suc, ◌+◌, ◌*◌, ◌^◌, ◌<◌, ◌≤◌}
use native.Mathlib.Nat.{mul-le-mul, suc-mul}
use native.Mathlib.Numerals.{add-one}
use native.Mathlib.Omega.{arith}
use lib.Count.{ones-le}
use lib.Dec.{eqb}
use lib.ListN.{length, get_or, drop, replicate, drop_of_length-le}
use lib.Pow.{pow_mono}
use lib.Seq.{drop-cons}
use Rattle.theory.specs.Lists.{put}
use Rattle.model.specs.Mask.{if, count}
use Rattle.model.specs.Sheet.{Process, ProperProcesses}
use Rattle.model.specs.Choice.{Entry, output, next, row, times, rows}
use Rattle.architecture.specs.Struct.{IsProper, architecture_of, process_in, processes_in, ties_in}
use Rattle.architecture.specs.declared.Architecture.{Architecture}
use Rattle.architecture.proofs.ProcessesOfArrays.{processes_length, process_next, processes_end}
use Rattle.ties.specs.Leaders.{leaders}
use Rattle.ties.proofs.LeadersOfArrays.{lead}
use Rattle.listing.specs.Listing.{twos, threes, total, leading, once}

-- ---- few
-- the exponents of one process
pub rows_few : (b o k n : ℕ) → b ≤ 4 → o ≤ 8 → k ≤ 16 → n ≤ 2 → b * (o + k * n) ≤ 160
rows_few b o k n hb ho hk hn = let row : o + k * n ≤ 40 = omega (arith, mul-le-mul hk hn) in mul-le-mul hb row

-- those of an entry
pub record Few (f : Entry → ℕ) : Type 0 where
  pub of_output : (m : ℕ) → m < 256 → f (output m) ≤ 8
  pub of_next : (b : ℕ) → f (next b) ≤ 2

pub twos_few : Few twos
unfolding twos count if
twos_few = record { of_output = λ m h. ones-le 8 m h; of_next = λ b. by (eqb b 2) (eqb b 4) }
  where
    by : (s t : Bool) → if s 1 (if t 2 0) ≤ 2
    by true t = omega arith
    by false true = omega arith
    by false false = omega arith

pub threes_few : Few threes
unfolding threes if
threes_few = record { of_output = λ m h. omega arith; of_next = λ b. by (eqb b 3) }
  where
    by : (s : Bool) → if s 1 0 ≤ 2
    by true = omega arith
    by false = omega arith

-- ---- tied processes once
-- those from process j on that lead themselves
abbrev pub once_from : Architecture → ℕ → List Process
once_from a j = leading (drop j (leaders a.processes (ties_in a))) j (drop j (processes_in a))

-- before the first
pub once_all : (a : Architecture) → once_from a 0 ≡ once (architecture_of a)
unfolding architecture_of
once_all a = rw (processes_length a.processes (process_in a))

-- behind the last
pub once_none : (a : Architecture) → IsProper a → (j : ℕ) → j ≡ a.processes → once_from a j ≡ []
unfolding leading
once_none a z j e = rw (e, processes_end (process_in a) a.processes, drop_of_length-le (leaders a.processes (ties_in a)) {i = a.processes} (omega (arith, (lead a z).long)))

module _ (f : Entry → ℕ) where
  -- ---- of several entries
  total_parts : (es fs : List Entry) → total f (es ++ fs) ≡ total f es + total f fs
  unfolding total
  total_parts [] fs = omega arith
  total_parts (e ∷ es) fs = omega (arith, total_parts es fs)

  total_same : (n : ℕ) (e : Entry) → total f (replicate n e) ≡ n * f e
  unfolding total
  total_same zero e = omega arith
  total_same (suc n) e = omega (arith, total_same n e, suc-mul n (f e))

  total_times : (n : ℕ) (es : List Entry) → total f (times n es) ≡ n * total f es
  unfolding total times
  total_times zero es = omega arith
  total_times (suc n) es = omega (arith, total_parts es (times n es), total_times n es, suc-mul n (total f es))

  -- ---- of a process
  abbrev pub process_total : Process → ℕ
  process_total p = p.bound * (f (output p.outputs) + 2 ^ count p.inputs * f (next p.bound))

  process_total_lem : (p : Process) → total f (times p.bound (row p)) ≡ process_total p
  unfolding row total
  process_total_lem p = total_times p.bound (row p) ∙ ap (λ (n : ℕ). p.bound * (f (output p.outputs) + n)) (total_same (2 ^ count p.inputs) (next p.bound))

  -- process j, if it leads itself, and those after it that do
  pub total_turn : (a : Architecture) → IsProper a → (j : ℕ) → j < a.processes
      → total f (rows (once_from a j)) ≡ if (eqb (get_or (leaders a.processes (ties_in a)) j 0) j) (process_total (process_in a j)) 0 + total f (rows (once_from a (j + 1)))
  unfolding leading rows put if
  total_turn a z j h =
      let ls = leaders a.processes (ties_in a) in
      rw (process_next (process_in a) a.processes j h, add-one j, drop-cons ls j 0 (omega (arith, (lead a z).long)))
      (by (eqb (get_or ls j 0) j) (process_in a j) (leading (drop (suc j) ls) (suc j) (drop (suc j) (processes_in a))))
    where
      by : (b : Bool) (p : Process) (ps : List Process) → total f (rows (put b p ps)) ≡ if b (process_total p) 0 + total f (rows ps)
      by true p ps = omega (arith, total_parts (times p.bound (row p)) (rows ps), process_total_lem p)
      by false p ps = omega arith

  -- of all processes
  pub total_few : {v e : ℕ} (ps : List Process) → Few f → v ≤ 8 → ProperProcesses v e ps → total f (rows ps) ≤ 160 * length ps
  unfolding rows total
  total_few [] few hv g = omega arith
  total_few {v} (p ∷ ps) few hv g =
      let own = g p (Memᴰ.head refl) in
      let known : 2 ^ v ≤ 256 = pow_mono {i = v} {j = 8} hv in
      let indexes : 2 ^ count p.inputs ≤ 16 = pow_mono {i = count p.inputs} {j = 4} own.few_inputs in
      let mask = few.of_output p.outputs (omega (arith, own.outputs_known)) in
      omega (
        arith,
        total_parts (times p.bound (row p)) (rows ps),
        process_total_lem p,
        rows_few p.bound (f (output p.outputs)) (2 ^ count p.inputs) (f (next p.bound)) own.few_states mask indexes (few.of_next p.bound),
        total_few ps few hv (λ q m. g q (Memᴰ.tail m)),
      )
