-- A choice has at most 272 entries, so that tables are always 272 bytes.
use mathlib.Core.Path.{◌≡◌, refl}
use mathlib.Core.List.Memᴰ
use mathlib.Core.List.{List, [], ◌∷◌}
use Prim.Native.Nat.{ℕ, ◌*◌, ◌≤◌}
use native.Mathlib.Nat.{mul-le-mul}
use native.Mathlib.Omega.{arith}
use lib.ListN.{length, drop, replicate, length-append, length-drop, length-replicate}
use lib.Pow.{pow_mono}
use Rattle.model.specs.Mask.{count}
use Rattle.model.specs.Sheet.{Process, Architecture, ProperProcesses, ProperArchitecture}
use Rattle.model.specs.Compose.{row_length}
use Rattle.model.specs.Choice.{row, times, rows, entries, IsTables}
use Rattle.model.specs.Calls.{front, tables_of}
use Rattle.model.proofs.FitsTest.{fits_length, row_length_lem}
use Rattle.model.proofs.ComposedNumbers.{times_length}

-- an output mask, and a next state for each of at most 16 combinations
pub row_few : (p : Process) → count p.inputs ≤ 4 → row_length p ≤ 17
unfolding row_length
row_few p h = omega (arith, pow_mono {i = count p.inputs} {j = 4} h)

pub rows_short : {v e : ℕ} (ps : List Process) → ProperProcesses v e ps → length (rows ps) ≤ 68 * length ps
unfolding rows
rows_short [] g = omega arith
rows_short (p ∷ ps) g =
    let own = g p (Memᴰ.head refl) in
    let short : length (row p) ≤ 17 = omega (arith, row_length_lem p, row_few p own.few_inputs) in
    omega (
      arith,
      length-append (times p.bound (row p)) (rows ps),
      times_length p.bound (row p),
      mul-le-mul own.few_states short,
      rows_short ps (λ q m. g q (Memᴰ.tail m)),
    )

pub choice_short : (a : Architecture) (c : List ℕ) → ProperArchitecture a → IsTables a c → length c ≤ 272
unfolding entries
choice_short a c good choice = omega (arith, fits_length choice, rows_short a.processes good.front.processes_proper, good.front.few_processes)

pub tables_length : (a : Architecture) (c : List ℕ) → ProperArchitecture a → IsTables a c → length (tables_of c) ≡ 272
unfolding tables_of front
tables_length a c good choice =
    omega (
      arith,
      length-append c (drop (length c) (replicate 272 0)),
      length-drop {A = ℕ} (length c) (replicate 272 0),
      length-replicate {A = ℕ} 272 0,
      choice_short a c good choice,
    )
