-- The words of a choice's entries: what they say, and the next row or process among them.
use mathlib.Core.Path.{◌≡◌, refl, ap, ap₂, ◌∙◌}
use mathlib.Core.Bool.{false}
use mathlib.Core.List.{List, [], ◌∷◌, map}
use Prim.Native.Nat.{ℕ, suc, ◌+◌, ◌-◌, ◌*◌, ◌/◌, ◌%◌, ◌^◌, ◌<◌, ◌≤◌}
use native.Mathlib.Decide.{ℕ_discrete}
use native.Mathlib.Omega.{arith}
use lib.ListN.{length, drop}
use lib.Bits.{bit_and, and_le_r}
use borrow.Author.Tests.{eq-eqb, ne_eqb, le-ltb}
use Rattle.model.specs.Mask.{if, within, count}
use Rattle.model.specs.Sheet.{Process}
use Rattle.model.specs.Compose.{row_length}
use Rattle.model.specs.Choice.{Entry, output, next, row, times, rows, entries, may}
use Rattle.architecture.specs.declared.Architecture.{Architecture}
use Rattle.architecture.specs.Struct.{IsProper, architecture_of, process_in, processes_in}
use Rattle.architecture.proofs.ProcessesOfArrays.{process_next, processes_end, entries_are, start_few}
use Rattle.append.proofs.Appending.{Opens, opens_codes, codes_same}
use Rattle.choice.specs.Kinds.{kind_of, kind_code, row_codes, process_codes}

-- ---- what the words say
kind_back : (e : Entry) → kind_of (kind_code e) ≡ e
unfolding kind_of kind_code if
kind_back (output m) = let e : m * 2 / 2 ≡ m = omega arith in rw (eq-eqb (m * 2 % 2) 0 (omega arith)) (ap output e)
kind_back (next b) = let e : (b * 2 + 1) / 2 ≡ b = omega arith in rw (ne_eqb ((b * 2 + 1) % 2) 0 (λ h. omega arith)) (ap next e)

pub kinds_back : (es : List Entry) → map kind_of (map kind_code es) ≡ es
kinds_back [] = refl
kinds_back (e ∷ es) = ap₂ (λ (x : Entry) (xs : List Entry). x ∷ xs) (kind_back e) (kinds_back es)

-- an entry has no value behind half its word
pub none_from : (kind v : ℕ) → kind / 2 + 1 ≤ v → may (kind_of kind) v ≡ false
unfolding kind_of if may within
none_from kind v h = elim (ℕ_discrete (kind % 2) 0) [
  | yes e ↦ rw (eq-eqb (kind % 2) 0 e) (ne_eqb (bit_and v (kind / 2)) v (λ g. omega (arith, and_le_r v (kind / 2))))
  | no ne ↦ rw (ne_eqb (kind % 2) 0 ne) (le-ltb v (kind / 2) (omega arith))
]

-- ---- what comes next
-- the words of a row
pub row_codes_lem : (p : Process) (long : ℕ) → long ≡ row_length p → map kind_code (row p) ≡ row_codes p.outputs p.bound (long - 1)
unfolding row kind_code row_length
row_codes_lem p long e =
    let k : 2 ^ count p.inputs ≡ long - 1 = omega arith in
    ap (λ (l : List ℕ). p.outputs * 2 ∷ l) (codes_same kind_code (2 ^ count p.inputs) (next p.bound) ∙ rw k)

-- the next row, and those after it
pub rows_open : (p : Process) (codes : List ℕ) (n x : ℕ) → map kind_code (row p) ≡ codes → x < n
    → Opens (map kind_code (times (n - x) (row p))) codes (map kind_code (times (n - (x + 1)) (row p)))
unfolding times
rows_open p codes n x ec h =
    let e : n - x ≡ suc (n - (x + 1)) = omega arith in
    rw (e, ← ec) (opens_codes kind_code (row p) (times (n - (x + 1)) (row p)))

module _ (a : Architecture) where
  -- the words of the processes from i on
  abbrev pub kinds_from : ℕ → List ℕ
  kinds_from i = map kind_code (rows (drop i (processes_in a)))

  -- the rows of process i, and of those after it
  pub kinds_open : (i : ℕ) → i < a.processes → Opens (kinds_from i) (process_codes a i) (kinds_from (i + 1))
  unfolding rows
  kinds_open i h =
      rw (process_next (process_in a) a.processes i h)
      (opens_codes kind_code (times (process_in a i).bound (row (process_in a i))) (rows (drop (i + 1) (processes_in a))))

  -- behind all processes
  pub kinds_end : (i : ℕ) → i ≡ a.processes → kinds_from i ≡ []
  unfolding rows
  kinds_end i e = rw (e, processes_end (process_in a) a.processes)

  -- all entries
  pub entries_few : IsProper a → length (entries (architecture_of a)) ≤ 272
  entries_few z = omega (arith, entries_are a, start_few a z a.processes (omega arith), z.arrays.few_processes)
