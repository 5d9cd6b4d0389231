-- The texts of tables look at the entries of a choice, and at nothing behind them.
use mathlib.Core.Path.{◌≡◌, refl, ap₂}
use mathlib.Core.List.{List, [], ◌∷◌, ◌++◌}
use Prim.Native.Nat.{ℕ, zero, suc, ◌+◌, ◌*◌, ◌≤◌}
use native.Mathlib.Nat.{suc-mul}
use native.Mathlib.Omega.{arith}
use lib.ListN.{length, drop, length-drop}
use lib.Seq.{take-append-le, drop-append-le}
use Rattle.model.specs.Sheet.{Process, Architecture}
use Rattle.model.specs.Compose.{row_length, row_at, process_length}
use Rattle.model.specs.Choice.{entries, IsTables}
use Rattle.model.proofs.FitsTest.{fits_length}
use Rattle.architecture.specs.Struct.{entries_of}
use Rattle.architecture.proofs.ProcessesOfArrays.{rows_length}
use Rattle.text.specs.Rows.{row_of, each_from, each_row, each_process}
use Rattle.text.specs.Text.{row_text, rows_text, text_of}
use Rattle.text.proofs.RowTexts.{row_first, row_next}

-- ---- what follows the entries is not read
module _ (c r : List ℕ) where
  row_front : (p : Process) (at x : ℕ) → row_at p at x + row_length p ≤ length c → row_of p at (c ++ r) x ≡ row_of p at c x
  row_front p at x h =
      rw (drop-append-le (row_at p at x) c r (omega arith)) (take-append-le (row_length p) (drop (row_at p at x) c) r (omega (arith, length-drop (row_at p at x) c)))

  rows_from : (one : ℕ → List ℕ → List ℕ) (p : Process) (at n x : ℕ) → row_at p at x + n * row_length p ≤ length c
      → each_from (λ x. one x (row_of p at (c ++ r) x)) n x ≡ each_from (λ x. one x (row_of p at c x)) n x
  unfolding each_from
  rows_from one p at zero x h = refl
  rows_from one p at (suc n) x h =
      ap₂ (λ (row rest : List ℕ). one x row ++ rest)
      (row_front p at x (omega (arith, suc-mul n (row_length p))))
      (rows_from one p at n (suc x) (omega (arith, suc-mul n (row_length p), row_next p at x)))

  pub rows_front : (one : ℕ → List ℕ → List ℕ) (p : Process) (at : ℕ) → at + process_length p ≤ length c → each_row one p at (c ++ r) ≡ each_row one p at c
  unfolding process_length
  rows_front one p at h = rows_from one p at p.bound 0 (omega (arith, row_first p at))

  -- of processes that look at their own entries alone
  module _ (one : List ℕ → ℕ → Process → ℕ → List ℕ) (own : (i : ℕ) (p : Process) (at : ℕ) → at + process_length p ≤ length c → one (c ++ r) i p at ≡ one c i p at) where
    processes_from_lem : (i : ℕ) (ps : List Process) (at : ℕ) → at + entries_of ps ≤ length c → each_process (one (c ++ r)) i ps at ≡ each_process (one c) i ps at
    unfolding each_process entries_of
    processes_from_lem i [] at h = refl
    processes_from_lem i (p ∷ ps) at h =
        ap₂ (λ (text rest : List ℕ). text ++ rest) (own i p at (omega arith)) (processes_from_lem (suc i) ps (at + process_length p) (omega arith))

    pub processes_front : (a : Architecture) → IsTables a c → each_process (one (c ++ r)) 0 a.processes 0 ≡ each_process (one c) 0 a.processes 0
    unfolding entries
    processes_front a f = processes_from_lem 0 a.processes 0 (omega (arith, fits_length f, rows_length a.processes))

  pub text_front : (a : Architecture) (annotation : List ℕ) → IsTables a c → text_of a (c ++ r) annotation ≡ text_of a c annotation
  unfolding text_of
  text_front a annotation f = rw (processes_front rows_text (λ i p at. rows_front (row_text i) p at) a f)
