-- The sizes that 01 prints: a sheet has at most 433 bytes, a book at most 338, a choice at most 272 entries.
use mathlib.Core.Path.{◌≡◌, refl}
use mathlib.Core.List.Memᴰ
use mathlib.Core.List.{List, [], ◌∷◌}
use Prim.Native.Nat.{ℕ, suc, ◌+◌, ◌*◌, ◌≤◌}
use native.Mathlib.Nat.{mul-le-mul}
use native.Mathlib.Omega.{arith}
use lib.ListN.{length, length-append}
use Rattle.model.specs.Sheet.{Process, Architecture, Sheet, ProperProcesses, ProperArchitecture}
use Rattle.model.specs.Reading.{proper, read_sheet}
use Rattle.model.specs.Compose.{row_length}
use Rattle.model.specs.Book.{due, records, all_records, form, book_length}
use Rattle.model.specs.Demands.{Sizes}
use Rattle.model.proofs.ProperSheet.{sheet_proper, sheet_short}
use Rattle.model.proofs.RunGraphSteps.{vertices_few}
use Rattle.model.proofs.EntriesBound.{row_few, choice_short}
use Rattle.model.proofs.PartIsRecords.{records_length_lem}

-- a process has at most 4 records of 4 + 17 bytes
records_short : {v e : ℕ} (i : ℕ) (ps : List Process) → ProperProcesses v e ps → length (all_records i ps) ≤ 84 * length ps
unfolding all_records
records_short i [] g = omega arith
records_short i (p ∷ ps) g =
    let own = g p (Memᴰ.head refl) in
    let short : 4 + row_length p ≤ 21 = omega (arith, row_few p own.few_inputs) in
    omega (
      arith,
      length-append (records i p p.bound 0) (all_records (suc i) ps),
      records_length_lem i p p.bound 0,
      mul-le-mul own.few_states short,
      records_short (suc i) ps (λ q m. g q (Memᴰ.tail m)),
    )

pub book_is_short : (a : Architecture) → ProperArchitecture a → book_length a ≤ 338
unfolding book_length form
book_is_short a good =
    omega (arith, length-append (all_records 0 a.processes) (due 0x45 ∷ due 0x4E ∷ []), records_short 0 a.processes good.front.processes_proper, good.front.few_processes)

pub all_sizes : (sheet : List ℕ) (s : Sheet) (is_proper : read_sheet sheet ≡ proper s) → Sizes sheet s is_proper
all_sizes sheet s is_proper =
    let proper = sheet_proper sheet s is_proper in
    let good = proper.architecture in
    record {
      sheet_short = sheet_short sheet s is_proper;
      book_is_short = book_is_short s.architecture good;
      choice_short = λ c choice. choice_short s.architecture c good choice.tables;
      annotation_is_short = vertices_few s proper;
      path_is_short = omega (arith, vertices_few s proper);
    }
