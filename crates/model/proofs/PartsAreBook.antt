-- The parts of a proper book, processes rising, then EN, are the book.
use mathlib.Core.Path.{◌≡◌, refl}
use mathlib.Core.List.{List, [], ◌∷◌, ◌++◌}
use Prim.Native.Nat.{ℕ, zero, suc, ◌+◌, ◌-◌, ◌≤◌, ◌<◌}
use native.Mathlib.Omega.{arith}
use lib.ListN.{length, take, length-append}
use lib.Seq.{take-add}
use borrow.Author.Tests.{lt-leb}
use Rattle.model.specs.Sheet.{Process, Sheet}
use Rattle.model.specs.Reading.{EN, byte, proper, refuse◌when◌else◌, ◌then◌, read_sheet}
use Rattle.model.specs.Book.{Slot, due, entry, records, all_records, form, filled, book_of, read_book, records_length, part_start, part_end}
use Rattle.model.specs.Calls.{no_process, part_for, part_architecture, cut, part_of, part}
use Rattle.model.specs.Demands.{parts_of}
use Rattle.model.proofs.PartIsRecords.{records_length_lem, HasPart, part_right}
use Rattle.std.specs.Prelude.{Ok}

-- the parts of all processes are all records
all_length : (j : ℕ) (ps : List Process) → part_start ps (length ps) ≡ length (all_records j ps)
unfolding part_start records_length all_records
all_length j [] = refl
all_length j (p ∷ ps) = omega (arith, length-append (records j p p.bound 0) (all_records (suc j) ps), records_length_lem j p p.bound 0, all_length (suc j) ps)

-- behind the records stands EN
then_end : (ps : List Slot) (c : List ℕ) → let b : List ℕ = filled (ps ++ (due (byte EN 0) ∷ due (byte EN 1) ∷ [])) c in take (length ps) b ++ EN ≡ b
unfolding filled
then_end [] c = refl
then_end (due x ∷ ps) c = rw (then_end ps c)
then_end (entry ∷ ps) [] = rw (then_end ps [])
then_end (entry ∷ ps) (v ∷ c) = rw (then_end ps c)

module _ (sheet : List ℕ) (s : Sheet) (is_proper : read_sheet sheet ≡ proper s) (book c : List ℕ) (is_read : read_book s.architecture book ≡ proper c) where
  -- a part of a proper book is not refused
  pub part_is : (i : ℕ) → i < length s.architecture.processes
      → part_of sheet book i ≡ record { answer = Ok tt; start = part_start s.architecture.processes i; end = part_end s.architecture.processes i }
  unfolding part_of part_architecture part_for cut ◌then◌ refuse◌when◌else◌ no_process
  part_is i l = simp (is_proper, lt-leb (length s.architecture.processes) i l, is_read)

  -- the first n parts are the front of the book
  parts_front : (n : ℕ) → n ≤ length s.architecture.processes → parts_of sheet book n ≡ take (part_start s.architecture.processes n) book
  unfolding parts_of part part_end
  parts_front zero l = refl
  parts_front (suc n) l =
      let own : HasPart (form s.architecture) s.architecture.processes n n = part_right s.architecture n l in
      let from : ℕ = part_start s.architecture.processes n in
      let size : ℕ = part_end s.architecture.processes n - from in
      let ends : from + size ≡ part_end s.architecture.processes n = omega arith in
      rw (part_is n l, parts_front n (omega arith), ← take-add from size book, ends)

  pub parts_with_end : book_of s.architecture c ≡ book → parts_of sheet book (length s.architecture.processes) ++ EN ≡ book
  unfolding book_of form
  parts_with_end is_book =
      rw (parts_front (length s.architecture.processes) (omega arith), all_length 0 s.architecture.processes) (rw is_book at (then_end (all_records 0 s.architecture.processes) c))
