-- The part of a process holds its records, all of them and no others: the slots before it take the entries before its own.
use mathlib.Core.Path.{◌≡◌, refl, sym, ap, ◌∙◌}
use mathlib.Core.List.{List, [], ◌∷◌, ◌++◌, append_assoc}
use Prim.Native.Nat.{ℕ, suc, ◌+◌, ◌-◌}
use native.Mathlib.Nat.{add-zero, add-suc, suc-add}
use native.Mathlib.Omega.{arith}
use lib.ListN.{length, take, drop, length-append}
use lib.Seq.{take_at, drop_at}
use Rattle.model.specs.Sheet.{Process, Architecture}
use Rattle.model.specs.Reading.{byte, EN}
use Rattle.model.specs.Choice.{rows}
use Rattle.model.specs.Book.{Slot, due, records, all_records, form, holes, filled, book_of, records_length, part_start, part_end}
use Rattle.model.proofs.BookInverse.{filled_append, filled_length, holes_all}
use Rattle.model.proofs.PartIsRecords.{records_length_lem}

-- the records of some processes, then those of others
all_append : (j : ℕ) (before ps : List Process) → all_records j (before ++ ps) ≡ all_records j before ++ all_records (j + length before) ps
unfolding all_records
all_append j [] ps = ap (λ (n : ℕ). all_records n ps) (sym (add-zero j))
all_append j (q ∷ before) ps =
    ap (λ (l : List Slot). records j q q.bound 0 ++ l)
    (all_append (suc j) before ps ∙ ap (λ (n : ℕ). all_records (suc j) before ++ all_records n ps) (suc-add j (length before) ∙ sym (add-suc j (length before))))
    ∙ sym (append_assoc (records j q q.bound 0) (all_records (suc j) before) (all_records (j + suc (length before)) ps))

-- where the part of the process behind these starts, and where it ends
starts_behind : (j : ℕ) (before ps : List Process) → part_start (before ++ ps) (length before) ≡ length (all_records j before)
unfolding part_start records_length all_records
starts_behind j [] ps = by ps
  where
    by : (ps : List Process) → part_start ps 0 ≡ 0
    by [] = refl
    by (p ∷ ps) = refl
starts_behind j (q ∷ before) ps =
    omega (arith, starts_behind (suc j) before ps, length-append (records j q q.bound 0) (all_records (suc j) before), records_length_lem j q q.bound 0)

ends_behind : (j : ℕ) (before : List Process) (p : Process) (after : List Process) → part_end (before ++ (p ∷ after)) (length before) ≡ length (all_records j before) + records_length p
unfolding part_end part_start records_length all_records
ends_behind j [] p after = omega (arith, by after)
  where
    by : (ps : List Process) → part_start ps 0 ≡ 0
    by [] = refl
    by (p ∷ ps) = refl
ends_behind j (q ∷ before) p after =
    omega (arith, ends_behind (suc j) before p after, length-append (records j q q.bound 0) (all_records (suc j) before), records_length_lem j q q.bound 0)

-- the middle of three rows
middle : (x y z : List ℕ) (m n : ℕ) → length x ≡ m → length y ≡ n → take n (drop m (x ++ y ++ z)) ≡ y
middle x y z m n l k = ap (λ (b : List ℕ). take n (drop m b)) (append_assoc x y z) ∙ ap (take n) (drop_at x (y ++ z) m l) ∙ take_at y z n k

module _ (a : Architecture) (before : List Process) (p : Process) (after : List Process) (whole : a.processes ≡ before ++ (p ∷ after)) (c : List ℕ) where
  own : List Slot
  own = records (length before) p p.bound 0

  rest : List Slot
  rest = all_records (suc (length before)) after ++ (due (byte EN 0) ∷ due (byte EN 1) ∷ [])

  -- the slots of a book: those before the process, its own, and the rest
  form_split : form a ≡ all_records 0 before ++ own ++ rest
  unfolding form all_records own rest
  form_split =
      ap (λ (ps : List Process). all_records 0 ps ++ (due (byte EN 0) ∷ due (byte EN 1) ∷ [])) whole
      ∙ ap (λ (l : List Slot). l ++ (due (byte EN 0) ∷ due (byte EN 1) ∷ []))
      (all_append 0 before (p ∷ after) ∙ ap (λ (n : ℕ). all_records 0 before ++ all_records n (p ∷ after)) (zero_plus (length before)))
      ∙ ap (λ (l : List Slot). l ++ (due (byte EN 0) ∷ due (byte EN 1) ∷ []))
      (sym (append_assoc (all_records 0 before) (records (length before) p p.bound 0) (all_records (suc (length before)) after)))
      ∙ append_assoc (all_records 0 before ++ records (length before) p p.bound 0) (all_records (suc (length before)) after) (due (byte EN 0) ∷ due (byte EN 1) ∷ [])
    where
      zero_plus : (n : ℕ) → 0 + n ≡ n
      zero_plus n = omega arith

  -- the bytes of the book, split so
  book_split : book_of a c ≡ filled (all_records 0 before) c ++ filled own (drop (length (rows before)) c) ++ filled rest (drop (holes (all_records 0 before ++ own)) c)
  unfolding book_of
  book_split =
      ap (λ (l : List Slot). filled l c) form_split
      ∙ filled_append (all_records 0 before ++ own) rest c
      ∙ ap (λ (b : List ℕ). b ++ filled rest (drop (holes (all_records 0 before ++ own)) c)) (filled_append (all_records 0 before) own c)
      ∙ ap (λ (n : ℕ). filled (all_records 0 before) c ++ filled own (drop n c) ++ filled rest (drop (holes (all_records 0 before ++ own)) c)) (holes_all 0 before)

  pub part_filled : take (part_end a.processes (length before) - part_start a.processes (length before)) (drop (part_start a.processes (length before)) (book_of a c))
      ≡ filled (records (length before) p p.bound 0) (drop (length (rows before)) c)
  unfolding own records_length
  part_filled =
      let from : ℕ = part_start a.processes (length before) in
      let end : ℕ = part_end a.processes (length before) in
      let starts : from ≡ length (all_records 0 before) = ap (λ (ps : List Process). part_start ps (length before)) whole ∙ starts_behind 0 before (p ∷ after) in
      let ends : end ≡ length (all_records 0 before) + records_length p = ap (λ (ps : List Process). part_end ps (length before)) whole ∙ ends_behind 0 before p after in
      ap (λ (b : List ℕ). take (end - from) (drop from b)) book_split
      ∙ middle (filled (all_records 0 before) c) (filled own (drop (length (rows before)) c)) (filled rest (drop (holes (all_records 0 before ++ own)) c)) from (end - from)
      (filled_length (all_records 0 before) c ∙ sym starts)
      (filled_length own (drop (length (rows before)) c) ∙ omega (arith, records_length_lem (length before) p p.bound 0, starts, ends))
