-- Books of a proper sheet: read and write undo each other, only the entries count, and a part has the records of its process.
use mathlib.Core.Path.{◌≡◌, refl, sym, ap, ◌∙◌, subst}
use mathlib.Core.List.{List, ◌∷◌, ◌++◌}
use Prim.Native.Nat.{ℕ, ◌-◌, ◌≤◌, ◌<◌}
use native.Mathlib.Omega.{arith}
use lib.ListN.{length, take, drop, replicate, length-append}
use lib.Seq.{take_at}
use borrow.Author.Tests.{le-ltb, ltb-false}
use Rattle.model.specs.declared.Refusal.TheVariants.{BufferTooShort, BadEntry}
use Rattle.model.specs.Sheet.{Process, Architecture, Sheet}
use Rattle.model.specs.Reading.{Reading, refused, proper, refuse◌when◌else◌, read_sheet}
use Rattle.model.specs.Choice.{entries, IsChoice, rows, chosen}
use Rattle.model.specs.Book.{form, filled, records, book_length, book_of, entry_fault, read_book, part_start, part_end}
use Rattle.model.specs.Calls.{front, book_short, written_for, written, AfterWrite, wrote, write_of, AfterRead, tables_of, gave, read_of, AfterPart, part, part_of}
use Rattle.model.specs.Demands.{Books}
use Rattle.model.proofs.ProperSheet.{passes}
use Rattle.model.proofs.Refusing.{go, then_read}
use Rattle.model.proofs.FitsTest.{fits_length}
use Rattle.model.proofs.BookInverse.{filled_take, filled_length, holes_form}
use Rattle.model.proofs.BookRead.{chosen_faultless, faultless_chosen, fault_chosen, choice_read, read_choice}
use Rattle.model.proofs.PartsAreBook.{part_is, parts_with_end}
use Rattle.model.proofs.PartOfProcess.{part_filled}
use Rattle.std.specs.Prelude.{Ok}

-- ---- only the entries count
module _ (a : Architecture) where
  -- the book of tables is that of the choice at their front
  pub book_chosen : (tables : List ℕ) → book_of a tables ≡ book_of a (chosen a tables)
  unfolding book_of
  book_chosen tables = filled_take (form a) tables ∙ ap (λ (n : ℕ). filled (form a) (take n tables)) (holes_form a)

  book_length_lem : (c : List ℕ) → length (book_of a c) ≡ book_length a
  unfolding book_of book_length
  book_length_lem c = filled_length (form a) c

  chosen_front : (c rest : List ℕ) → IsChoice a c → chosen a (c ++ rest) ≡ c
  chosen_front c rest choice = take_at c rest (length (entries a)) (fits_length choice.tables)

  -- of tables with a choice at the front the tests pass, where there is room
  fitting : (tables book : List ℕ) → IsChoice a (chosen a tables) → book_length a ≤ length book → written_for a tables book ≡ proper (book_of a (chosen a tables))
  unfolding written_for book_short
  fitting tables book choice l = go BadEntry _ (chosen_faultless a tables choice) ∙ go BufferTooShort _ (le-ltb _ _ l) ∙ ap proper (book_chosen tables)

  fitted : (tables book new : List ℕ) → written_for a tables book ≡ proper new → IsChoice a (chosen a tables) × (book_length a ≤ length book)
  unfolding written_for book_short
  fitted tables book new e =
      let h₁ = passes BadEntry (entry_fault a tables) _ e in
      let h₂ = passes BufferTooShort (book_short a book) _ h₁.1 in
      (faultless_chosen a tables h₁.0, ltb-false _ _ h₂.0)

  -- what is behind the entries decides nothing
  written_chosen : (tables book : List ℕ) → written_for a tables book ≡ written_for a (chosen a tables) book
  unfolding written_for
  written_chosen tables book =
      λ j. refuse BadEntry when fault_chosen a tables j else refuse BufferTooShort when book_short a book else proper (book_chosen tables j)

module _ (sheet : List ℕ) (s : Sheet) (is_proper : read_sheet sheet ≡ proper s) where
  -- ---- once the sheet is read
  write_is : (tables book : List ℕ) → write_of sheet tables book ≡ wrote (written_for s.architecture tables book) book
  unfolding write_of written
  write_is tables book = ap (λ (k : Reading (List ℕ)). wrote k book) (then_read _ is_proper)

  read_is : (book : List ℕ) → read_of sheet book ≡ gave (read_book s.architecture book)
  unfolding read_of
  read_is book = ap gave (then_read _ is_proper)

  -- ---- what was read, and what was written
  was_read : (book : List ℕ) → (read_of sheet book).answer ≡ Ok tt → (c : List ℕ) × (read_book s.architecture book ≡ proper c)
  unfolding gave
  was_read book d = by (read_book s.architecture book) (sym (ap (λ (a : AfterRead). a.answer) (read_is book)) ∙ d)
    where
      by : (k : Reading (List ℕ)) → (gave k).answer ≡ Ok tt → (c : List ℕ) × (k ≡ proper c)
      by (refused r) e = let z : ◌≡◌ {A = ℕ} 0 1 = cc in absurd (omega arith)
      by (proper c) e = (c, refl)

  was_written : (tables book : List ℕ) → (write_of sheet tables book).answer ≡ Ok tt → (new : List ℕ) × (written_for s.architecture tables book ≡ proper new)
  unfolding wrote
  was_written tables book d = by (written_for s.architecture tables book) (sym (ap (λ (a : AfterWrite). a.answer) (write_is tables book)) ∙ d)
    where
      by : (k : Reading (List ℕ)) → (wrote k book).answer ≡ Ok tt → (new : List ℕ) × (k ≡ proper new)
      by (refused r) e = let z : ◌≡◌ {A = ℕ} 0 1 = cc in absurd (omega arith)
      by (proper new) e = (new, refl)

  gives_tables : (book c : List ℕ) → read_book s.architecture book ≡ proper c → read_of sheet book ≡ record { answer = Ok tt; tables = tables_of c }
  unfolding gave
  gives_tables book c e = read_is book ∙ ap gave e

  writes_chosen : (tables book : List ℕ) → IsChoice s.architecture (chosen s.architecture tables) → book_length s.architecture ≤ length book
      → write_of sheet tables book ≡ record { answer = Ok tt; book = front (book_of s.architecture (chosen s.architecture tables)) book }
  unfolding wrote
  writes_chosen tables book choice l = write_is tables book ∙ ap (λ (k : Reading (List ℕ)). wrote k book) (fitting s.architecture tables book choice l)

  writes_front : (c rest book : List ℕ) → IsChoice s.architecture c → book_length s.architecture ≤ length book
      → write_of sheet (c ++ rest) book ≡ record { answer = Ok tt; book = front (book_of s.architecture c) book }
  writes_front c rest book choice l =
      let same : chosen s.architecture (c ++ rest) ≡ c = chosen_front s.architecture c rest choice in
      writes_chosen (c ++ rest) book (subst (IsChoice s.architecture) (sym same) choice) l
      ∙ ap (λ (x : List ℕ). record { answer = Ok tt; book = front (book_of s.architecture x) book }) same

  -- ---- the same tables are those of one book
  same_tables : (c c' : List ℕ) → IsChoice s.architecture c → IsChoice s.architecture c' → tables_of c' ≡ tables_of c → c' ≡ c
  unfolding tables_of front
  same_tables c c' choice choice' e =
      let n : ℕ = length (entries s.architecture) in
      sym (take_at c' (drop (length c') (replicate 272 0)) n (fits_length choice'.tables)) ∙ ap (take n) e ∙ take_at c (drop (length c) (replicate 272 0)) n (fits_length choice.tables)

  one_book : (book book' : List ℕ) → (read_of sheet book).answer ≡ Ok tt → read_of sheet book' ≡ read_of sheet book → book' ≡ book
  one_book book book' d same =
      let r = was_read book d in
      let r' = was_read book' (ap (λ (a : AfterRead). a.answer) same ∙ d) in
      let h = read_choice s.architecture book r.0 r.1 in
      let h' = read_choice s.architecture book' r'.0 r'.1 in
      let tables : tables_of r'.0 ≡ tables_of r.0 = ap (λ (a : AfterRead). a.tables) (sym (gives_tables book' r'.0 r'.1) ∙ same ∙ gives_tables book r.0 r.1) in
      sym h'.1 ∙ ap (book_of s.architecture) (same_tables r.0 r'.0 h.0 h'.0 tables) ∙ h.1

  -- ---- write, then read; read, then write
  reads_written : (tables book : List ℕ) → (write_of sheet tables book).answer ≡ Ok tt
      → read_of sheet (take (book_length s.architecture) (write_of sheet tables book).book) ≡ record { answer = Ok tt; tables = tables_of (chosen s.architecture tables) }
  unfolding front
  reads_written tables book d =
      let r = was_written tables book d in
      let h = fitted s.architecture tables book r.0 r.1 in
      let new : List ℕ = book_of s.architecture (chosen s.architecture tables) in
      ap (λ (x : AfterWrite). read_of sheet (take (book_length s.architecture) x.book)) (writes_chosen tables book h.0 h.1)
      ∙ ap (read_of sheet) (take_at new (drop (length new) book) (book_length s.architecture) (book_length_lem s.architecture (chosen s.architecture tables)))
      ∙ gives_tables new (chosen s.architecture tables) (choice_read s.architecture new (chosen s.architecture tables) h.0 refl)

  writes_read : (book buffer : List ℕ) → (read_of sheet book).answer ≡ Ok tt → length book ≤ length buffer
      → write_of sheet (read_of sheet book).tables buffer ≡ record { answer = Ok tt; book = front book buffer }
  unfolding tables_of front
  writes_read book buffer d l =
      let r = was_read book d in
      let h = read_choice s.architecture book r.0 r.1 in
      let room : book_length s.architecture ≤ length buffer = omega (arith, book_length_lem s.architecture r.0, ap length h.1, l) in
      ap (λ (x : AfterRead). write_of sheet x.tables buffer) (gives_tables book r.0 r.1)
      ∙ writes_front r.0 (drop (length r.0) (replicate 272 0)) buffer h.0 room
      ∙ ap (λ (b : List ℕ). record { answer = Ok tt; book = front b buffer }) h.1

  -- ---- the part of a process
  part_records : (book c : List ℕ) (before : List Process) (p : Process) (after : List Process) → read_book s.architecture book ≡ proper c
      → s.architecture.processes ≡ before ++ (p ∷ after)
      → part (part_of sheet book (length before)) book ≡ filled (records (length before) p p.bound 0) (drop (length (rows before)) c)
  unfolding part
  part_records book c before p after e whole =
      let few : length before < length s.architecture.processes = omega (arith, ap length whole, length-append before (p ∷ after)) in
      let from : ℕ = part_start s.architecture.processes (length before) in
      ap (λ (x : AfterPart). take (x.end - x.start) (drop x.start book)) (part_is sheet s is_proper book c e (length before) few)
      ∙ ap (λ (b : List ℕ). take (part_end s.architecture.processes (length before) - from) (drop from b)) (sym (read_choice s.architecture book c e).1)
      ∙ part_filled s.architecture before p after whole c

  pub all_books : Books sheet s
  all_books = record {
    read_exactly = λ book c. (λ e. read_choice s.architecture book c e, λ h. choice_read s.architecture book c h.0 h.1);
    only_writing = one_book;
    reads = λ c choice. gives_tables (book_of s.architecture c) c (choice_read s.architecture (book_of s.architecture c) c choice refl);
    writes = writes_front;
    entries_only = λ tables tables' book e.
        write_is tables book
        ∙ ap (λ (k : Reading (List ℕ)). wrote k book)
        (written_chosen s.architecture tables book ∙ ap (λ (c : List ℕ). written_for s.architecture c book) e ∙ sym (written_chosen s.architecture tables' book))
        ∙ sym (write_is tables' book);
    reads_what_was_written = reads_written;
    writes_what_was_read = writes_read;
    part_is_records = part_records;
    parts_are_the_book = λ book d. let r = was_read book d in parts_with_end sheet s is_proper book r.0 r.1 (read_choice s.architecture book r.0 r.1).1;
  }
