-- What the room for a book and an annotation decides, and what is written where there is room.
use mathlib.Core.Path.{◌≡◌, refl, sym, ap, ◌∙◌}
use mathlib.Core.Bool.{false}
use mathlib.Core.List.{List, ◌++◌}
use Prim.Native.Nat.{ℕ}
use native.Mathlib.Omega.{arith}
use lib.ListN.{length, drop, take-append-drop}
use Rattle.model.specs.declared.Refusal.{Refusal}
use Rattle.model.specs.declared.Refusal.TheVariants.{BufferTooShort, AnnotationBufferTooShort}
use Rattle.model.specs.Sheet.{Sheet}
use Rattle.model.specs.Reading.{Reading, refused, proper}
use Rattle.model.specs.Choice.{entries, IsChoice, chosen}
use Rattle.model.specs.Computed.{loops, annotation}
use Rattle.model.specs.Book.{form, book_of}
use Rattle.model.specs.Calls.{front, reply, book_short, annotation_short, room_to_find, room_for, annotated_by, annotated, written_for}
use Rattle.model.proofs.ProperSheet.{passes}
use Rattle.model.proofs.FitsTest.{fits_length}
use Rattle.model.proofs.BookRead.{chosen_faultless}
use Rattle.model.proofs.BookInverse.{filled_front, holes_form}
use Rattle.model.proofs.Refusing.{go}
use Rattle.std.specs.Prelude.{Ok, Err}

-- ---- what the answer says
refused_by : (k : Reading Sheet) (r : Refusal) → Err r ≡ reply k → k ≡ refused r
unfolding reply
refused_by (refused q) r e = let z : q ≡ r = cc in ap (λ (x : Refusal). refused x) z
refused_by (proper s) r e = let z : ◌≡◌ {A = ℕ} 0 1 = cc in absurd (omega arith)

done_by : (k : Reading Sheet) → Ok tt ≡ reply k → (s : Sheet) × (k ≡ proper s)
unfolding reply
done_by (refused r) e = let z : ◌≡◌ {A = ℕ} 0 1 = cc in absurd (omega arith)
done_by (proper s) e = (s, refl)

module _ (s : Sheet) (book ann : List ℕ) where
  pub no_room : (r : Refusal) → Err r ≡ reply (room_to_find s book ann) → room_to_find s book ann ≡ refused r
  no_room = refused_by (room_to_find s book ann)

  pub some_room : Ok tt ≡ reply (room_to_find s book ann) → room_to_find s book ann ≡ proper s
  unfolding room_to_find
  some_room e =
      let d = done_by (room_to_find s book ann) e in
      d.1 ∙ sym (passes AnnotationBufferTooShort (annotation_short s ann) _ (passes BufferTooShort (book_short s.architecture book) _ d.1).1).1

-- ---- what is written of a choice that keeps the sheet
module _ (s : Sheet) (tables book ann : List ℕ) (choice : IsChoice s.architecture (chosen s.architecture tables)) (room : room_to_find s book ann ≡ proper s) where
  whole : chosen s.architecture tables ++ drop (length (entries s.architecture)) tables ≡ tables
  whole = take-append-drop (length (entries s.architecture)) tables

  -- what follows the entries plays no part
  pub book_written : written_for s.architecture tables book ≡ proper (book_of s.architecture (chosen s.architecture tables))
  unfolding written_for book_of room_to_find
  book_written =
      let rest : List ℕ = drop (length (entries s.architecture)) tables in
      let same : book_of s.architecture tables ≡ book_of s.architecture (chosen s.architecture tables) =
      ap (book_of s.architecture) (sym whole) ∙ filled_front (form s.architecture) (chosen s.architecture tables) rest (fits_length choice.tables ∙ sym (holes_form s.architecture)) in
      go _ _ (chosen_faultless s.architecture tables choice) ∙ go _ _ (passes BufferTooShort (book_short s.architecture book) _ room).0 ∙ ap (λ (b : List ℕ). proper b) same

  pub annotation_written : loops s (chosen s.architecture tables) ≡ false
      → (annotated (room_for s (chosen s.architecture tables) ann) ann).annotation ≡ front (annotation s (chosen s.architecture tables)) ann
  unfolding room_for annotated annotated_by room_to_find
  annotation_written keeps =
      let short = (passes AnnotationBufferTooShort (annotation_short s ann) _ (passes BufferTooShort (book_short s.architecture book) _ room).1).0 in
      rw (short, keeps)
