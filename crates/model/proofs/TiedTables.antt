-- Ties: each book that is read has one table for tied processes, also by a chain; what breaks a tie gets 11 from each call.
use mathlib.Core.Path.{◌≡◌, refl, sym, ap, ◌∙◌}
use mathlib.Core.List.{List}
use Prim.Native.Nat.{ℕ}
use native.Mathlib.Omega.{arith}
use Rattle.model.specs.declared.Refusal.TheVariants.{BufferTooShort, AnnotationBufferTooShort, BadEntry}
use Rattle.model.specs.Sheet.{Architecture, Sheet}
use Rattle.model.specs.Reading.{Reading, refused, proper, read_sheet}
use Rattle.model.specs.Choice.{KeepsTies}
use Rattle.model.specs.Book.{book_of}
use Rattle.model.specs.Calls.{book_short, annotation_short, find_sheet, room_to_find, find_in, find_of}
use Rattle.model.specs.Refusals.{JudgeRefused, AnnotateRefused, WriteRefused, ReadRefused, PartRefused, StepRefused, BookRefused, no_choice}
use Rattle.model.specs.Demands.{tied, itself, back, link, OneTable, Breaks, book_found, TiedTables}
use Rattle.model.proofs.ProperSheet.{goes_on, passes, same_proper}
use Rattle.model.proofs.FitsTest.{fits_length}
use Rattle.model.proofs.BookRead.{choice_read, read_choice}
use Rattle.model.proofs.CallRefusals.{judge_exactly, annotate_exactly, write_exactly, read_exactly, part_exactly}
use Rattle.model.proofs.DeskRefusals.{step_exactly}
use Rattle.model.proofs.DemandThree.{own_choice}
use Rattle.std.specs.Prelude.{Ok}
use Rattle.model.specs.declared.Found.TheVariants.{Tables}

-- ties chain: no word of it is needed in `KeepsTies`
pub chained : (a : Architecture) (c : List ℕ) → KeepsTies a c → OneTable a c
chained a c keeps i j (tied {t = t} m) = keeps t m
chained a c keeps i j itself = refl
chained a c keeps i j (back h) = sym (chained a c keeps j i h)
chained a c keeps i j (link {j = k} h g) = chained a c keeps i k h ∙ chained a c keeps k j g

-- 11 for the book of tables that break a tie
broken_book : (a : Architecture) (c : List ℕ) → Breaks a c → BookRefused a (book_of a c) BadEntry
broken_book a c b = no_choice c record { all_entries = fits_length b.tables; is_book = refl } (λ choice. b.broken choice.ties)

module _ (sheet : List ℕ) (s : Sheet) (is_proper : read_sheet sheet ≡ proper s) where
  -- the sheet that is searched is the one that was read
  searched : (book ann : List ℕ) (x : Sheet) → find_sheet sheet book ann ≡ proper x → x ≡ s
  unfolding find_sheet room_to_find
  searched book ann x e =
      let h = goes_on (read_sheet sheet) _ e in
      let room = (passes AnnotationBufferTooShort (annotation_short h.0 ann) _ (passes BufferTooShort (book_short h.0.architecture book) _ h.2).1).1 in
      sym (same_proper h.0 x room) ∙ same_proper h.0 s (sym h.1 ∙ is_proper)

  -- who gets tables was not refused
  unrefused : (book ann : List ℕ) → (find_of sheet book ann).answer ≡ Ok Tables → find_sheet sheet book ann ≡ proper s
  unfolding find_of find_in
  unrefused book ann q = by (find_sheet sheet book ann) refl q
    where
      by : (k : Reading Sheet) → find_sheet sheet book ann ≡ k → (find_in k book ann).answer ≡ Ok Tables → find_sheet sheet book ann ≡ proper s
      by (refused r) e a = let z : ◌≡◌ {A = ℕ} 0 1 = cc in absurd (omega arith)
      by (proper x) e a = e ∙ ap proper (searched book ann x e)

  pub all_tied : TiedTables sheet s is_proper
  all_tied = record {
    read_tied = λ book c e. chained s.architecture c (read_choice s.architecture book c e).0.ties;
    found_tied = λ book ann q.
        let r = own_choice sheet book ann s (unrefused book ann q) q in
        (r.0, choice_read s.architecture (book_found sheet book ann s) r.0 r.1 r.2, chained s.architecture r.0 r.1.ties);
    broken_read = λ c b. (read_exactly sheet (book_of s.architecture c) BadEntry).1 (ReadRefused.by_book s BadEntry is_proper (broken_book s.architecture c b));
    broken_part = λ c i b l. (part_exactly sheet (book_of s.architecture c) i BadEntry).1 (PartRefused.by_book s BadEntry is_proper l (broken_book s.architecture c b));
    broken_judged = λ c ann b. (judge_exactly sheet (book_of s.architecture c) ann BadEntry).1 (JudgeRefused.by_book s BadEntry is_proper (broken_book s.architecture c b));
    broken_annotated = λ c ann path b. (annotate_exactly sheet (book_of s.architecture c) ann path BadEntry).1 (AnnotateRefused.by_book s BadEntry is_proper (broken_book s.architecture c b));
    broken_stepped = λ c k d b. (step_exactly sheet (book_of s.architecture c) k d BadEntry).1 (StepRefused.by_book s BadEntry is_proper (broken_book s.architecture c b));
    broken_written = λ tables book b. (write_exactly sheet tables book BadEntry).1 (WriteRefused.no_choice s is_proper (λ choice. b.broken choice.ties));
  }
