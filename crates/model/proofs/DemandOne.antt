-- Demand 1: a sheet and a call are refused exactly as 01 says, by its numbers and no others, and no refusal or `none` changes a buffer; `loop` leaves the
-- annotation, and what is no `loop` the path.
use mathlib.Core.Path.{◌≡◌, refl, sym, ap, ◌∙◌}
use mathlib.Core.Bool.{Bool, true, false}
use mathlib.Core.Logic.{inl, inr, ◌↔◌}
use mathlib.Core.List.{List, [], ◌∷◌, ◌++◌, Memᴰ}
use mathlib.Core.Option.{Option, none, some}
use Prim.Native.Nat.{ℕ}
use native.Mathlib.Omega.{arith}
use lib.ListN.{take}
use Rattle.model.specs.declared.Refusal.{Refusal}
use Rattle.model.specs.declared.Refusal.TheVariants.{SheetTooShort, WrongMark}
use Rattle.model.specs.declared.Finding.{Finding}
use Rattle.model.specs.declared.Finding.TheVariants.{Yes, No}
use Rattle.model.specs.declared.Desk.{Desk}
use Rattle.model.specs.Numbers.{number}
use Rattle.model.specs.Sheet.{Architecture, Sheet}
use Rattle.model.specs.Reading.{Reading, refused, proper, read_sheet}
use Rattle.model.specs.Computed.{loops, first_choice}
use Rattle.model.specs.Calls.{Chosen, reply, check_of, find_sheet, find_choice, find_in, find_of, book_and_rooms, annotated_by}
use Rattle.model.specs.Calls.{annotated, annotate_of, AfterPath, path_left, PathBy, PathFor, AnnotatePath, written, wrote, write_of, part_architecture, cut, part_of, part}
use Rattle.model.specs.Refusals.{BookRefused, not_formed, no_choice, Among, FindRefused, JudgeRefused, AnnotateRefused, WriteRefused, ReadRefused, PartRefused, StepRefused, JoinRefused}
use Rattle.model.specs.Demands.{Demand1}
use Rattle.model.proofs.SheetNumbers.{early}
use Rattle.model.proofs.CallRefusals.{check_answer, find_exactly, judge_exactly, annotate_exactly, write_exactly, read_exactly, part_exactly}
use Rattle.model.proofs.DeskRefusals.{step_exactly, fresh_as_check, fresh_kept, step_kept}
use Rattle.model.proofs.JoinRefusals.{join_exactly, join_kept}
use Rattle.model.proofs.SheetClassified.{unfinished, begins_faulty}
use Rattle.model.proofs.SheetClassified as classified
use Rattle.model.proofs.SheetReads.{sheet_reads}
use Rattle.model.proofs.UnfinishedRefused.{unfinished_refused}
use Rattle.model.proofs.FaultyRefused.{faulty_refused, begins_faulty_refused}
use Rattle.model.proofs.Damage.{more_refused, cut_refused}
use Rattle.std.specs.Prelude.{Result, Ok, Err}
use Rattle.model.specs.declared.Found.{Found}
use Rattle.model.specs.declared.Found.TheVariants.{Tables, Nothing}

-- ---- the numbers that a call can give
find_among : (sheet book ann : List ℕ) (r : Refusal) → FindRefused sheet book ann r → Among (8 ∷ 9 ∷ []) r
find_among sheet book ann r (FindRefused.by_sheet q e) = inl (early sheet r e)
find_among sheet book ann r (FindRefused.short_book s e l) = inr (Memᴰ.head refl)
find_among sheet book ann r (FindRefused.short_annotation s e l m) = inr (Memᴰ.tail (Memᴰ.head refl))

book_among : (a : Architecture) (book : List ℕ) (r : Refusal) (ns : List ℕ) → BookRefused a book r → Memᴰ (number r) (10 ∷ 11 ∷ ns)
book_among a book r ns (not_formed n) = Memᴰ.head refl
book_among a book r ns (no_choice c f n) = Memᴰ.tail (Memᴰ.head refl)

judge_among : (sheet book ann : List ℕ) (r : Refusal) → JudgeRefused sheet book ann r → Among (10 ∷ 11 ∷ 9 ∷ []) r
judge_among sheet book ann r (JudgeRefused.by_sheet q e) = inl (early sheet r e)
judge_among sheet book ann r (JudgeRefused.by_book s q e h) = inr (book_among s.architecture book r (9 ∷ []) h)
judge_among sheet book ann r (JudgeRefused.short_annotation s c e f choice l) = inr (Memᴰ.tail (Memᴰ.tail (Memᴰ.head refl)))

annotate_among : (sheet book ann path : List ℕ) (r : Refusal) → AnnotateRefused sheet book ann path r → Among (10 ∷ 11 ∷ 13 ∷ 9 ∷ []) r
annotate_among sheet book ann path r (AnnotateRefused.by_sheet q e) = inl (early sheet r e)
annotate_among sheet book ann path r (AnnotateRefused.by_book s q e h) = inr (book_among s.architecture book r (13 ∷ 9 ∷ []) h)
annotate_among sheet book ann path r (AnnotateRefused.short_path s c e f choice l) = inr (Memᴰ.tail (Memᴰ.tail (Memᴰ.head refl)))
annotate_among sheet book ann path r (AnnotateRefused.short_annotation s c e f choice l n) = inr (Memᴰ.tail (Memᴰ.tail (Memᴰ.tail (Memᴰ.head refl))))

write_among : (sheet tables book : List ℕ) (r : Refusal) → WriteRefused sheet tables book r → Among (11 ∷ 8 ∷ []) r
write_among sheet tables book r (WriteRefused.by_sheet q e) = inl (early sheet r e)
write_among sheet tables book r (WriteRefused.no_choice s e n) = inr (Memᴰ.head refl)
write_among sheet tables book r (WriteRefused.short_book s e choice l) = inr (Memᴰ.tail (Memᴰ.head refl))

read_among : (sheet book : List ℕ) (r : Refusal) → ReadRefused sheet book r → Among (10 ∷ 11 ∷ []) r
read_among sheet book r (ReadRefused.by_sheet q e) = inl (early sheet r e)
read_among sheet book r (ReadRefused.by_book s q e h) = inr (book_among s.architecture book r [] h)

part_among : (sheet book : List ℕ) (i : ℕ) (r : Refusal) → PartRefused sheet book i r → Among (12 ∷ 10 ∷ 11 ∷ []) r
part_among sheet book i r (PartRefused.by_sheet q e) = inl (early sheet r e)
part_among sheet book i r (PartRefused.no_such_process s e l) = inr (Memᴰ.head refl)
part_among sheet book i r (PartRefused.by_book s q e l h) = inr (Memᴰ.tail (book_among s.architecture book r [] h))

step_among : (sheet book : List ℕ) (k : Desk) (d : ℕ) (r : Refusal) → StepRefused sheet book k d r → Among (10 ∷ 11 ∷ 14 ∷ []) r
step_among sheet book k d r (StepRefused.by_sheet q e) = inl (early sheet r e)
step_among sheet book k d r (StepRefused.by_book s q e h) = inr (book_among s.architecture book r (14 ∷ []) h)
step_among sheet book k d r (StepRefused.misfit s c e f choice m) = inr (Memᴰ.tail (Memᴰ.tail (Memᴰ.head refl)))

join_among : (first second sheet : List ℕ) (r : Refusal) → JoinRefused first second sheet r → Among (19 ∷ 20 ∷ 8 ∷ []) r
join_among first second sheet r (JoinRefused.by_first q e) = inl (early first r e)
join_among first second sheet r (JoinRefused.by_second s q e f) = inl (early second r f)
join_among first second sheet r (JoinRefused.other_front s t e f n) = inr (Memᴰ.head refl)
join_among first second sheet r (JoinRefused.too_large s t o n) = inr (Memᴰ.tail (Memᴰ.head refl))
join_among first second sheet r (JoinRefused.short_sheet s t o fits l) = inr (Memᴰ.tail (Memᴰ.tail (Memᴰ.head refl)))

-- ---- a sheet that is checked
was_proper : (sheet : List ℕ) → check_of sheet ≡ Ok tt → (s : Sheet) × (read_sheet sheet ≡ proper s)
unfolding check_of reply
was_proper sheet e = by (read_sheet sheet) e
  where
    by : (k : Reading Sheet) → reply k ≡ Ok tt → (s : Sheet) × (k ≡ proper s)
    by (refused r) e = let z : ◌≡◌ {A = ℕ} 0 1 = cc in absurd (omega arith)
    by (proper s) e = (s, refl)

check_refused : (sheet : List ℕ) (r : Refusal) → (check_of sheet ≡ Err r) ↔ (read_sheet sheet ≡ refused r)
unfolding check_of
check_refused sheet r = check_answer r (read_sheet sheet)

-- ---- nothing is changed
find_kept : (k : Reading Sheet) (book ann : List ℕ) (o : Result Found Refusal) → (find_in k book ann).answer ≡ o → ¬ (o ≡ Ok Tables) → ((find_in k book ann).book ≡ book) × ((find_in k book ann).annotation ≡ ann)
unfolding find_in find_choice
find_kept (refused q) book ann o e n = (refl, refl)
find_kept (proper s) book ann o e n = by (first_choice s) e
  where
    by : (c : Option (List ℕ)) → (find_choice s c book ann).answer ≡ o → ((find_choice s c book ann).book ≡ book) × ((find_choice s c book ann).annotation ≡ ann)
    by none e = (refl, refl)
    by (some c) e = absurd (n (sym e))

annotate_kept : (k : Reading Chosen) (ann : List ℕ) (v : Result Finding Refusal) → (annotated k ann).answer ≡ v → ¬ (v ≡ Ok Yes) → (annotated k ann).annotation ≡ ann
unfolding annotated
annotate_kept (refused q) ann v e n = refl
annotate_kept (proper x) ann v e n = by (loops x.sheet x.choice) e
  where
    by : (b : Bool) → (annotated_by x b ann).answer ≡ v → (annotated_by x b ann).annotation ≡ ann
    by true e = refl
    by false e = absurd (n (sym e))

path_kept : (k : Reading Chosen) (ann path : List ℕ) (after : AfterPath) → ¬ ((annotated k ann).answer ≡ Ok No) → PathFor k path after → after ≡ path_left path
unfolding annotated annotated_by PathFor PathBy
path_kept (refused q) ann path after n p = p
path_kept (proper x) ann path after n p = by (loops x.sheet x.choice) n p
  where
    by : (b : Bool) → ¬ ((annotated_by x b ann).answer ≡ Ok No) → PathBy x b path after → after ≡ path_left path
    by true n p = absurd (n refl)
    by false n p = p

write_kept : (k : Reading (List ℕ)) (book : List ℕ) (r : Refusal) → (wrote k book).answer ≡ Err r → (wrote k book).book ≡ book
unfolding wrote
write_kept (refused q) book r e = refl
write_kept (proper new) book r e = let z : ◌≡◌ {A = ℕ} 0 1 = cc in absurd (omega arith)

part_kept : (k : Reading Architecture) (book : List ℕ) (i : ℕ) (r : Refusal) → (cut k i).answer ≡ Err r → part (cut k i) book ≡ []
unfolding cut part
part_kept (refused q) book i r e = refl
part_kept (proper s) book i r e = let z : ◌≡◌ {A = ℕ} 0 1 = cc in absurd (omega arith)

refused≢tables : (r : Refusal) → ¬ (◌≡◌ {A = Result Found Refusal} (Err r) (Ok Tables))
refused≢tables r e = let z : ◌≡◌ {A = ℕ} 0 1 = cc in omega arith

nothing≢tables : ¬ (◌≡◌ {A = Result Found Refusal} (Ok Nothing) (Ok Tables))
nothing≢tables e = let z : ◌≡◌ {A = ℕ} 0 1 = cc in omega arith

refused≢found : (r : Refusal) (f : Finding) → ¬ (◌≡◌ {A = Result Finding Refusal} (Err r) (Ok f))
refused≢found r f e = let z : ◌≡◌ {A = ℕ} 0 1 = cc in omega arith

no≢yes : ¬ (◌≡◌ {A = Result Finding Refusal} (Ok No) (Ok Yes))
no≢yes e = let z : ◌≡◌ {A = ℕ} 0 1 = cc in omega arith

pub first_demand : Demand1
unfolding check_of find_of annotate_of AnnotatePath write_of part_of
first_demand = record {
  proper_exactly = λ sheet s bytes. (
    λ e. classified.written sheet s bytes e,
    λ h. ap read_sheet h.0 ∙ sheet_reads s h.1,
  );
  short_exactly = λ sheet bytes. (
    λ e. unfinished sheet bytes ((check_refused sheet SheetTooShort).0 e),
    λ h. (check_refused sheet SheetTooShort).1 (unfinished_refused sheet h),
  );
  fault_exactly = λ sheet r bytes other. (
    λ e. begins_faulty sheet r bytes other ((check_refused sheet r).0 e),
    λ h. (check_refused sheet r).1 (begins_faulty_refused sheet r h),
  );
  cut_is_short = λ sheet n bytes e l. let p = was_proper sheet e in (check_refused (take n sheet) SheetTooShort).1 (cut_refused sheet p.0 n bytes p.1 l);
  more_is_wrong = λ sheet x rest bytes e. let p = was_proper sheet e in (check_refused (sheet ++ (x ∷ rest)) WrongMark).1 (more_refused sheet p.0 x rest bytes p.1);
  rest_is_ignored = λ faulty rest rest' r f.
      (check_refused (faulty ++ rest) r).1 (faulty_refused faulty rest r f) ∙ sym ((check_refused (faulty ++ rest') r).1 (faulty_refused faulty rest' r f));
  find_refusals = find_exactly;
  judge_refusals = judge_exactly;
  annotate_refusals = annotate_exactly;
  write_refusals = write_exactly;
  read_refusals = read_exactly;
  part_refusals = part_exactly;
  fresh_refusals = fresh_as_check;
  step_refusals = step_exactly;
  join_refusals = join_exactly;
  check_numbers = λ sheet r e. inl (early sheet r ((check_refused sheet r).0 e));
  find_numbers = λ sheet book ann r e. find_among sheet book ann r ((find_exactly sheet book ann r).0 e);
  judge_numbers = λ sheet book ann r e. judge_among sheet book ann r ((judge_exactly sheet book ann r).0 e);
  annotate_numbers = λ sheet book ann path r e. annotate_among sheet book ann path r ((annotate_exactly sheet book ann path r).0 e);
  write_numbers = λ sheet tables book r e. write_among sheet tables book r ((write_exactly sheet tables book r).0 e);
  read_numbers = λ sheet book r e. read_among sheet book r ((read_exactly sheet book r).0 e);
  part_numbers = λ sheet book i r e. part_among sheet book i r ((part_exactly sheet book i r).0 e);
  step_numbers = λ sheet book k d r e. step_among sheet book k d r ((step_exactly sheet book k d r).0 e);
  join_numbers = λ first second sheet r e. join_among first second sheet r ((join_exactly first second sheet r).0 e);
  find_refused = λ sheet book ann r e. find_kept (find_sheet sheet book ann) book ann (Err r) e (refused≢tables r);
  annotate_refused = λ sheet book ann path r e. (
    annotate_kept (book_and_rooms sheet book ann path) ann (Err r) e (refused≢found r Yes),
    λ after p. path_kept (book_and_rooms sheet book ann path) ann path after (λ q. refused≢found r No (sym e ∙ q)) p,
  );
  write_refused = λ sheet tables book r e. write_kept (written sheet tables book) book r e;
  part_refused = λ sheet book i r e. part_kept (part_architecture sheet book i) book i r e;
  fresh_refused = fresh_kept;
  step_refused = step_kept;
  join_refused = join_kept;
  none_writes_nothing = λ sheet book ann e. find_kept (find_sheet sheet book ann) book ann (Ok Nothing) e nothing≢tables;
  loop_leaves_annotation = λ sheet book ann path e. annotate_kept (book_and_rooms sheet book ann path) ann (Ok No) e no≢yes;
  no_loop_leaves_path = λ sheet book ann path after n p. path_kept (book_and_rooms sheet book ann path) ann path after n p;
}
