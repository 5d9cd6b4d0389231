-- What reading the front answers is what the row of bytes is: up to position i it is the writing of the proper records read so far,
-- and each test of the reader tells what the record at i makes of it.
use mathlib.Core.Path.{◌≡◌, refl, ap, ◌∙◌}
use mathlib.Core.Bool.{Bool, true, false, not}
use mathlib.Core.Logic.{⊎_elim}
use mathlib.Core.List.{List, [], ◌∷◌, ◌++◌}
use Prim.Native.Nat.{ℕ, zero, suc, ◌+◌, ◌≤◌, ◌<◌}
use native.Mathlib.Omega.{arith}
use lib.Dec.{eqb}
use lib.ListN.{length, length-append, drop}
use borrow.Author.Tests.{not-true, not-false, eqb-false}
use Rattle.theory.proofs.Bools.{bool_cases, and_is}
use Rattle.model.specs.declared.Refusal.TheVariants.{SheetTooShort, WrongMark, BadArchitecture, BadProcess, BadTie, BadPrompt}
use Rattle.model.specs.Mask.{if}
use Rattle.model.specs.Sheet.{Process, Tie, Architecture, with_process, with_tie, ProperFront}
use Rattle.model.specs.Reading.{Reading, byte, short, marked, process_marked, tie_marked, AR, PR, PM, SY, ar_fault, pr_fault, prompt_fault, tie_fault}
use Rattle.model.specs.Reading.{architecture_at, prompts_at, process_at, process_size, tie_at, Front, read_process, read_processes, read_tie, read_ties, read_front}
use Rattle.model.specs.SheetFile.{process_mark, process_bytes, tie_bytes, front_bytes, in_first_mark, in_architecture, in_process, in_tie}
use Rattle.model.specs.SheetFile.{wrong_first_mark, bad_architecture, bad_process, bad_prompt, bad_tie}
use Rattle.model.proofs.ProperSheet.{opening_proper, process_more, no_prompt_fault, plain_more, none_of_PR_at, tie_more}
use Rattle.model.proofs.FaultsExact.{opening_faultless, plain_faultless, prompt_faultless, tie_faultless}
use Rattle.model.proofs.BytesRead.{row_longer, drop_mark, drop_two, drop_three, drop_four, left_short, is_whole, mark_at, mark_stands, mark_differs, process_mark_stands}
use Rattle.model.proofs.RecordMore.{front_more, front_tied, front_alone}
use Rattle.model.proofs.Answered.{Answered, cut, faulty, not_both, tested, branched, followed}

-- up to its end the row is the writing of a proper front without ties, and no further process follows
record ProcessesRead (b : List ℕ) (f : Front) : Type 0 where
  good : ProperFront f.architecture
  so_far : b ≡ front_bytes f.architecture ++ drop f.end b
  untied : f.architecture.ties ≡ []
  ended : length f.architecture.processes < 4 → process_marked b f.end ≡ false

-- up to its end the row is the writing of a proper front, and no further process or tie follows
pub record FrontRead (b : List ℕ) (f : Front) : Type 0 where
  pub good : ProperFront f.architecture
  pub so_far : b ≡ front_bytes f.architecture ++ drop f.end b
  pub ended : length f.architecture.processes < 4 → f.architecture.ties ≡ [] → process_marked b f.end ≡ false
  pub tied : length f.architecture.ties < 3 → tie_marked f.architecture b f.end ≡ false

module _ (b : List ℕ) where
  -- a whole PR or PM at i
  process_whole : (i : ℕ) → process_marked b i ≡ true → i + process_size b i ≤ length b → drop i b ≡ process_bytes (process_at b i) ++ drop (i + process_size b i) b
  unfolding process_bytes process_mark process_size prompts_at if
  process_whole i e = by (marked b i PM) (process_mark_stands b i e)
    where
      by : (t : Bool) → drop i b ≡ process_mark t ++ drop (i + 2) b → i + if t 6 5 ≤ length b
          → drop i b ≡ (process_mark t ++ (byte b (i + 2) ∷ byte b (i + 3) ∷ byte b (i + 4) ∷ if t (if t (byte b (i + 5)) 0 ∷ []) [])) ++ drop (i + if t 6 5) b
      by true m l = m ∙ ap (λ (x : List ℕ). PM ++ x) (drop_four b i l)
      by false m l = m ∙ ap (λ (x : List ℕ). PR ++ x) (drop_three b i l)

  -- where it ends too early, fewer bytes than its fields are left behind the mark
  process_left : (i : ℕ) → short b i (process_size b i) ≡ true → length (drop (i + 2) b) < if (marked b i PM) 4 3
  unfolding process_size if
  process_left i = by (marked b i PM)
    where
      by : (t : Bool) → short b i (if t 6 5) ≡ true → length (drop (i + 2) b) < if t 4 3
      by true s = left_short b i 6 (i + 2) 4 s (omega arith) (omega arith)
      by false s = left_short b i 5 (i + 2) 3 s (omega arith) (omega arith)

  -- a fault of prompt inputs is one of a PM
  prompted_at : (lower : List Process) (i : ℕ) → prompt_fault lower (process_at b i) ≡ true → (process_at b i).prompted ≡ true
  prompted_at lower i f =
      ⊎_elim (λ e. e) (λ e. absurd (not_both f (no_prompt_fault lower (process_at b i) (none_of_PR_at b i e)))) (bool_cases (process_at b i).prompted)

  -- one PR or PM, and then the rest
  process_answered : (a : Architecture) (i : ℕ) (rest : Reading Front) → ProperFront a → length a.processes < 4 → a.ties ≡ [] → b ≡ front_bytes a ++ drop i b → process_marked b i ≡ true
      → (ProperFront (with_process a (process_at b i)) → b ≡ front_bytes (with_process a (process_at b i)) ++ drop (i + process_size b i) b → Answered (ProcessesRead b) b rest)
      → Answered (ProcessesRead b) b (read_process a b i rest)
  unfolding read_process
  process_answered a i rest g few untied e m go =
      let p : Process = process_at b i in
      let n : ℕ = process_size b i in
      let row : short b i n ≡ false → b ≡ front_bytes a ++ process_bytes p ++ drop (i + n) b =
      λ s. row_longer (front_bytes a) (process_bytes p) (drop i b) (drop (i + n) b) b e (process_whole i m (is_whole b i n s)) in
      let mark : List ℕ = process_mark p.prompted in
      tested (ProcessesRead b) b SheetTooShort (short b i n) _
      (λ s. cut b (front_bytes a ++ mark ++ drop (i + 2) b) (row_longer (front_bytes a) mark (drop i b) (drop (i + 2) b) b e (process_mark_stands b i m))
      (in_process a p.prompted (drop (i + 2) b) g few untied (process_left i s)))
      (λ s. tested (ProcessesRead b) b BadProcess (pr_fault a p) _
      (λ f. faulty (drop (i + n) b) (omega arith) (row s) (bad_process a p g few untied (λ more. not_both f (plain_faultless a p more))))
      (λ f. tested (ProcessesRead b) b BadPrompt (prompt_fault a.processes p) _
      (λ f'. faulty (drop (i + n) b) (omega arith) (row s)
      (bad_prompt a p g few untied (prompted_at a.processes i f') (plain_more a p g few f) (λ more. not_both f' (prompt_faultless a p more))))
      (λ f'. go (process_more a p g few f f' (none_of_PR_at b i)) (rw (front_more a p untied) (row s)))))

  -- at most k more PR and PM
  processes_answered : (k : ℕ) (a : Architecture) (i : ℕ) → ProperFront a → length a.processes + k ≡ 4 → a.ties ≡ [] → b ≡ front_bytes a ++ drop i b
      → Answered (ProcessesRead b) b (read_processes k a b i)
  unfolding Answered read_processes with_process
  processes_answered zero a i g few untied e = record { good = g; so_far = e; untied = untied; ended = λ l. absurd (omega arith) }
  processes_answered (suc k) a i g few untied e =
      let p : Process = process_at b i in
      branched (ProcessesRead b) b (process_marked b i) _ _
      (λ m. process_answered a i _ g (omega arith) untied e m
      (λ more next. processes_answered k (with_process a p) (i + process_size b i) more (omega (arith, length-append a.processes (p ∷ []))) untied next))
      (λ m. record { good = g; so_far = e; untied = untied; ended = λ l. m })

  -- a whole SY at i
  tie_whole : (i : ℕ) → marked b i SY ≡ true → i + 4 ≤ length b → drop i b ≡ tie_bytes (tie_at b i) ++ drop (i + 4) b
  unfolding tie_bytes
  tie_whole i e l = mark_stands b i 0x53 0x59 e ∙ ap (λ (x : List ℕ). SY ++ x) (drop_two b i l)

  -- one SY, and then the rest
  tie_answered : (a : Architecture) (i : ℕ) (rest : Reading Front) → ProperFront a → 1 ≤ length a.processes → length a.ties < 3 → b ≡ front_bytes a ++ drop i b → marked b i SY ≡ true
      → (ProperFront (with_tie a (tie_at b i)) → b ≡ front_bytes (with_tie a (tie_at b i)) ++ drop (i + 4) b → Answered (FrontRead b) b rest)
      → Answered (FrontRead b) b (read_tie a b i rest)
  unfolding read_tie
  tie_answered a i rest g some few e m go =
      let t : Tie = tie_at b i in
      let row : i + 4 ≤ length b → b ≡ front_bytes a ++ tie_bytes t ++ drop (i + 4) b =
      λ l. row_longer (front_bytes a) (tie_bytes t) (drop i b) (drop (i + 4) b) b e (tie_whole i m l) in
      tested (FrontRead b) b SheetTooShort (short b i 4) _
      (λ s. cut b (front_bytes a ++ SY ++ drop (i + 2) b) (row_longer (front_bytes a) SY (drop i b) (drop (i + 2) b) b e (mark_stands b i 0x53 0x59 m))
      (in_tie a (drop (i + 2) b) g some few (left_short b i 4 (i + 2) 2 s (omega arith) (omega arith))))
      (λ s. tested (FrontRead b) b BadTie (tie_fault a.processes t) _
      (λ f. faulty (drop (i + 4) b) (omega arith) (row (is_whole b i 4 s)) (bad_tie a t g some few (λ more. not_both f (tie_faultless a t more))))
      (λ f. go (tie_more a t g few f) (rw (front_tied a t) (row (is_whole b i 4 s)))))

  -- at most k more SY
  ties_answered : (k : ℕ) (a : Architecture) (i : ℕ) → ProperFront a → length a.ties + k ≡ 3 → b ≡ front_bytes a ++ drop i b
      → (length a.processes < 4 → a.ties ≡ [] → process_marked b i ≡ false) → Answered (FrontRead b) b (read_ties k a b i)
  unfolding Answered read_ties with_tie tie_marked
  ties_answered zero a i g few e ended = record { good = g; so_far = e; ended = ended; tied = λ l. absurd (omega arith) }
  ties_answered (suc k) a i g few e ended =
      let t : Tie = tie_at b i in
      branched (FrontRead b) b (tie_marked a b i) _ _
      (λ m. let h = (and_is (marked b i SY) (not (eqb (length a.processes) 0))).0 m in
      let several : ¬ (length a.processes ≡ 0) = eqb-false _ _ (not-true _ h.1) in
      tie_answered a i _ g (omega arith) (omega arith) e h.0
      (λ more next. ties_answered k (with_tie a t) (i + 4) more (omega (arith, length-append a.ties (t ∷ []))) next
      (λ l none. absurd (omega (arith, length-append a.ties (t ∷ []), ap length none)))))
      (λ m. record { good = g; so_far = e; ended = ended; tied = λ l. m })

  -- AR, then the processes, then the ties
  pub front_answered : Answered (FrontRead b) b (read_front b)
  unfolding read_front
  front_answered =
      let a : Architecture = architecture_at b in
      let row : marked b 0 AR ≡ true → 5 ≤ length b → b ≡ front_bytes a ++ drop 5 b =
      λ m l. mark_stands b 0 0x41 0x52 m ∙ ap (λ (x : List ℕ). AR ++ x) (drop_three b 0 l) ∙ rw (front_alone a refl refl) in
      tested (FrontRead b) b SheetTooShort (short b 0 2) _
      (λ s. cut b b refl (in_first_mark b (left_short b 0 2 0 2 s (omega arith) (omega arith))))
      (λ s. tested (FrontRead b) b WrongMark (not (marked b 0 AR)) _
      (λ m. faulty (drop 2 b) (omega arith) (drop_mark b 0 (is_whole b 0 2 s)) (wrong_first_mark (mark_at b 0) refl (mark_differs b 0 0x41 0x52 (is_whole b 0 2 s) (not-true _ m))))
      (λ m. tested (FrontRead b) b SheetTooShort (short b 0 5) _
      (λ s. cut b (AR ++ drop 2 b) (mark_stands b 0 0x41 0x52 (not-false _ m)) (in_architecture (drop 2 b) (left_short b 0 5 2 3 s (omega arith) (omega arith))))
      (λ s. tested (FrontRead b) b BadArchitecture (ar_fault a) _
      (λ f. faulty (drop 5 b) (omega arith) (row (not-false _ m) (is_whole b 0 5 s)) (bad_architecture a refl refl (λ g. not_both f (opening_faultless a g))))
      (λ f. followed (ProcessesRead b) (FrontRead b) b (read_processes 4 a b 5) _
      (processes_answered 4 a 5 (opening_proper a refl refl f) refl refl (row (not-false _ m) (is_whole b 0 5 s)))
      (λ u h. ties_answered 3 u.architecture u.end h.good (omega (arith, ap length h.untied)) h.so_far (λ l none. h.ended l))))))
