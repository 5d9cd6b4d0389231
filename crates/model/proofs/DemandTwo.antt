-- Demand 2: each finding exactly where it is due, and what annotate writes is the exact annotation, which passes the judge.
use mathlib.Core.Path.{◌≡◌, refl, sym, ap, ◌∙◌, subst}
use mathlib.Core.Bool.{Bool, true, false, true≢false}
use mathlib.Core.Logic.{◌↔◌}
use mathlib.Core.List.{List}
use Prim.Native.Nat.{ℕ, ◌+◌, ◌*◌, ◌≤◌}
use native.Mathlib.Omega.{arith}
use lib.ListN.{length, get_or}
use borrow.Author.Tests.{le-ltb, ltb-false}
use Rattle.model.specs.declared.Refusal.TheVariants.{AnnotationBufferTooShort, PathBufferTooShort}
use Rattle.model.specs.declared.Finding.{Finding}
use Rattle.model.specs.declared.Finding.TheVariants.{Yes, No}
use Rattle.model.specs.Mask.{if}
use Rattle.model.specs.Sheet.{Sheet, ProperSheet}
use Rattle.model.specs.Reading.{Reading, refused, proper, read_sheet}
use Rattle.model.specs.Choice.{IsTables}
use Rattle.model.specs.RunGraph.{vertices, start_rejections, RejectingLoop, Keeps, blank, Valid}
use Rattle.model.specs.Computed.{loops, annotation_from, annotation, valid}
use Rattle.model.specs.Book.{read_book}
use Rattle.model.specs.Calls.{front, annotation_short, path_short, Chosen, room_for, book_for, book_and_room, judged, judge_of}
use Rattle.model.specs.Calls.{AfterAnnotate, rooms_for, book_and_rooms_for, book_and_rooms, annotated_by, annotated, annotate_of, AfterPath, WritesLasso, PathBy, PathFor, AnnotatePath}
use Rattle.model.specs.Demands.{Older, Weighed, WithPath, Demand2}
use Rattle.model.proofs.ProperSheet.{passes, goes_on, same_proper, sheet_proper}
use Rattle.model.proofs.Refusing.{go, then_read}
use Rattle.model.proofs.BookRead.{choice_read, read_choice}
use Rattle.model.proofs.BookCalls.{all_books}
use Rattle.model.proofs.LassoLaws.{lasso_loops, lasso_long}
use Rattle.model.proofs.RunGraphSteps.{vertices_few}
use Rattle.model.proofs.ComputedTests.{loops_exactly, valid_exactly, path_lt, blank_elsewhere, counted_from}
use Rattle.model.proofs.AnnotationExact.{counted_whole, annotates}
use Rattle.model.proofs.AnnotationPasses.{start_rejections_few, front_long, front_number, front_valid}
use Rattle.std.specs.Prelude.{Ok}

not_true_false : (b : Bool) → ¬ (b ≡ true) → b ≡ false
not_true_false true n = absurd (n refl)
not_true_false false n = refl

-- ---- what the tests say
test_yes : (b : Bool) → (if b Yes No ≡ Yes) ↔ (b ≡ true)
unfolding if
test_yes true = (λ e. refl, λ e. refl)
test_yes false = (λ e. let z : ◌≡◌ {A = ℕ} 0 1 = cc in absurd (omega arith), λ e. absurd (true≢false (sym e)))

test_no : (b : Bool) → (if b Yes No ≡ No) ↔ (b ≡ false)
unfolding if
test_no true = (λ e. let z : ◌≡◌ {A = ℕ} 0 1 = cc in absurd (omega arith), λ e. absurd (true≢false e))
test_no false = (λ e. refl, λ e. refl)

loop_no : (b : Bool) → if b No Yes ≡ No → b ≡ true
unfolding if
loop_no true e = refl
loop_no false e = let z : ◌≡◌ {A = ℕ} 0 1 = cc in absurd (omega arith)

loop_yes : (b : Bool) → if b No Yes ≡ Yes → b ≡ false
unfolding if
loop_yes true e = let z : ◌≡◌ {A = ℕ} 0 1 = cc in absurd (omega arith)
loop_yes false e = refl

looped : (ann : List ℕ) (x : Chosen) (b : Bool) → b ≡ true → (annotated_by x b ann).answer ≡ Ok No
unfolding annotated_by
looped ann x b e = ap (λ (t : Bool). (annotated_by x t ann).answer) e

kept : (ann : List ℕ) (x : Chosen) (b : Bool) → b ≡ false → annotated_by x b ann ≡ record { answer = Ok Yes; annotation = front (annotation x.sheet x.choice) ann }
unfolding annotated_by
kept ann x b e = ap (λ (t : Bool). annotated_by x t ann) e

-- where the test passes, a lasso is written
written_by : (x : Chosen) (path : List ℕ) (after : AfterPath) (b : Bool) → b ≡ true → PathBy x b path after → WritesLasso x path after
unfolding PathBy
written_by x path after true e p = p
written_by x path after false e p = absurd (true≢false (sym e))

-- what there is room for is what was asked
same_chosen : (s : Sheet) (c ann : List ℕ) (x : Chosen) → room_for s c ann ≡ proper x → x ≡ record { sheet = s; choice = c }
unfolding room_for
same_chosen s c ann x e = sym (same_proper (record { sheet = s; choice = c }) x (passes AnnotationBufferTooShort (annotation_short s ann) _ e).1)

module _ (sheet book ann : List ℕ) where
  -- ---- neither sheet, book nor buffer is refused exactly when they are weighed
  room : {P : Sheet → List ℕ → Type 0} (w : Weighed sheet book ann P) → book_and_room sheet book ann ≡ proper record { sheet = w.read; choice = w.choice }
  unfolding book_and_room book_for room_for annotation_short
  room w =
      then_read _ w.is_proper
      ∙ then_read _ (choice_read w.read.architecture book w.choice w.is_choice w.is_book)
      ∙ go AnnotationBufferTooShort _ (le-ltb _ _ w.has_room)

  weighed : {P : Sheet → List ℕ → Type 0} (x : Chosen) → book_and_room sheet book ann ≡ proper x → P x.sheet x.choice → Weighed sheet book ann P
  unfolding book_and_room book_for room_for annotation_short
  weighed {P} x e p =
      let h₁ = goes_on (read_sheet sheet) _ e in
      let h₂ = goes_on (read_book h₁.0.architecture book) _ h₁.2 in
      let h₃ = passes AnnotationBufferTooShort (annotation_short h₁.0 ann) _ h₂.2 in
      let c = read_choice h₁.0.architecture book h₂.0 h₂.1 in
      let own : Chosen = record { sheet = h₁.0; choice = h₂.0 } in
      let same : x ≡ own = sym (same_proper own x h₃.1) in
      record {
        read = h₁.0;
        choice = h₂.0;
        is_proper = h₁.1;
        is_choice = c.0;
        is_book = c.1;
        has_room = ltb-false _ _ h₃.0;
        holds = subst (λ (y : Chosen). P y.sheet y.choice) same p;
      }

  -- what holds of a weighed sheet and choice may be exchanged
  unfoldable pub exchanged : {P Q : Sheet → List ℕ → Type 0} (w : Weighed sheet book ann P)
      → (ProperSheet w.read → IsTables w.read.architecture w.choice → Q w.read w.choice) → Weighed sheet book ann Q
  exchanged w f = record {
    read = w.read;
    choice = w.choice;
    is_proper = w.is_proper;
    is_choice = w.is_choice;
    is_book = w.is_book;
    has_room = w.has_room;
    holds = f (sheet_proper sheet w.read w.is_proper) w.is_choice.tables;
  }

  -- ---- the answers, by the computed tests
  judge_is : {P : Sheet → List ℕ → Type 0} (w : Weighed sheet book ann P) → judge_of sheet book ann ≡ Ok (if (valid w.read w.choice ann) Yes No)
  unfolding judge_of judged
  judge_is w = ap (λ (k : Reading Chosen). judged k ann) (room w)

  -- a book that was judged so was weighed, and the test says so
  was_judged : (f : Finding) → judge_of sheet book ann ≡ Ok f → Weighed sheet book ann (λ s c. if (valid s c ann) Yes No ≡ f)
  unfolding judge_of judged
  was_judged f e = by (book_and_room sheet book ann) refl e
    where
      by : (k : Reading Chosen) → book_and_room sheet book ann ≡ k → judged k ann ≡ Ok f → Weighed sheet book ann (λ s c. if (valid s c ann) Yes No ≡ f)
      by (refused r) q e = let z : ◌≡◌ {A = ℕ} 0 1 = cc in absurd (omega arith)
      by (proper x) q e = weighed x q (let z : if (valid x.sheet x.choice ann) Yes No ≡ f = cc in z)

  -- ---- yes and no
  says_yes : (judge_of sheet book ann ≡ Ok Yes) ↔ Weighed sheet book ann (λ s c. Valid s c (λ v. get_or ann v blank))
  says_yes = (
    λ e. let w = was_judged Yes e in exchanged w (λ good choice. (valid_exactly w.read w.choice good choice ann).0 ((test_yes (valid w.read w.choice ann)).0 w.holds)),
    λ w. judge_is w
        ∙ ap Ok ((test_yes (valid w.read w.choice ann)).1 ((valid_exactly w.read w.choice (sheet_proper sheet w.read w.is_proper) w.is_choice.tables ann).1 w.holds)),
  )

  says_no : (judge_of sheet book ann ≡ Ok No) ↔ Weighed sheet book ann (λ s c. ¬ Valid s c (λ v. get_or ann v blank))
  says_no = (
    λ e. let w = was_judged No e in
        exchanged w (λ good choice h. true≢false (sym ((valid_exactly w.read w.choice good choice ann).1 h) ∙ (test_no (valid w.read w.choice ann)).0 w.holds)),
    λ w. let right = valid_exactly w.read w.choice (sheet_proper sheet w.read w.is_proper) w.is_choice.tables ann in
        judge_is w ∙ ap Ok ((test_no (valid w.read w.choice ann)).1 (not_true_false (valid w.read w.choice ann) (λ q. w.holds (right.0 q)))),
  )

-- ---- annotate: loop, or the annotation
module _ (sheet book ann path : List ℕ) where
  rooms : {P : Sheet → List ℕ → Type 0} (w : Weighed sheet book ann (WithPath path P)) → book_and_rooms sheet book ann path ≡ proper record { sheet = w.read; choice = w.choice }
  unfolding book_and_rooms book_and_rooms_for rooms_for path_short room_for annotation_short
  rooms w =
      then_read _ w.is_proper
      ∙ then_read _ (choice_read w.read.architecture book w.choice w.is_choice w.is_book)
      ∙ go PathBufferTooShort _ (le-ltb _ _ w.holds.0)
      ∙ go AnnotationBufferTooShort _ (le-ltb _ _ w.has_room)

  -- the path had room, and the rest is as for judge
  with_path : {P : Sheet → List ℕ → Type 0} (x : Chosen) → book_and_rooms sheet book ann path ≡ proper x → P x.sheet x.choice → Weighed sheet book ann (WithPath path P)
  unfolding book_and_rooms book_and_rooms_for rooms_for path_short book_and_room book_for
  with_path {P} x e p =
      let h₁ = goes_on (read_sheet sheet) _ e in
      let h₂ = goes_on (read_book h₁.0.architecture book) _ h₁.2 in
      let h₃ = passes PathBufferTooShort (path_short h₁.0 path) _ h₂.2 in
      let same = same_chosen h₁.0 h₂.0 ann x h₃.1 in
      weighed sheet book ann {P = WithPath path P} x (then_read _ h₁.1 ∙ then_read _ h₂.1 ∙ h₃.1)
      (subst (λ (s : Sheet). 4 * vertices s ≤ length path) (ap (λ (y : Chosen). y.sheet) (sym same)) (ltb-false _ _ h₃.0), p)

  annotate_is : {P : Sheet → List ℕ → Type 0} (w : Weighed sheet book ann (WithPath path P))
      → annotate_of sheet book ann path ≡ annotated_by record { sheet = w.read; choice = w.choice } (loops w.read w.choice) ann
  unfolding annotate_of annotated
  annotate_is w = ap (λ (k : Reading Chosen). annotated k ann) (rooms w)

  was_annotated : (f : Finding) → (annotate_of sheet book ann path).answer ≡ Ok f → Weighed sheet book ann (WithPath path (λ s c. if (loops s c) No Yes ≡ f))
  unfolding annotate_of annotated
  was_annotated f e = by (book_and_rooms sheet book ann path) refl e
    where
      answer : (x : Chosen) (b : Bool) → (annotated_by x b ann).answer ≡ Ok f → if b No Yes ≡ f
      answer x true e = cc
      answer x false e = cc

      by : (k : Reading Chosen) → book_and_rooms sheet book ann path ≡ k → (annotated k ann).answer ≡ Ok f → Weighed sheet book ann (WithPath path (λ s c. if (loops s c) No Yes ≡ f))
      by (refused r) q e = let z : ◌≡◌ {A = ℕ} 0 1 = cc in absurd (omega arith)
      by (proper x) q e = with_path x q (answer x (loops x.sheet x.choice) e)

  -- the test on a weighed sheet and choice
  right : {P : Sheet → List ℕ → Type 0} (w : Weighed sheet book ann P) → (loops w.read w.choice ≡ true) ↔ RejectingLoop w.read w.choice
  right w = loops_exactly w.read w.choice (sheet_proper sheet w.read w.is_proper) w.is_choice.tables

  says_loop : ((annotate_of sheet book ann path).answer ≡ Ok No) ↔ Weighed sheet book ann (WithPath path RejectingLoop)
  says_loop = (
    λ e. let w = was_annotated No e in exchanged sheet book ann w (λ good choice. (w.holds.0, (right w).0 (loop_no (loops w.read w.choice) w.holds.1))),
    λ w. ap (λ (a : AfterAnnotate). a.answer) (annotate_is w) ∙ looped ann _ (loops w.read w.choice) ((right w).1 w.holds.1),
  )

  pub annotate_kept : (w : Weighed sheet book ann (WithPath path Keeps))
      → annotate_of sheet book ann path ≡ record { answer = Ok Yes; annotation = front (annotation w.read w.choice) ann }
  annotate_kept w = annotate_is w ∙ kept ann _ (loops w.read w.choice) (not_true_false (loops w.read w.choice) (λ q. w.holds.1 ((right w).0 q)))

  says_annotated : ((annotate_of sheet book ann path).answer ≡ Ok Yes) ↔ Weighed sheet book ann (WithPath path Keeps)
  says_annotated = (
    λ e. let w = was_annotated Yes e in
        exchanged sheet book ann w (λ good choice. (w.holds.0, λ o. true≢false (sym ((right w).1 o) ∙ loop_yes (loops w.read w.choice) w.holds.1))),
    λ w. ap (λ (a : AfterAnnotate). a.answer) (annotate_kept w),
  )

  -- where a loop is reachable, a lasso is written
  writes : (after : AfterPath) (w : Weighed sheet book ann (WithPath path RejectingLoop)) → AnnotatePath sheet book ann path after
      → WritesLasso (record { sheet = w.read; choice = w.choice }) path after × (length after.path ≡ length path)
  unfolding AnnotatePath PathFor
  writes after w p =
      let q = subst (λ (k : Reading Chosen). PathFor k path after) (rooms w) p in
      let l = written_by _ path after (loops w.read w.choice) ((right w).1 w.holds.1) q in
      (l, lasso_long _ path after l w.holds.0)

-- the steps that are written fit into the buffer, and are few
pub run_fits : (sheet book ann path : List ℕ) (after : AfterPath) → (annotate_of sheet book ann path).answer ≡ Ok No → AnnotatePath sheet book ann path after
    → (2 * (after.stem + after.cycle) ≤ length after.path) × (after.stem + after.cycle ≤ 8192)
run_fits sheet book ann path after e p =
    let w = (says_loop sheet book ann path).0 e in
    let r = writes sheet book ann path after w p in
    let few = vertices_few w.read (sheet_proper sheet w.read w.is_proper) in
    let l = r.0 in
    (omega (arith, l.stem_long, l.cycle_long, l.is_lasso.short, w.holds.0, r.1), omega (arith, l.stem_long, l.cycle_long, l.is_lasso.short, few))

-- counted from 0 or 1 at the start, the numbers are as long as is asked, and valid
passes_from : (k₀ : ℕ) → k₀ ≤ 1 → (sheet book ann buffer : List ℕ) (w : Weighed sheet book ann Keeps)
    → judge_of sheet book (front (annotation_from k₀ w.read w.choice) buffer) ≡ Ok Yes
passes_from k₀ few sheet book ann buffer w =
    (says_yes sheet book (front (annotation_from k₀ w.read w.choice) buffer)).1 record {
      read = w.read;
      choice = w.choice;
      is_proper = w.is_proper;
      is_choice = w.is_choice;
      is_book = w.is_book;
      has_room = front_long w.read w.choice k₀ buffer;
      holds = front_valid w.read w.choice k₀ (sheet_proper sheet w.read w.is_proper) w.is_choice.tables w.holds few buffer;
    }

pub passes_own : (sheet book ann : List ℕ) (w : Weighed sheet book ann Keeps) → judge_of sheet book (front (annotation w.read w.choice) ann) ≡ Ok Yes
unfolding annotation
passes_own sheet book ann w = passes_from (start_rejections w.read) (start_rejections_few w.read) sheet book ann ann w

passes_judge : (sheet book ann path : List ℕ) → Weighed sheet book ann (WithPath path Keeps) → judge_of sheet book (annotate_of sheet book ann path).annotation ≡ Ok Yes
unfolding exchanged
passes_judge sheet book ann path w =
    ap (λ (x : AfterAnnotate). judge_of sheet book x.annotation) (annotate_kept sheet book ann path w)
    ∙ passes_own sheet book ann (exchanged sheet book ann w (λ good choice. w.holds.1))

-- what annotate wrote, and the same counted from 0
older : (sheet book ann path : List ℕ) (w : Weighed sheet book ann (WithPath path Keeps))
    → Older w.read w.choice (annotate_of sheet book ann path).annotation (annotation_from 0 w.read w.choice)
unfolding annotation
older sheet book ann path w =
    let s = w.read in
    let c = w.choice in
    let good : ProperSheet s = sheet_proper sheet s w.is_proper in
    record {
      whole = counted_whole 0 s c;
      lower = λ v r.
          sym (counted_from s c good w.is_choice.tables w.holds.1 (start_rejections s) v r)
          ∙ front_number s c (start_rejections s) ann v (path_lt s c good w.is_choice.tables r.1)
          ∙ ap (λ (x : AfterAnnotate). get_or x.annotation v blank) (sym (annotate_kept sheet book ann path w));
      others = blank_elsewhere s c good w.is_choice.tables w.holds.1 0;
    }

pub second_demand : Demand2
second_demand = record {
  judges_yes = says_yes;
  judges_no = says_no;
  says_loop = says_loop;
  says_annotated = says_annotated;
  annotates = λ sheet book ann path w. (
    annotation w.read w.choice,
    annotates w.read w.choice (sheet_proper sheet w.read w.is_proper) w.is_choice.tables w.holds.1,
    annotate_kept sheet book ann path w,
  );
  annotation_passes = passes_judge;
  lasso_loops = lasso_loops;
  writes_lasso = writes;
  older_numbers = older;
  older_passes = passes_from 0 (omega arith);
  books = all_books;
}
