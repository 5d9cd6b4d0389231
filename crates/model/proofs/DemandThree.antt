-- Demand 3: `none` exactly, the first choice otherwise, and its annotation, which judge passes and annotate gives too.
use mathlib.Core.Path.{◌≡◌, refl, sym, ap, ◌∙◌, subst}
use mathlib.Core.Bool.{false}
use mathlib.Core.List.{List}
use mathlib.Core.Option.{Option, none, some}
use Prim.Native.Nat.{ℕ, ◌*◌, ◌≤◌}
use native.Mathlib.Omega.{arith}
use lib.ListN.{length, take, drop}
use lib.Seq.{take_at}
use borrow.Author.Tests.{not-false, ltb-false}
use Rattle.model.specs.declared.Refusal.TheVariants.{BufferTooShort, AnnotationBufferTooShort}
use Rattle.model.specs.declared.Finding.TheVariants.{Yes}
use Rattle.model.specs.Sheet.{Sheet, ProperSheet}
use Rattle.model.specs.Reading.{Reading, proper, read_sheet}
use Rattle.model.specs.Choice.{IsChoice, padded}
use Rattle.model.specs.RunGraph.{vertices, RejectingLoop, Keeps}
use Rattle.model.specs.Computed.{loops, keeps, annotation, first_choice}
use Rattle.model.specs.Book.{form, book_length, book_of}
use Rattle.model.specs.Calls.{front, book_short, annotation_short, AfterFind, find_sheet, find_choice, find_in, find_of, judge_of, annotate_of, room_to_find}
use Rattle.model.specs.Demands.{Annotates, Weighed, First, book_found, Demand3}
use Rattle.model.proofs.ProperSheet.{passes, goes_on, sheet_proper}
use Rattle.model.proofs.ComputedTests.{loops_exactly, keeps_exactly}
use Rattle.model.proofs.AnnotationExact.{annotates}
use Rattle.model.proofs.BookInverse.{filled_length}
use Rattle.model.proofs.AnnotationPasses.{valid_exactly_where_kept, valid_bounded}
use Rattle.model.proofs.DemandTwo.{exchanged, annotate_kept, passes_own}
use Rattle.model.proofs.ChoicesInOrder.{choices_in_order}
use Rattle.model.proofs.FirstUnique.{found_none, found_some}
use Rattle.model.proofs.FewerStates.{padded_is_tables}
use Rattle.std.specs.Prelude.{Ok}
use Rattle.model.specs.declared.Found.TheVariants.{Tables, Nothing}

module _ (sheet book ann : List ℕ) (s : Sheet) (not_refused : find_sheet sheet book ann ≡ proper s) where
  unrefused : (read_sheet sheet ≡ proper s) × (vertices s ≤ length ann)
  unfolding find_sheet room_to_find annotation_short
  unrefused =
      let h₁ = goes_on (read_sheet sheet) _ not_refused in
      let h₂ = passes BufferTooShort (book_short h₁.0.architecture book) _ h₁.2 in
      let h₃ = passes AnnotationBufferTooShort (annotation_short h₁.0 ann) _ h₂.1 in
      let e : h₁.0 ≡ s = same h₁.0 s h₃.1 in
      (h₁.1 ∙ ap proper e, subst (λ (x : Sheet). vertices x ≤ length ann) e (ltb-false _ _ h₃.0))
    where
      same : (x y : Sheet) → proper x ≡ proper y → x ≡ y
      same x y e = cc

  good : ProperSheet s
  good = sheet_proper sheet s unrefused.0

  find_is : find_of sheet book ann ≡ find_choice s (first_choice s) book ann
  unfolding find_of find_in
  find_is = ap (λ (k : Reading Sheet). find_in k book ann) not_refused

  -- a choice that does not keep the sheet has a rejecting loop
  looping : (c : List ℕ) → IsChoice s.architecture c → keeps s c ≡ false → RejectingLoop s c
  unfolding keeps
  looping c choice e = (loops_exactly s c good choice.tables).0 (not-false (loops s c) e)

  all_loop : first_choice s ≡ none → (c : List ℕ) → IsChoice s.architecture c → RejectingLoop s c
  all_loop e c choice = looping c choice (found_none s good e c choice)

  the_first : (c : List ℕ) → first_choice s ≡ some c → First s c
  the_first c e =
      let f = found_some s good c e in
      record {
        is_choice = f.is_choice;
        keeps = (keeps_exactly s c good f.is_choice.tables).0 f.passing;
        first = λ d choice b. looping d choice (f.earlier d choice b);
      }

  found : (c : List ℕ) → first_choice s ≡ some c → find_of sheet book ann ≡ record { answer = Ok Tables; book = front (book_of s.architecture c) book; annotation = front (annotation s c) ann }
  unfolding find_choice
  found c e = find_is ∙ ap (λ (o : Option (List ℕ)). find_choice s o book ann) e

  answer_nothing : (o : Option (List ℕ)) → first_choice s ≡ o → (find_of sheet book ann).answer ≡ Ok Nothing → first_choice s ≡ none
  answer_nothing none e q = e
  answer_nothing (some c) e q =
      let r : Ok Tables ≡ Ok Nothing = sym (ap (λ (a : AfterFind). a.answer) (found c e)) ∙ q in
      let z : ◌≡◌ {A = ℕ} 0 1 = cc in
      absurd (omega arith)

  nothing_answer : (o : Option (List ℕ)) → first_choice s ≡ o → ((c : List ℕ) → IsChoice s.architecture c → RejectingLoop s c) → (find_of sheet book ann).answer ≡ Ok Nothing
  unfolding find_choice
  nothing_answer none e h = ap (λ (a : AfterFind). a.answer) (find_is ∙ ap (λ (o : Option (List ℕ)). find_choice s o book ann) e)
  nothing_answer (some c) e h = let f : First s c = the_first c e in absurd (f.keeps (h c f.is_choice))

  tables : (o : Option (List ℕ)) → first_choice s ≡ o → ¬ ((find_of sheet book ann).answer ≡ Ok Nothing)
      → (c : List ℕ) × (a : List ℕ) × First s c × Annotates s c a
      × (find_of sheet book ann ≡ record { answer = Ok Tables; book = front (book_of s.architecture c) book; annotation = front a ann })
  tables none e n = absurd (n (nothing_answer none e (all_loop e)))
  tables (some c) e n =
      let f : First s c = the_first c e in
      (c, annotation s c, f, annotates s c good f.is_choice.tables f.keeps, found c e)

  -- ---- find's own book
  answer_tables : (o : Option (List ℕ)) → first_choice s ≡ o → (find_of sheet book ann).answer ≡ Ok Tables → (c : List ℕ) × (first_choice s ≡ some c)
  answer_tables none e q =
      let r : Ok Nothing ≡ Ok Tables = sym (nothing_answer none e (all_loop e)) ∙ q in
      let z : ◌≡◌ {A = ℕ} 0 1 = cc in
      absurd (omega arith)
  answer_tables (some c) e q = (c, e)

  abbrev own : List ℕ
  own = book_found sheet book ann s

  module _ (c : List ℕ) (e : first_choice s ≡ some c) where
    own_is : own ≡ book_of s.architecture c
    unfolding book_of book_length front
    own_is = ap (λ (a : AfterFind). take (book_length s.architecture) a.book) (found c e)
        ∙ take_at (book_of s.architecture c) (drop (length (book_of s.architecture c)) book) (book_length s.architecture) (filled_length (form s.architecture) c)

    own_weighed : Weighed sheet own ann Keeps
    own_weighed = record {
      read = s;
      choice = c;
      is_proper = unrefused.0;
      is_choice = (the_first c e).is_choice;
      is_book = sym own_is;
      has_room = unrefused.1;
      holds = (the_first c e).keeps;
    }

    agrees : (path : List ℕ) → 4 * vertices s ≤ length path → annotate_of sheet own ann path ≡ record { answer = Ok Yes; annotation = (find_of sheet book ann).annotation }
    unfolding own_weighed exchanged
    agrees path room =
        annotate_kept sheet own ann path (exchanged sheet own ann own_weighed (λ good choice. (room, own_weighed.holds)))
        ∙ ap (λ (a : AfterFind). record { answer = Ok Yes; annotation = a.annotation }) (sym (found c e))

    passed : judge_of sheet own (find_of sheet book ann).annotation ≡ Ok Yes
    unfolding own_weighed
    passed = ap (λ (a : AfterFind). judge_of sheet own a.annotation) (found c e) ∙ passes_own sheet own ann own_weighed

  -- it is the book of a choice
  pub own_choice : (find_of sheet book ann).answer ≡ Ok Tables → (c : List ℕ) × IsChoice s.architecture c × (book_of s.architecture c ≡ own)
  own_choice q = let r = answer_tables (first_choice s) refl q in (r.0, (the_first r.0 r.1).is_choice, sym (own_is r.0 r.1))

  pub third_demand : Demand3 sheet book ann s not_refused
  third_demand = record {
    none_exactly = (λ q. all_loop (answer_nothing (first_choice s) refl q), λ h. nothing_answer (first_choice s) refl h);
    none_with_fewer_states = λ q bounds c fits ties. all_loop (answer_nothing (first_choice s) refl q) (padded s.architecture bounds c)
        record { tables = padded_is_tables s.architecture bounds c good.architecture fits; ties = ties };
    otherwise = λ n. tables (first_choice s) refl n;
    choices_listed = choices_in_order s.architecture good.architecture;
    valid_exists = λ c choice. valid_exactly_where_kept s c good choice.tables;
    valid_bounded = λ c choice. valid_bounded s c good choice.tables;
    passes_judge = λ q. let r = answer_tables (first_choice s) refl q in passed r.0 r.1;
    annotate_agrees = λ path room q. let r = answer_tables (first_choice s) refl q in agrees r.0 r.1 path room;
  }
