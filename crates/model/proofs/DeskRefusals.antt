-- A step on a desk is refused exactly as its definition of refusals says; a refusal, of a desk to be made fresh too, leaves the desk.
use mathlib.Core.Path.{◌≡◌, refl, sym, ap, ◌∙◌, subst}
use mathlib.Core.Bool.{true, false, true≢false}
use mathlib.Core.Logic.{◌⊎◌, inl, inr, ◌↔◌, ⊎_elim}
use mathlib.Core.List.{List, [], ◌∷◌}
use mathlib.Core.Option.{some}
use Prim.Native.Nat.{ℕ, zero, suc, ◌≤◌}
use native.Mathlib.Omega.{arith}
use lib.Dec.{leb}
use lib.ListN.{length, take, get_elem?}
use borrow.Author.Tests.{leb-true, le-leb}
use Rattle.theory.proofs.Bools.{or_is}
use Rattle.model.specs.declared.Refusal.{Refusal}
use Rattle.model.specs.declared.Refusal.TheVariants.{BadDirectionOrDesk}
use Rattle.model.specs.declared.ProcessState.{ProcessState}
use Rattle.model.specs.declared.Desk.{Desk}
use Rattle.model.specs.Mask.{beyond}
use Rattle.model.specs.Sheet.{Process, Architecture, Sheet}
use Rattle.model.specs.Reading.{Reading, refused, proper, read_sheet}
use Rattle.model.specs.Book.{read_book}
use Rattle.model.specs.Calls.{reply, check_of}
use Rattle.model.specs.Desk.{numbers, on_desk, fresh_in, fresh_of, too_high, desk_fault, choice_for, step_by, step_when_read, step_of}
use Rattle.model.specs.Refusals.{Misfits, direction_out, mask_out, state_out, StepRefused}
use Rattle.model.proofs.Refusing.{stop, refused≢proper, refused_when, refused_then, then_refused, then_read}
use Rattle.model.proofs.FaultsExact.{is_beyond}
use Rattle.model.proofs.BookRead.{choice_formed, choice_read, read_choice, book_refused, refused_book}
use Rattle.std.specs.Prelude.{Err}

-- ---- 14
-- a state at or above the bound of its process
pub record Above (ps : List Process) (xs : List ProcessState) : Type 0 where
  pub at : ℕ
  pub process : Process
  pub state : ProcessState
  pub its_process : get_elem? ps at ≡ some process
  pub its_state : get_elem? xs at ≡ some state
  pub above : process.bound ≤ state.0

-- the test finds it, and finds nothing else
high_tests : (ps : List Process) (xs : List ProcessState) → too_high ps (take (length ps) (numbers xs)) ≡ true → Above ps xs
unfolding too_high
high_tests [] xs e = absurd (true≢false (sym e))
high_tests (p ∷ ps) [] e = absurd (true≢false (sym e))
high_tests (p ∷ ps) (x ∷ xs) e = ⊎_elim
    (λ h. record { at = 0; process = p; state = x; its_process = refl; its_state = refl; above = leb-true _ _ h })
    (λ h. let a = high_tests ps xs h in record { at = suc a.at; process = a.process; state = a.state; its_process = a.its_process; its_state = a.its_state; above = a.above })
    ((or_is (leb p.bound x.0) _).0 e)

tests_high : (ps : List Process) (xs : List ProcessState) (i : ℕ) {p : Process} {x : ProcessState} → get_elem? ps i ≡ some p → get_elem? xs i ≡ some x → p.bound ≤ x.0
    → too_high ps (take (length ps) (numbers xs)) ≡ true
unfolding too_high
tests_high [] xs i e f l = let z : ◌≡◌ {A = ℕ} 0 1 = cc in absurd (omega arith)
tests_high (q ∷ ps) [] i e f l = let z : ◌≡◌ {A = ℕ} 0 1 = cc in absurd (omega arith)
tests_high (q ∷ ps) (y ∷ xs) zero {p} {x} e f l =
    let same : q ≡ p = cc in
    let there : y ≡ x = cc in
    (or_is (leb q.bound y.0) _).1 (inl (le-leb q.bound y.0 (rw (same, there) l)))
tests_high (q ∷ ps) (y ∷ xs) (suc i) e f l = (or_is (leb q.bound y.0) _).1 (inr (tests_high ps xs i e f l))

-- 14 as a test and as a condition
pub misfit_tests : (a : Architecture) (k : Desk) (d : ℕ) → desk_fault a (on_desk a k) d ≡ true → Misfits a k d
unfolding desk_fault on_desk beyond
misfit_tests a k d e = ⊎_elim
    (λ h. direction_out (leb-true _ _ h))
    (λ o. ⊎_elim
    (λ h. mask_out (leb-true _ _ h))
    (λ h. let w = high_tests a.processes k.states h in state_out w.at w.process w.state w.its_process w.its_state w.above)
    ((or_is (beyond k.environment a.environment) _).0 o))
    ((or_is (beyond d a.environment) _).0 e)

pub tests_misfit : (a : Architecture) (k : Desk) (d : ℕ) → Misfits a k d → desk_fault a (on_desk a k) d ≡ true
unfolding desk_fault on_desk
tests_misfit a k d (direction_out l) = (or_is (beyond d a.environment) _).1 (inl (is_beyond d a.environment l))
tests_misfit a k d (mask_out l) = (or_is (beyond d a.environment) _).1 (inr ((or_is (beyond k.environment a.environment) _).1 (inl (is_beyond k.environment a.environment l))))
tests_misfit a k d (state_out i p x e f l) =
    (or_is (beyond d a.environment) _).1 (inr ((or_is (beyond k.environment a.environment) _).1 (inr (tests_high a.processes k.states i e f l))))

-- ---- the answer is a refusal exactly when what was read is
answer_refused : (a : Architecture) (m : Reading (List ℕ)) (k : Desk) (d : ℕ) (r : Refusal) → (step_by a m k d).answer ≡ Err r → m ≡ refused r
unfolding step_by
answer_refused a (refused q) k d r e = let z : q ≡ r = cc in ap refused z
answer_refused a (proper c) k d r e = let z : ◌≡◌ {A = ℕ} 0 1 = cc in absurd (omega arith)

refused_answer : (a : Architecture) {m : Reading (List ℕ)} (k : Desk) (d : ℕ) {r : Refusal} → m ≡ refused r → (step_by a m k d).answer ≡ Err r
unfolding step_by
refused_answer a k d e = rw e

-- ---- step: 10, 11, then 14
module _ (sheet book : List ℕ) (k : Desk) (d : ℕ) where
  step_tests : (r : Refusal) → (step_of sheet book k d).answer ≡ Err r → StepRefused sheet book k d r
  unfolding step_of choice_for step_when_read
  step_tests r e = by (read_sheet sheet) refl e
    where
      behind : (s : Sheet) → read_sheet sheet ≡ proper s → (c : List ℕ) → read_book s.architecture book ≡ proper c
          → ((desk_fault s.architecture (on_desk s.architecture k) d ≡ true) × (BadDirectionOrDesk ≡ r))
          ⊎ ((desk_fault s.architecture (on_desk s.architecture k) d ≡ false) × (◌≡◌ {A = Reading (List ℕ)} (proper c) (refused r))) → StepRefused sheet book k d r
      behind s p c q (inl h) =
          let w = read_choice s.architecture book c q in
          subst (StepRefused sheet book k d) h.1
          (StepRefused.misfit s c p (choice_formed s.architecture book c w.0 w.1) w.0 (misfit_tests s.architecture k d h.0))
      behind s p c q (inr h) = absurd (refused≢proper r c (sym h.1))

      read : (s : Sheet) → read_sheet sheet ≡ proper s → choice_for s.architecture book k d ≡ refused r → StepRefused sheet book k d r
      read s p e = ⊎_elim
          (λ q. StepRefused.by_book s r p (book_refused s.architecture book r q))
          (λ h. behind s p h.0 h.1 (refused_when BadDirectionOrDesk _ _ r h.2))
          (refused_then (read_book s.architecture book) _ r e)

      by : (m : Reading Sheet) → read_sheet sheet ≡ m → (step_when_read m book k d).answer ≡ Err r → StepRefused sheet book k d r
      by (refused q) p e = let z : q ≡ r = cc in StepRefused.by_sheet r (p ∙ ap refused z)
      by (proper s) p e = read s p (answer_refused s.architecture (choice_for s.architecture book k d) k d r e)

  tests_step : (r : Refusal) → StepRefused sheet book k d r → (step_of sheet book k d).answer ≡ Err r
  unfolding step_of step_when_read choice_for
  tests_step r (StepRefused.by_sheet q e) = rw e
  tests_step r (StepRefused.by_book s q e h) = rw e (refused_answer s.architecture k d (then_refused _ (refused_book s.architecture book q h)))
  tests_step r (StepRefused.misfit s c e f choice m) =
      rw e (refused_answer s.architecture k d (then_read _ (choice_read s.architecture book c choice f.is_book) ∙ stop BadDirectionOrDesk _ (tests_misfit s.architecture k d m)))

  pub step_exactly : (r : Refusal) → ((step_of sheet book k d).answer ≡ Err r) ↔ StepRefused sheet book k d r
  step_exactly r = (step_tests r, tests_step r)

-- ---- fresh is refused as check is
pub fresh_as_check : (sheet : List ℕ) (k : Desk) → (fresh_of sheet k).answer ≡ check_of sheet
unfolding fresh_of check_of fresh_in reply
fresh_as_check sheet k = by (read_sheet sheet)
  where
    by : (m : Reading Sheet) → (fresh_in m k).answer ≡ reply m
    by (refused q) = refl
    by (proper s) = refl

-- ---- the desk is left
pub fresh_kept : (sheet : List ℕ) (k : Desk) (r : Refusal) → (fresh_of sheet k).answer ≡ Err r → (fresh_of sheet k).desk ≡ k
unfolding fresh_of fresh_in
fresh_kept sheet k r e = by (read_sheet sheet) e
  where
    by : (m : Reading Sheet) → (fresh_in m k).answer ≡ Err r → (fresh_in m k).desk ≡ k
    by (refused q) e = refl
    by (proper s) e = let z : ◌≡◌ {A = ℕ} 0 1 = cc in absurd (omega arith)

pub step_kept : (sheet book : List ℕ) (k : Desk) (d : ℕ) (r : Refusal) → (step_of sheet book k d).answer ≡ Err r → (step_of sheet book k d).desk ≡ k
unfolding step_of step_by step_when_read
step_kept sheet book k d r e = by (read_sheet sheet) e
  where
    read : (a : Architecture) (m : Reading (List ℕ)) → (step_by a m k d).answer ≡ Err r → (step_by a m k d).desk ≡ k
    read a (refused q) e = refl
    read a (proper c) e = let z : ◌≡◌ {A = ℕ} 0 1 = cc in absurd (omega arith)

    by : (m : Reading Sheet) → (step_when_read m book k d).answer ≡ Err r → (step_when_read m book k d).desk ≡ k
    by (refused q) e = refl
    by (proper s) e = read s.architecture (choice_for s.architecture book k d) e
