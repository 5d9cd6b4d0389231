-- A desk made fresh and stepped holds what the composition shows. The desk holds a composed state all along, so only a direction can be refused.
use mathlib.Core.Path.{◌≡◌, refl, sym, ap, ap₂, ◌∙◌, subst}
use mathlib.Core.Bool.{Bool, true, false, ◌||◌}
use mathlib.Core.Logic.{◌↔◌}
use mathlib.Core.List.{List, [], ◌∷◌, ◌++◌}
use Prim.Native.Nat.{ℕ, zero, suc, ◌≤◌}
use native.Mathlib.Omega.{arith}
use lib.ListN.{length, take, drop, length-take, length-map}
use lib.Seq.{take_at, drop_at}
use borrow.Author.Tests.{lt-leb}
use Rattle.theory.specs.Lists.{put, filter}
use Rattle.model.specs.declared.Refusal.{Refusal}
use Rattle.model.specs.declared.Refusal.TheVariants.{BadDirectionOrDesk}
use Rattle.model.specs.declared.ProcessState.{ProcessState}
use Rattle.model.specs.declared.Desk.{Desk}
use Rattle.model.specs.Desk.{AfterStep, AfterFresh}
use Rattle.model.specs.Mask.{if, beyond}
use Rattle.model.specs.Sheet.{Process, Architecture, Sheet}
use Rattle.model.specs.Reading.{Reading, proper, refuse◌when◌else◌, read_sheet}
use Rattle.model.specs.Compose.{Composed, moves, label, step, initial}
use Rattle.model.specs.Choice.{IsTables}
use Rattle.model.specs.Book.{read_book}
use Rattle.model.specs.Desk.{numbers, process_states, on_desk, showing, fresh_in, fresh_of, too_high, desk_fault, choice_for, step_by, step_when_read, step_of}
use Rattle.model.specs.Desk.{desk_after, answers, after, possible, due_from}
use Rattle.model.specs.Refusals.{Misfits}
use Rattle.model.specs.Demands.{DeskCalls}
use Rattle.model.proofs.ProperSheet.{sheet_proper, below_bit}
use Rattle.model.proofs.FaultsExact.{or_off, not_beyond}
use Rattle.model.proofs.Refusing.{then_read}
use Rattle.model.proofs.DeskRefusals.{misfit_tests, tests_misfit}
use Rattle.model.proofs.BookRead.{read_choice}
use Rattle.model.proofs.ComposedNumbers.{InBounds, nobody, also_in, in_length, IsState, initial_in, step_in}
use Rattle.std.specs.Prelude.{Result, Ok, Err}

-- ---- what is put on a desk is on it, and behind it the desk is as before
-- states put in front, and their numbers
placed : (ys : List ℕ) (xs : List ProcessState) → numbers (process_states ys ++ xs) ≡ ys ++ numbers xs
placed [] xs = refl
placed (y ∷ ys) xs = ap (λ (l : List ℕ). y ∷ l) (placed ys xs)

-- n of them
filled : (n : ℕ) (ys : List ℕ) (xs : List ProcessState) → length ys ≡ n → take n (numbers (process_states ys ++ xs)) ≡ ys
filled n ys xs e = ap (λ (l : List ℕ). take n l) (placed ys xs) ∙ take_at ys (numbers xs) n e

-- as many as there were
refilled : (n : ℕ) (ys : List ℕ) (xs : List ProcessState) → length ys ≡ length (take n (numbers xs)) → take n (numbers (process_states ys ++ drop (length ys) xs)) ≡ ys
refilled zero [] xs e = refl
refilled zero (y ∷ ys) xs e = absurd (omega arith)
refilled (suc n) [] [] e = refl
refilled (suc n) (y ∷ ys) [] e = absurd (omega arith)
refilled (suc n) [] (x ∷ xs) e = absurd (omega arith)
refilled (suc n) (y ∷ ys) (x ∷ xs) e = ap (λ (l : List ℕ). y ∷ l) (refilled n ys xs (omega arith))

-- and the rest
behind : (n : ℕ) (ys : List ℕ) (xs : List ProcessState) → length ys ≡ n → drop n (process_states ys ++ xs) ≡ xs
behind n ys xs e = drop_at (process_states ys) xs n (length-map ys _ ∙ e)

-- who is put on the desk last is on it
shown_last : (k : Desk) (t u : Composed) → length t.states ≡ length u.states → showing (showing k t) u ≡ showing k u
unfolding showing
shown_last k t u e =
    ap (λ (l : List ProcessState). record { states = process_states u.states ++ l; environment = u.environment })
    (behind (length u.states) t.states (drop (length t.states) k.states) e ∙ ap (λ (n : ℕ). drop n k.states) e)

-- ---- a composed state has no fault
-- no state is too high
none_high : {ps : List Process} {xs : List ℕ} → InBounds ps xs → too_high ps xs ≡ false
unfolding too_high
none_high nobody = refl
none_high (also_in l h) = or_off (lt-leb _ _ l) (none_high h)

-- so only the direction decides
only_direction : (a : Architecture) (t : Composed) (d : ℕ) → IsState a t → desk_fault a t d ≡ beyond d a.environment
unfolding desk_fault
only_direction a t d w = or_nothing (beyond d a.environment) (or_off (not_beyond t.environment a.environment w.environment_in) (none_high w.states_in))
  where
    or_nothing : (b : Bool) {r : Bool} → r ≡ false → (b || r) ≡ b
    or_nothing true e = refl
    or_nothing false e = e

-- a move for each state
moves_long : (ps : List Process) (at : ℕ) (c : List ℕ) (v new : ℕ) (xs : List ℕ) → length xs ≤ length ps → length (moves ps at c v new xs) ≡ length xs
unfolding moves
moves_long [] at c v new [] l = refl
moves_long [] at c v new (x ∷ xs) l = absurd (omega arith)
moves_long (p ∷ ps) at c v new [] l = refl
moves_long (p ∷ ps) at c v new (x ∷ xs) l = ap suc (moves_long ps _ c v _ xs (omega arith))

module _ (sheet book : List ℕ) (s : Sheet) (c : List ℕ) (is_proper : read_sheet sheet ≡ proper s) (is_book : read_book s.architecture book ≡ proper c) where
  abbrev a : Architecture
  a = s.architecture

  -- of the calls, only 14 is left open
  weighed : (k : Desk) (d : ℕ) → step_of sheet book k d ≡ step_by a (refuse BadDirectionOrDesk when desk_fault a (on_desk a k) d else proper c) k d
  unfolding step_of step_when_read choice_for
  weighed k d = ap (λ (m : Reading Sheet). step_when_read m book k d) is_proper ∙ ap (λ (m : Reading (List ℕ)). step_by a m k d) (then_read _ is_book)

  -- ---- any desk: what it shows is all that counts
  -- the answer, and the composed state then, where a fault is found or not
  answer_of : Bool → Composed → ℕ → Result ℕ Refusal
  answer_of true t d = Err BadDirectionOrDesk
  answer_of false t d = Ok (label a c (step a c t d))

  state_of : Bool → Composed → ℕ → Composed
  state_of true t d = t
  state_of false t d = step a c t d

  -- the new composed state is on the desk
  moved : (k : Desk) (d : ℕ) → let t = step a c (on_desk a k) d in on_desk a (showing k t) ≡ t
  unfolding on_desk showing step
  moved k d =
      let n = length a.processes in
      let long = moves_long a.processes 0 c _ 0 (take n (numbers k.states)) (omega (arith, length-take n (numbers k.states))) in
      ap (λ (xs : List ℕ). record { environment = d; states = xs }) (refilled n _ k.states long)

  -- of a desk a step looks at the composed state alone
  counts : (k : Desk) (d : ℕ) → let f = desk_fault a (on_desk a k) d in
      ((step_of sheet book k d).answer ≡ answer_of f (on_desk a k) d) × (on_desk a (step_of sheet book k d).desk ≡ state_of f (on_desk a k) d)
  unfolding step_by refuse◌when◌else◌ answer_of state_of
  counts k d = subst (λ (x : AfterStep). (x.answer ≡ answer_of (desk_fault a (on_desk a k) d) (on_desk a k) d) × (on_desk a x.desk ≡ state_of (desk_fault a (on_desk a k) d) (on_desk a k) d))
      (sym (weighed k d)) (by (desk_fault a (on_desk a k) d))
    where
      by : (f : Bool) → let x = step_by a (refuse BadDirectionOrDesk when f else proper c) k d in (x.answer ≡ answer_of f (on_desk a k) d) × (on_desk a x.desk ≡ state_of f (on_desk a k) d)
      by true = (refl, refl)
      by false = (refl, moved k d)

  -- so where two agree, they agree along a row of directions
  agreeing : (k k' : Desk) (ds : List ℕ) → on_desk a k ≡ on_desk a k'
      → (answers sheet book k ds ≡ answers sheet book k' ds) × (on_desk a (desk_after sheet book k ds) ≡ on_desk a (desk_after sheet book k' ds))
  unfolding answers desk_after
  agreeing k k' [] e = (refl, e)
  agreeing k k' (d ∷ ds) e =
      let one = counts k d in
      let other = counts k' d in
      let rest = agreeing (step_of sheet book k d).desk (step_of sheet book k' d).desk ds (one.1 ∙ ap (λ (t : Composed). state_of (desk_fault a t d) t d) e ∙ sym other.1) in
      (ap₂ (λ (x : Result ℕ Refusal) (xs : List (Result ℕ Refusal)). x ∷ xs) (one.0 ∙ ap (λ (t : Composed). answer_of (desk_fault a t d) t d) e ∙ sym other.0) rest.0, rest.1)

  -- 14 exactly where something misfits
  refused_just : (k : Desk) (d : ℕ) (r : Refusal) → ((step_of sheet book k d).answer ≡ Err r) ↔ ((BadDirectionOrDesk ≡ r) × Misfits a k d)
  unfolding answer_of
  refused_just k d r = (
    λ e. by (desk_fault a (on_desk a k) d) refl (sym (counts k d).0 ∙ e),
    λ h. (counts k d).0 ∙ ap (λ (f : Bool). answer_of f (on_desk a k) d) (tests_misfit a k d h.1) ∙ ap Err h.0,
  )
    where
      by : (f : Bool) → desk_fault a (on_desk a k) d ≡ f → answer_of f (on_desk a k) d ≡ Err r → (BadDirectionOrDesk ≡ r) × Misfits a k d
      by true is e = let z : BadDirectionOrDesk ≡ r = cc in (z, misfit_tests a k d is)
      by false is e = let z : ◌≡◌ {A = ℕ} 0 1 = cc in absurd (omega arith)

  -- ---- a desk that holds a composed state
  -- the book has tables
  tables : IsTables a c
  tables = (read_choice a book c is_book).0.tables

  -- a composed state that is put on a desk is the one on it
  held : (k : Desk) (t : Composed) → IsState a t → on_desk a (showing k t) ≡ t
  unfolding on_desk showing
  held k t w = ap (λ (xs : List ℕ). record { environment = t.environment; states = xs }) (filled (length a.processes) t.states _ (in_length w.states_in))

  -- the desk k with t on it, after a step by d, which is refused or not
  due : Bool → Desk → Composed → ℕ → AfterStep
  due f k t d = record { answer = answer_of f t d; desk = showing k (state_of f t d) }

  -- a step of such a desk
  one_step : (k : Desk) (t : Composed) (d : ℕ) → IsState a t → (f : Bool) → beyond d a.environment ≡ f → step_of sheet book (showing k t) d ≡ due f k t d
  unfolding step_by refuse◌when◌else◌ answer_of state_of due
  one_step k t d w f e =
      weighed (showing k t) d ∙ ap (λ (g : Bool). step_by a (refuse BadDirectionOrDesk when g else proper c) (showing k t) d) fault ∙ by f e
    where
      fault : desk_fault a (on_desk a (showing k t)) d ≡ f
      fault = ap (λ (u : Composed). desk_fault a u d) (held k t w) ∙ only_direction a t d w ∙ e

      by : (f : Bool) → beyond d a.environment ≡ f → step_by a (refuse BadDirectionOrDesk when f else proper c) (showing k t) d ≡ due f k t d
      by true e = refl
      by false e =
          let u = step a c t d in
          let long : length t.states ≡ length u.states = in_length w.states_in ∙ sym (in_length (step_in a c t d tables w (below_bit d a.environment e)).states_in) in
          ap (λ (x : Composed). record { answer = Ok (label a c (step a c x d)); desk = showing (showing k t) (step a c x d) }) (held k t w)
          ∙ ap (λ (x : Desk). record { answer = Ok (label a c u); desk = x }) (shown_last k t u long)

  -- so it is after any step
  pub still_state : (k : Desk) (d : ℕ) → IsState a (on_desk a k) → IsState a (on_desk a (step_of sheet book k d).desk)
  unfolding state_of
  still_state k d w = subst (IsState a) (sym (counts k d).1) (by (desk_fault a (on_desk a k) d) (only_direction a (on_desk a k) d w))
    where
      by : (f : Bool) → f ≡ beyond d a.environment → IsState a (state_of f (on_desk a k) d)
      by true e = w
      by false e = step_in a c (on_desk a k) d tables w (below_bit d a.environment (sym e))

  -- a call on such a desk: refused, it leaves the desk; taken, it answers the label of what is on the desk then
  pub call_refused : (k : Desk) (d : ℕ) → IsState a (on_desk a k) → beyond d a.environment ≡ true → step_of sheet book k d ≡ record { answer = Err BadDirectionOrDesk; desk = k }
  unfolding step_by refuse◌when◌else◌
  call_refused k d w e = weighed k d ∙ ap (λ (f : Bool). step_by a (refuse BadDirectionOrDesk when f else proper c) k d) (only_direction a (on_desk a k) d w ∙ e)

  pub call_taken : (k : Desk) (d : ℕ) → IsState a (on_desk a k) → beyond d a.environment ≡ false → let u = step a c (on_desk a k) d in
      ((step_of sheet book k d).answer ≡ Ok (label a c u)) × (on_desk a (step_of sheet book k d).desk ≡ u)
  unfolding answer_of state_of
  call_taken k d w e =
      let one = counts k d in
      let none = only_direction a (on_desk a k) d w ∙ e in
      (one.0 ∙ ap (λ (f : Bool). answer_of f (on_desk a k) d) none, one.1 ∙ ap (λ (f : Bool). state_of f (on_desk a k) d) none)

  -- along a row of directions
  record Holds (k : Desk) (t : Composed) (ds : List ℕ) : Type 0 where
    pub whole : desk_after sheet book (showing k t) ds ≡ showing k (after a c t (possible a ds))
    pub labels : answers sheet book (showing k t) ds ≡ due_from a c t ds
    pub is_state : IsState a (after a c t (possible a ds))

  -- by one direction after the other
  holding : (k : Desk) (t : Composed) (ds : List ℕ) → IsState a t → Holds k t ds
  unfolding desk_after answers after possible filter put due_from if due answer_of state_of
  holding k t [] w = record { whole = refl; labels = refl; is_state = w }
  holding k t (d ∷ ds) w = by (beyond d a.environment) refl (λ u. holding k u ds)
    where
      by : (f : Bool) → beyond d a.environment ≡ f → ((u : Composed) → IsState a u → Holds k u ds) → Holds k t (d ∷ ds)
      by true e then =
          let rest = then t w in
          let one = one_step k t d w true e in
          record {
            whole = ap (λ (x : AfterStep). desk_after sheet book x.desk ds) one ∙ rw e rest.whole;
            labels = ap (λ (x : AfterStep). x.answer ∷ answers sheet book x.desk ds) one ∙ rw e (ap (λ (l : List (Result ℕ Refusal)). Err BadDirectionOrDesk ∷ l) rest.labels);
            is_state = rw e rest.is_state;
          }
      by false e then =
          let u = step a c t d in
          let rest = then u (step_in a c t d tables w (below_bit d a.environment e)) in
          let one = one_step k t d w false e in
          record {
            whole = ap (λ (x : AfterStep). desk_after sheet book x.desk ds) one ∙ rw e rest.whole;
            labels = ap (λ (x : AfterStep). x.answer ∷ answers sheet book x.desk ds) one ∙ rw e (ap (λ (l : List (Result ℕ Refusal)). Ok (label a c u) ∷ l) rest.labels);
            is_state = rw e rest.is_state;
          }

  -- ---- a desk that was made fresh
  -- it has the initial composed state on it
  fresh_is : (k : Desk) → fresh_of sheet k ≡ record { answer = Ok tt; desk = showing k (initial a) }
  unfolding fresh_of fresh_in
  fresh_is k = ap (λ (m : Reading Sheet). fresh_in m k) is_proper

  -- which is a composed state
  starts : IsState a (initial a)
  starts = initial_in a (sheet_proper sheet s is_proper).architecture

  -- so it holds one
  pub fresh_state : (k : Desk) → IsState a (on_desk a (fresh_of sheet k).desk)
  fresh_state k = subst (IsState a) (sym (ap (λ (x : AfterFresh). on_desk a x.desk) (fresh_is k) ∙ held k (initial a) starts)) starts

  module _ (k : Desk) (ds : List ℕ) where
    -- along a row of directions from there
    from_fresh : Holds k (initial a) ds
    from_fresh = holding k (initial a) ds starts

    -- the whole desk
    holds_fresh : desk_after sheet book (fresh_of sheet k).desk ds ≡ showing k (after a c (initial a) (possible a ds))
    holds_fresh = ap (λ (x : AfterFresh). desk_after sheet book x.desk ds) (fresh_is k) ∙ from_fresh.whole

    -- its other places
    others_left : let n = length a.processes in drop n (desk_after sheet book (fresh_of sheet k).desk ds).states ≡ drop n k.states
    unfolding showing
    others_left =
        let n = length a.processes in
        let u = after a c (initial a) (possible a ds) in
        let long = in_length from_fresh.is_state.states_in in
        ap (λ (x : Desk). drop n x.states) holds_fresh ∙ behind n u.states (drop (length u.states) k.states) long ∙ ap (λ (m : ℕ). drop m k.states) long

  -- all of the promise
  pub desk_shows : DeskCalls sheet book s c is_proper is_book
  desk_shows = record {
    made_fresh = fresh_is;
    holds = holds_fresh;
    shows = λ k ds. ap (on_desk a) (holds_fresh k ds) ∙ held k (after a c (initial a) (possible a ds)) (from_fresh k ds).is_state;
    others_stay = others_left;
    answered = λ k ds. ap (λ (x : AfterFresh). answers sheet book x.desk ds) (fresh_is k) ∙ (from_fresh k ds).labels;
    refused_exactly = refused_just;
    agree = agreeing;
  }
