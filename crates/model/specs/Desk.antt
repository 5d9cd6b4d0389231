-- 01, "Public calls": a desk on which tables are stepped, direction by direction. What its two calls answer, and what the desk then holds.
use Rattle.std.specs.Prelude.{Bool, false, ◌||◌, not, List, [], ◌∷◌, ◌++◌, map, ℕ, leb, length, take, drop, Result, Ok, Err, ⊤}
use Rattle.theory.specs.Lists.{filter}
use Rattle.model.specs.declared.Refusal.TheVariants.{BadDirectionOrDesk}
use Rattle.model.specs.declared.ProcessState.{ProcessState}
use Rattle.model.specs.declared.Desk.{Desk}
use Rattle.model.specs.declared.Stepped.{Stepped}
use Rattle.model.specs.Mask.{if, beyond}
use Rattle.model.specs.Sheet.{Process, Architecture, Sheet}
use Rattle.model.specs.Reading.{Reading, refused, proper, refuse◌when◌else◌, ◌then◌, read_sheet}
use Rattle.model.specs.Compose.{Composed, label, step, initial}
use Rattle.model.specs.Book.{read_book}
use Rattle.model.specs.declared.Refusal.{Refusal}

-- ---- what a desk shows
-- the numbers of process states
abbrev pub numbers : List ProcessState → List ℕ
numbers xs = map (λ x. x.0) xs

-- the process states of these numbers
abbrev pub process_states : List ℕ → List ProcessState
process_states xs = map (λ (x : ℕ). record { 0 = x }) xs

-- the composed state on the desk: the first places, one for each of the sheet's processes, and the mask
unfoldable pub on_desk : Architecture → Desk → Composed
on_desk a k = record { environment = k.environment; states = take (length a.processes) (numbers k.states) }

-- the desk k with t on it: the other places are as in k
unfoldable pub showing : Desk → Composed → Desk
showing k t = record { states = process_states t.states ++ drop (length t.states) k.states; environment = t.environment }

-- ---- make a desk fresh: the sheet's faults
-- what making a desk fresh answers, and the desk after it
pub record AfterFresh : Type 0 where
  pub answer : Result ⊤ Refusal
  pub desk : Desk

-- a desk that is handed over by value is what it was where the call is refused
abbrev pub after_fresh : Result Desk Refusal → Desk → AfterFresh
after_fresh (Ok new) k = record { answer = Ok tt; desk = new }
after_fresh (Err r) k = record { answer = Err r; desk = k }

-- all of the sheet's processes in state 0, and the root mask; a refusal leaves the desk
unfoldable pub fresh_in : Reading Sheet → Desk → AfterFresh
unfolding showing initial
fresh_in (refused r) k = record { answer = Err r; desk = k }
fresh_in (proper s) k = record { answer = Ok tt; desk = showing k (initial s.architecture) }

-- fresh
unfoldable pub fresh_of : List ℕ → Desk → AfterFresh
unfolding fresh_in read_sheet
fresh_of sheet k = fresh_in (read_sheet sheet) k

-- ---- step a desk by a direction: the sheet's faults, 10, 11, 14
-- what a step answers, the label of the new composed state, and the desk after it
pub record AfterStep : Type 0 where
  pub answer : Result ℕ Refusal
  pub desk : Desk

-- a desk that is handed over by value is what it was where the call is refused
abbrev pub after_step : Result Stepped Refusal → Desk → AfterStep
after_step (Ok next) k = record { answer = Ok next.label; desk = next.desk }
after_step (Err r) k = record { answer = Err r; desk = k }

-- a state at or above the bound of its process
unfoldable pub too_high : List Process → List ℕ → Bool
too_high [] xs = false
too_high (p ∷ ps) [] = false
too_high (p ∷ ps) (x ∷ xs) = leb p.bound x || too_high ps xs

-- 14: the direction or the desk's mask has a bit outside the environment variables, or the state of one of the sheet's processes is too high
unfoldable pub desk_fault : Architecture → Composed → ℕ → Bool
unfolding beyond too_high
desk_fault a t d = beyond d a.environment || (beyond t.environment a.environment || too_high a.processes t.states)

-- the choice that the book holds, where desk and direction fit the architecture
unfoldable pub choice_for : Architecture → List ℕ → Desk → ℕ → Reading (List ℕ)
unfolding ◌then◌ read_book refuse◌when◌else◌ desk_fault on_desk
choice_for a book k d =
    read_book a book then λ c.
    refuse BadDirectionOrDesk when desk_fault a (on_desk a k) d else
    proper c

-- the desk moves on, and its new label is answered; a refusal leaves the desk
unfoldable pub step_by : Architecture → Reading (List ℕ) → Desk → ℕ → AfterStep
unfolding step on_desk label showing
step_by a (refused r) k d = record { answer = Err r; desk = k }
step_by a (proper c) k d =
    let t = step a c (on_desk a k) d in
    record { answer = Ok (label a c t); desk = showing k t }

-- the sheet is read first
unfoldable pub step_when_read : Reading Sheet → List ℕ → Desk → ℕ → AfterStep
unfolding step_by choice_for
step_when_read (refused r) book k d = record { answer = Err r; desk = k }
step_when_read (proper s) book k d = step_by s.architecture (choice_for s.architecture book k d) k d

-- step
unfoldable pub step_of : (sheet book : List ℕ) → Desk → ℕ → AfterStep
unfolding step_when_read read_sheet
step_of sheet book k d = step_when_read (read_sheet sheet) book k d

-- ---- a row of calls, one for each direction, all with one sheet and one book
-- the desk after them
unfoldable pub desk_after : (sheet book : List ℕ) → Desk → List ℕ → Desk
unfolding step_of
desk_after sheet book k [] = k
desk_after sheet book k (d ∷ ds) = desk_after sheet book (step_of sheet book k d).desk ds

-- what they answer
unfoldable pub answers : (sheet book : List ℕ) → Desk → List ℕ → List (Result ℕ Refusal)
unfolding step_of
answers sheet book k [] = []
answers sheet book k (d ∷ ds) = (step_of sheet book k d).answer ∷ answers sheet book (step_of sheet book k d).desk ds

-- ---- what the composition shows
-- the composed state after these steps
unfoldable pub after : Architecture → List ℕ → Composed → List ℕ → Composed
unfolding step
after a c t [] = t
after a c t (d ∷ ds) = after a c (step a c t d) ds

-- the directions that are not refused
unfoldable pub possible : Architecture → List ℕ → List ℕ
unfolding filter beyond
possible a ds = filter (λ d. not (beyond d a.environment)) ds

-- the answers that are due from t on: 14 for a direction that is refused, and otherwise the label after its step
unfoldable pub due_from : Architecture → List ℕ → Composed → List ℕ → List (Result ℕ Refusal)
unfolding if beyond step label
due_from a c t [] = []
due_from a c t (d ∷ ds) =
    let u = step a c t d in
    if (beyond d a.environment) (Err BadDirectionOrDesk ∷ due_from a c t ds) (Ok (label a c u) ∷ due_from a c u ds)
