-- Desks, where the bench cases know no step: what a fresh desk holds, what each step answers and leaves, and each cause of 14.
use Rattle.std.specs.Prelude.{◌≡◌, List, [], ◌∷◌, ℕ, Ok, Err}
use Rattle.model.specs.declared.Refusal.TheVariants.{SheetTooShort, BadBook, BadDirectionOrDesk}
use Rattle.model.specs.declared.Desk.{Desk}
use Rattle.model.specs.Sheet.{Architecture}
use Rattle.model.specs.Numbers.{shown_code}
use Rattle.model.specs.Compose.{initial}
use Rattle.model.specs.Desk.{process_states, on_desk, fresh_of, step_of, desk_after, answers, after, possible, due_from}
use Rattle.starred.specs.Examples.{plain}
use Rattle.model.specs.BenchCases.{sheet_a, book_a, sheet_c, book_d, sheet_e, book_e, sheet_p, book_p}

-- a desk with these in its places
abbrev pub placed : (first second third fourth mask : ℕ) → Desk
placed x y z w m = record { states = process_states (x ∷ y ∷ z ∷ w ∷ []); environment = m }

-- A's sheet with root mask 02
abbrev pub rooted : List ℕ
rooted = 0x41 ∷ 0x52 ∷ 0x04 ∷ 0x02 ∷ 0x02 ∷ 0x50 ∷ 0x52 ∷ 0x03 ∷ 0x0C ∷ 0x02 ∷ 0x41 ∷ 0x55 ∷ 0x01 ∷ 0x00 ∷ 0x00 ∷ 0x00 ∷ 0x45 ∷ 0x4E ∷ []

-- four directions, the third of them refused by A and D
abbrev pub row : List ℕ
row = 1 ∷ 2 ∷ 4 ∷ 3 ∷ []

-- D's architecture, and the choice in its book
abbrev pub two : Architecture
two = record { variables = 4; environment = 2; root = 0; processes = plain 0x01 0x04 2 ∷ plain 0x02 0x08 2 ∷ []; ties = [] }

abbrev pub alternating : List ℕ
alternating = 0x04 ∷ 1 ∷ 1 ∷ 0x00 ∷ 0 ∷ 0 ∷ 0x00 ∷ 1 ∷ 1 ∷ 0x08 ∷ 0 ∷ 0 ∷ []

pub record DesksPinned : Type 0 where
  -- fresh: state 0 for each process of the sheet, the root mask, and the other places as they were
  pub fresh_A : fresh_of (sheet_a 2) (placed 9 8 7 6 5) ≡ record { answer = Ok tt; desk = placed 0 8 7 6 0 }
  pub fresh_D : fresh_of (sheet_c 2 2) (placed 9 8 7 6 5) ≡ record { answer = Ok tt; desk = placed 0 0 7 6 0 }
  pub fresh_root : fresh_of rooted (placed 9 8 7 6 5) ≡ record { answer = Ok tt; desk = placed 0 8 7 6 2 }
  pub fresh_refused : fresh_of [] (placed 9 8 7 6 5) ≡ record { answer = Err SheetTooShort; desk = placed 9 8 7 6 5 }
  -- a step: the label is that of the new states, with the direction
  pub step_A : step_of (sheet_a 2) book_a (placed 0 8 7 6 0) 1 ≡ record { answer = Ok 0x09; desk = placed 1 8 7 6 1 }
  pub step_D : step_of (sheet_c 2 2) book_d (placed 0 0 7 6 0) 1 ≡ record { answer = Ok 0x09; desk = placed 1 1 7 6 1 }
  pub step_P : step_of (sheet_p 0x02) book_p (placed 0 0 7 6 0) 1 ≡ record { answer = Ok 0x07; desk = placed 1 1 7 6 1 }
  -- states that no step of the tables leads to
  pub unreached : step_of (sheet_c 2 2) book_d (placed 1 0 7 6 3) 0 ≡ record { answer = Ok 0x0C; desk = placed 0 1 7 6 0 }
  -- 14: the direction, the mask, a state at its bound, the second process too; without environment variables only 0 will do
  pub direction_out : step_of (sheet_a 2) book_a (placed 1 8 7 6 3) 4 ≡ record { answer = Err BadDirectionOrDesk; desk = placed 1 8 7 6 3 }
  pub mask_out : step_of (sheet_a 2) book_a (placed 1 8 7 6 4) 3 ≡ record { answer = Err BadDirectionOrDesk; desk = placed 1 8 7 6 4 }
  pub state_out : step_of (sheet_a 2) book_a (placed 2 8 7 6 3) 3 ≡ record { answer = Err BadDirectionOrDesk; desk = placed 2 8 7 6 3 }
  pub second_out : step_of (sheet_c 2 2) book_d (placed 0 2 7 6 3) 3 ≡ record { answer = Err BadDirectionOrDesk; desk = placed 0 2 7 6 3 }
  pub nothing_but_0 : answers (sheet_e 1 1 0 []) book_e (placed 0 8 7 6 0) (0 ∷ 1 ∷ []) ≡ Ok 0 ∷ Err BadDirectionOrDesk ∷ []
  -- the sheet's refusals and 10 before 14
  pub sheet_first : step_of [] book_a (placed 2 8 7 6 3) 4 ≡ record { answer = Err SheetTooShort; desk = placed 2 8 7 6 3 }
  pub book_first : step_of (sheet_a 2) book_e (placed 2 8 7 6 3) 4 ≡ record { answer = Err BadBook; desk = placed 2 8 7 6 3 }
  -- a row of calls, and the numbers that a C caller gets
  pub row_desk : desk_after (sheet_c 2 2) book_d (placed 0 0 7 6 0) row ≡ placed 1 1 7 6 3
  pub row_answers : answers (sheet_c 2 2) book_d (placed 0 0 7 6 0) row ≡ Ok 0x09 ∷ Ok 0x06 ∷ Err BadDirectionOrDesk ∷ Ok 0x0B ∷ []
  -- what the composition shows
  pub on_a_desk : on_desk two (placed 1 0 7 6 3) ≡ record { environment = 3; states = 1 ∷ 0 ∷ [] }
  pub after_two : after two alternating (initial two) (1 ∷ 2 ∷ []) ≡ record { environment = 2; states = 0 ∷ 0 ∷ [] }
  pub possible_three : possible two (1 ∷ 4 ∷ 0 ∷ 255 ∷ 3 ∷ []) ≡ 1 ∷ 0 ∷ 3 ∷ []
  pub due_four : due_from two alternating (initial two) row ≡ Ok 0x09 ∷ Ok 0x06 ∷ Err BadDirectionOrDesk ∷ Ok 0x0B ∷ []
  pub codes : (shown_code (Ok 0x09) ≡ 65545) × (shown_code (Err BadDirectionOrDesk) ≡ 14)
