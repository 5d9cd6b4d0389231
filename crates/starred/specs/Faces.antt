-- What a process reads along a run, and what is seen of it, where the bench cases know no run; and the two systems of the specification.
use Rattle.std.specs.Prelude.{◌≡◌, List, [], ◌∷◌, ℕ}
use Rattle.model.specs.Sheet.{Architecture}
use Rattle.model.specs.Compose.{initial}
use Rattle.model.specs.Information.{row_table, values_read, index_read, indexes_read, Face, face, shows, packed_face, face_in, alone, shows_on}
use Rattle.model.specs.BenchCases.{sheet_p, book_p}
use Rattle.starred.specs.Examples.{plain, prompt, pair, tables, at, prompted, notes, at_all}
use Rattle.starred.specs.Desks.{placed}

-- in this state, with these outputs
abbrev pub seen : (state outputs : ℕ) → Face
seen x o = record { state = x; outputs = o }

-- rows that set variable 2 where the index was 1
abbrev pub following : List (List ℕ)
following = (0x00 ∷ 0 ∷ 1 ∷ []) ∷ (0x04 ∷ 0 ∷ 1 ∷ []) ∷ []

-- P's architecture, and the choice in its book: process 1 has these rows
abbrev pub promptly : Architecture
promptly = record { variables = 3; environment = 1; root = 0; processes = plain 0x01 0x02 2 ∷ prompt 0x02 0x04 2 0x02 ∷ []; ties = [] }

abbrev pub choice_p : List ℕ
choice_p = 0x00 ∷ 0 ∷ 1 ∷ 0x02 ∷ 0 ∷ 1 ∷ 0x00 ∷ 0 ∷ 1 ∷ 0x04 ∷ 0 ∷ 1 ∷ []

-- one process that has them and reads variable 1, of the environment; its sheet, and its book
abbrev pub single : Architecture
single = record { variables = 3; environment = 2; root = 0; processes = plain 0x02 0x04 2 ∷ []; ties = [] }

abbrev pub choice_single : List ℕ
choice_single = 0x00 ∷ 0 ∷ 1 ∷ 0x04 ∷ 0 ∷ 1 ∷ []

abbrev pub sheet_single : List ℕ
sheet_single = 0x41 ∷ 0x52 ∷ 0x03 ∷ 0x02 ∷ 0x00 ∷ 0x50 ∷ 0x52 ∷ 0x02 ∷ 0x04 ∷ 0x02 ∷ 0x41 ∷ 0x55 ∷ 0x01 ∷ 0x00 ∷ 0x00 ∷ 0x00 ∷ 0x45 ∷ 0x4E ∷ []

abbrev pub book_single : List ℕ
book_single = 0x54 ∷ 0x42 ∷ 0x00 ∷ 0x00 ∷ 0x00 ∷ 0x00 ∷ 0x01 ∷ 0x54 ∷ 0x42 ∷ 0x00 ∷ 0x01 ∷ 0x04 ∷ 0x00 ∷ 0x01 ∷ 0x45 ∷ 0x4E ∷ []

-- tables X: process 0 puts out nothing and then variable 0, and process 1 reads it
abbrev pub turns : Architecture
turns = record { variables = 1; environment = 0; root = 0; processes = plain 0x00 0x01 2 ∷ plain 0x01 0x00 2 ∷ []; ties = [] }

abbrev pub choice_x : List ℕ
choice_x = 0x00 ∷ 1 ∷ 0x01 ∷ 1 ∷ 0x00 ∷ 0 ∷ 1 ∷ 0x00 ∷ 1 ∷ 1 ∷ []

pub record FacesPinned : Type 0 where
  -- the rows of a process: its own, all of them, each whole
  pub rows_first : row_table pair tables 0 ≡ (0x00 ∷ 0 ∷ 0 ∷ 1 ∷ 0 ∷ []) ∷ (0x02 ∷ 1 ∷ 0 ∷ 0 ∷ 1 ∷ []) ∷ []
  pub rows_second : row_table pair tables 1 ≡ (0x00 ∷ 1 ∷ 2 ∷ []) ∷ (0x04 ∷ 2 ∷ 0 ∷ []) ∷ (0x00 ∷ 0 ∷ 1 ∷ []) ∷ []
  -- what is read: prompt inputs from the lower processes after the step, also where the direction has such a bit; all else from before it
  pub values_chain : values_read (prompted 0x02 0x04) notes 2 (at_all 0 0 0 0) 1 ≡ 0x05
  pub values_late : values_read (prompted 0x00 0x00) notes 2 (at_all 0 1 0 0) 0 ≡ 0x02
  pub values_impossible : values_read (prompted 0x02 0x04) notes 1 (at_all 0 0 0 0) 2 ≡ 0x00
  -- the index is made of the inputs, the lowest lowest
  pub index_second : index_read pair tables 0 (at 1 0 1) 0 ≡ 2
  pub index_prompt : index_read (prompted 0x02 0x04) notes 2 (at_all 0 0 0 0) 1 ≡ 2
  -- along a run, each from the state that the step before led to
  pub along : indexes_read pair tables 0 (initial pair) (1 ∷ 0 ∷ 0 ∷ 1 ∷ []) ≡ 1 ∷ 2 ∷ 0 ∷ 3 ∷ []
  pub others_heard : indexes_read turns choice_x 1 (initial turns) (0 ∷ 0 ∷ 0 ∷ []) ≡ 0 ∷ 1 ∷ 1 ∷ []
  -- what is seen: its own state, the outputs of the present row; the start too
  pub face_second : face pair tables 1 (at 0 0 1) ≡ seen 1 0x04
  pub shown_first : shows pair tables 0 (initial pair) (1 ∷ 0 ∷ 0 ∷ 1 ∷ []) ≡ seen 0 0x00 ∷ seen 0 0x00 ∷ seen 1 0x02 ∷ seen 1 0x02 ∷ seen 1 0x02 ∷ []
  -- a table by itself: the next states behind the outputs
  pub in_row : face_in following 1 ≡ seen 1 0x04
  pub by_itself : alone (row_table pair tables 1) 0 (0 ∷ 1 ∷ 1 ∷ []) ≡ seen 0 0x00 ∷ seen 1 0x04 ∷ seen 0 0x00 ∷ seen 2 0x00 ∷ []
  -- outputs packed to the process's own
  pub packed : packed_face 0x0A (seen 3 0x08) ≡ seen 3 2
  -- the two systems: the same rows, the same indexes, the same faces
  pub rows_P : row_table promptly choice_p 1 ≡ following
  pub rows_single : row_table single choice_single 0 ≡ following
  pub read_P : indexes_read promptly choice_p 1 (initial promptly) (1 ∷ 0 ∷ 1 ∷ []) ≡ 1 ∷ 0 ∷ 1 ∷ []
  pub read_single : indexes_read single choice_single 0 (initial single) (2 ∷ 1 ∷ 3 ∷ []) ≡ 1 ∷ 0 ∷ 1 ∷ []
  pub shown_P : shows promptly choice_p 1 (initial promptly) (1 ∷ 0 ∷ 1 ∷ []) ≡ seen 0 0x00 ∷ seen 1 0x04 ∷ seen 0 0x00 ∷ seen 1 0x04 ∷ []
  pub shown_single : shows single choice_single 0 (initial single) (2 ∷ 1 ∷ 3 ∷ []) ≡ seen 0 0x00 ∷ seen 1 0x04 ∷ seen 0 0x00 ∷ seen 1 0x04 ∷ []
  -- on desks: the process's own place, its own bits of the label, and nothing where a direction is refused
  pub desk_P : shows_on (sheet_p 0x02) book_p 1 0x04 (placed 0 0 7 6 0) (1 ∷ 0 ∷ 2 ∷ 1 ∷ []) ≡ seen 1 0x04 ∷ seen 0 0x00 ∷ seen 1 0x04 ∷ []
  pub desk_single : shows_on sheet_single book_single 0 0x04 (placed 0 8 7 6 0) (2 ∷ 4 ∷ 1 ∷ 3 ∷ []) ≡ seen 1 0x04 ∷ seen 0 0x00 ∷ seen 1 0x04 ∷ []
  pub desk_late : shows_on (sheet_p 0x00) book_p 1 0x04 (placed 0 0 7 6 0) (1 ∷ 1 ∷ 0 ∷ []) ≡ seen 0 0x00 ∷ seen 1 0x04 ∷ seen 1 0x04 ∷ []
