-- 01, "Bench cases": the starred ones, case S of tied processes and case P of a prompt input, one table over the definitions of the calls.
use Rattle.std.specs.Prelude.{◌≡◌, List, [], ◌∷◌, ◌++◌, ℕ, replicate, Result, Ok, ⊤}
use Rattle.model.specs.declared.Finding.TheVariants.{Yes, No}
use Rattle.model.specs.RunGraph.{blank}
use Rattle.model.specs.Calls.{AfterFind, AfterAnnotate, check_of, find_of, judge_of, annotate_of}
use Rattle.model.specs.Numbers.{reply_code}
use Rattle.model.specs.BenchCases.{sheet_a, sheet_c, sheet_e, edge, sheet_s, tie_s, edge_s, sheet_p, book_a, annotation_a, book_d, book_e, book_s, book_p, annotation_p}
use Rattle.model.specs.declared.Refusal.{Refusal}
use Rattle.model.specs.declared.Finding.{Finding}
use Rattle.model.specs.declared.Found.TheVariants.{Tables, Nothing}

-- a lent buffer of this length: it holds 7
abbrev pub buffer : ℕ → List ℕ
buffer n = replicate n 7

-- what is called, with the lengths of the buffers that are lent, and what is expected
pub data Row : Type 0 where
  find : (sheet : List ℕ) (book annotation : ℕ) → AfterFind → Row
  judge : (sheet book annotation : List ℕ) → Result Finding Refusal → Row
  annotate : (sheet book : List ℕ) (annotation path : ℕ) → Result Finding Refusal → Row
  annotate_leaves : (sheet book : List ℕ) (annotation path : ℕ) → AfterAnnotate → Row
  check : (sheet : List ℕ) → Result ⊤ Refusal → Row
  refuses : (sheet : List ℕ) → ℕ → Row
  refuses_behind : (sheet : List ℕ) → ℕ → Row

-- the call answers, and leaves in the buffers of find and of the second kind of annotate, what is expected; a refusal by its number, in the last row
-- with any byte behind the sheet
abbrev pub Holds : Row → Type 0
Holds (find sheet book annotation after) = find_of sheet (buffer book) (buffer annotation) ≡ after
Holds (judge sheet book annotation verdict) = judge_of sheet book annotation ≡ verdict
Holds (annotate sheet book annotation path verdict) = (annotate_of sheet book (buffer annotation) (buffer path)).answer ≡ verdict
Holds (annotate_leaves sheet book annotation path after) = annotate_of sheet book (buffer annotation) (buffer path) ≡ after
Holds (check sheet reply) = check_of sheet ≡ reply
Holds (refuses sheet n) = reply_code (check_of sheet) ≡ n
Holds (refuses_behind sheet n) = (x : ℕ) → reply_code (check_of (sheet ++ (x ∷ []))) ≡ n

infixr 20 ◌and◌
-- every row of a table holds
pub data Every : List Row → Type 0 where
  done : Every []
  ◌and◌ : {r : Row} {rs : List Row} → Holds r → Every rs → Every (r ∷ rs)

-- ---- what find leaves
-- `none`, and buffers of these lengths as they were
abbrev pub none : ℕ → ℕ → AfterFind
none book annotation = record { answer = Ok Nothing; book = buffer book; annotation = buffer annotation }

-- tables, and buffers with this book and this annotation
abbrev pub found : List ℕ → List ℕ → AfterFind
found book annotation = record { answer = Ok Tables; book = book; annotation = annotation }

-- ---- what annotate leaves
-- this annotation
abbrev pub annotated : List ℕ → AfterAnnotate
annotated annotation = record { answer = Ok Yes; annotation = annotation }

-- `loop`, and an annotation buffer of this length as it was
abbrev pub looped : ℕ → AfterAnnotate
looped annotation = record { answer = Ok No; annotation = buffer annotation }

-- ---- the table
-- A: the arbiter. The buffers are longer by one than they need to be
abbrev pub row_a : Row
row_a = find (sheet_a 2) 21 33 (found (book_a ++ buffer 1) (annotation_a ++ buffer 1))

-- I: A and one more byte, whichever
abbrev pub row_i : Row
row_i = refuses_behind (sheet_a 2) 2

-- all rows
abbrev pub starred : List Row
starred =
    -- A: found; its 60 bytes are a proper sheet
    row_a
    ∷ check (sheet_a 2) (Ok tt)
    -- B: A with bound 1
    ∷ find (sheet_a 1) 11 16 (none 11 16)
    -- C: bounds 1,1 and 2,1 and 1,2
    ∷ find (sheet_c 1 1) 16 16 (none 16 16)
    ∷ find (sheet_c 2 1) 23 32 (none 23 32)
    ∷ find (sheet_c 1 2) 23 32 (none 23 32)
    -- D: bounds 2,2: no rejecting loop
    ∷ annotate (sheet_c 2 2) book_d 64 256 (Ok Yes)
    -- E: the least sheet that there is. The buffers are longer by one again
    ∷ find (sheet_e 1 1 0 []) 9 2 (found (book_e ++ buffer 1) (0 ∷ buffer 1))
    -- F: the one state rejects and loops, also with 4 states of the process
    ∷ find (sheet_e 1 1 1 (edge 0 0)) 8 1 (none 8 1)
    ∷ find (sheet_e 4 1 1 (edge 0 0)) 26 4 (none 26 4)
    -- G: E with state 0 rejecting: annotation 1, since the start's entry counts
    ∷ find (sheet_e 1 1 1 []) 8 1 (found book_e (1 ∷ []))
    -- H: E with states 0, 1 and an edge 0 to 1. Only 0 rejecting: annotated 1, 1; 0, 0 is valid too
    ∷ annotate_leaves (sheet_e 1 2 1 (edge 0 1)) book_e 2 8 (annotated (1 ∷ 1 ∷ []))
    ∷ judge (sheet_e 1 2 1 (edge 0 1)) book_e (1 ∷ 1 ∷ []) (Ok Yes)
    ∷ judge (sheet_e 1 2 1 (edge 0 1)) book_e (0 ∷ 0 ∷ []) (Ok Yes)
    -- H, where the state entered rejects: the number must rise
    ∷ annotate_leaves (sheet_e 1 2 2 (edge 0 1)) book_e 2 8 (annotated (0 ∷ 1 ∷ []))
    ∷ judge (sheet_e 1 2 2 (edge 0 1)) book_e (0 ∷ 0 ∷ []) (Ok No)
    ∷ judge (sheet_e 1 2 2 (edge 0 1)) book_e (0 ∷ 1 ∷ []) (Ok Yes)
    -- I: an empty sheet; the byte 41 alone; A and one more byte
    ∷ refuses [] 1
    ∷ refuses (0x41 ∷ []) 1
    ∷ row_i
    -- S: found with the tie; without it the first tables have masks 01, 08; `none` with a further edge. Masks 01, 02 keep the tie, and loop
    ∷ find (sheet_s tie_s []) 14 2 (found (book_s 0x05 0x0A) (0 ∷ blank ∷ []))
    ∷ find (sheet_s [] []) 14 2 (found (book_s 0x01 0x08) (0 ∷ blank ∷ []))
    ∷ find (sheet_s tie_s edge_s) 14 2 (none 14 2)
    ∷ annotate_leaves (sheet_s tie_s []) (book_s 0x01 0x02) 2 8 (looped 2)
    -- P: found; its tables loop where process 1 reads variable 1 a step late
    ∷ find (sheet_p 0x02) 30 16 (found book_p annotation_p)
    ∷ annotate_leaves (sheet_p 0x02) book_p 16 64 (annotated annotation_p)
    ∷ annotate_leaves (sheet_p 0x00) book_p 16 64 (looped 16)
    ∷ []
