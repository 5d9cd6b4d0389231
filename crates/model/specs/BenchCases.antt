-- 01, "Bench cases": their sheets, and the books, annotations and text that are named there; case S of tied processes; case P of a prompt input; and a sheet of the greatest size.
use Rattle.std.specs.Prelude.{Bool, true, false, List, [], ◌∷◌, ◌++◌, ℕ, replicate}
use Rattle.model.specs.Ascii.{ascii}
use Rattle.model.specs.Sheet.{Process, Tie, Edge, Sheet}
use Rattle.model.specs.SheetFile.{sheet_bytes}
use Rattle.model.specs.RunGraph.{blank}

-- A's AU, seven ED and EN
abbrev pub automaton_a : List ℕ
automaton_a =
    0x41 ∷ 0x55 ∷ 0x04 ∷ 0x00 ∷ 0x0E ∷ 0x00
    ∷ 0x45 ∷ 0x44 ∷ 0x00 ∷ 0x00 ∷ 0x00 ∷ 0x00 ∷ 0x45 ∷ 0x44 ∷ 0x00 ∷ 0x03 ∷ 0x0C ∷ 0x00 ∷ 0x45 ∷ 0x44 ∷ 0x00 ∷ 0x01 ∷ 0x01 ∷ 0x00
    ∷ 0x45 ∷ 0x44 ∷ 0x00 ∷ 0x02 ∷ 0x02 ∷ 0x00 ∷ 0x45 ∷ 0x44 ∷ 0x01 ∷ 0x01 ∷ 0x00 ∷ 0x04 ∷ 0x45 ∷ 0x44 ∷ 0x02 ∷ 0x02 ∷ 0x00 ∷ 0x08
    ∷ 0x45 ∷ 0x44 ∷ 0x03 ∷ 0x03 ∷ 0x00 ∷ 0x00 ∷ 0x45 ∷ 0x4E ∷ []

-- A with this bound: with 2 it is the 60 bytes of 01
abbrev pub sheet_a : ℕ → List ℕ
sheet_a bound = 0x41 ∷ 0x52 ∷ 0x04 ∷ 0x02 ∷ 0x00 ∷ 0x50 ∷ 0x52 ∷ 0x03 ∷ 0x0C ∷ bound ∷ automaton_a

-- C with these bounds
abbrev pub sheet_c : ℕ → ℕ → List ℕ
sheet_c b₀ b₁ = 0x41 ∷ 0x52 ∷ 0x04 ∷ 0x02 ∷ 0x00 ∷ 0x50 ∷ 0x52 ∷ 0x01 ∷ 0x04 ∷ b₀ ∷ 0x50 ∷ 0x52 ∷ 0x02 ∷ 0x08 ∷ b₁ ∷ automaton_a

-- E with this bound, these automaton states, rejecting mask and edges
abbrev pub sheet_e : ℕ → ℕ → ℕ → List ℕ → List ℕ
sheet_e bound states rejecting edges =
    0x41 ∷ 0x52 ∷ 0 ∷ 0 ∷ 0 ∷ 0x50 ∷ 0x52 ∷ 0 ∷ 0 ∷ bound ∷ 0x41 ∷ 0x55 ∷ states ∷ 0 ∷ rejecting ∷ 0 ∷ edges ++ (0x45 ∷ 0x4E ∷ [])

-- an edge with masks 00
abbrev pub edge : ℕ → ℕ → List ℕ
edge q r = 0x45 ∷ 0x44 ∷ q ∷ r ∷ 0 ∷ 0 ∷ []

-- S with these ties, and these edges before the last: each step needs variable 0 of process 0 and variable 3 of process 1
abbrev pub sheet_s : List ℕ → List ℕ → List ℕ
sheet_s ties edges =
    0x41 ∷ 0x52 ∷ 0x04 ∷ 0x00 ∷ 0x00 ∷ 0x50 ∷ 0x52 ∷ 0x00 ∷ 0x05 ∷ 0x01 ∷ 0x50 ∷ 0x52 ∷ 0x00 ∷ 0x0A ∷ 0x01
    ∷ ties
    ++ (0x41 ∷ 0x55 ∷ 0x02 ∷ 0x00 ∷ 0x02 ∷ 0x00 ∷ 0x45 ∷ 0x44 ∷ 0x00 ∷ 0x00 ∷ 0x00 ∷ 0x00 ∷ 0x45 ∷ 0x44 ∷ 0x00 ∷ 0x01 ∷ 0x00 ∷ 0x01 ∷ 0x45 ∷ 0x44 ∷ 0x00 ∷ 0x01 ∷ 0x00 ∷ 0x08 ∷ edges)
    ++ (0x45 ∷ 0x44 ∷ 0x01 ∷ 0x01 ∷ 0x00 ∷ 0x00 ∷ 0x45 ∷ 0x4E ∷ [])

-- its tie
abbrev pub tie_s : List ℕ
tie_s = 0x53 ∷ 0x59 ∷ 0x01 ∷ 0x00 ∷ []

-- the edge with which no tied tables work: variable 2 must not be set
abbrev pub edge_s : List ℕ
edge_s = 0x45 ∷ 0x44 ∷ 0x00 ∷ 0x01 ∷ 0x04 ∷ 0x00 ∷ []

-- P with this prompt mask: process 0 reads variable 0, of the environment, and process 1 variable 1, of process 0; each step needs variables 0, 1 and 2 all set or all clear
abbrev pub sheet_p : ℕ → List ℕ
sheet_p prompts =
    0x41 ∷ 0x52 ∷ 0x03 ∷ 0x01 ∷ 0x00 ∷ 0x50 ∷ 0x52 ∷ 0x01 ∷ 0x02 ∷ 0x02 ∷ 0x50 ∷ 0x4D ∷ 0x02 ∷ 0x04 ∷ 0x02 ∷ prompts
    ∷ 0x41 ∷ 0x55 ∷ 0x02 ∷ 0x00 ∷ 0x02 ∷ 0x00 ∷ 0x45 ∷ 0x44 ∷ 0x00 ∷ 0x00 ∷ 0x00 ∷ 0x00
    ∷ 0x45 ∷ 0x44 ∷ 0x00 ∷ 0x01 ∷ 0x01 ∷ 0x02 ∷ 0x45 ∷ 0x44 ∷ 0x00 ∷ 0x01 ∷ 0x02 ∷ 0x01 ∷ 0x45 ∷ 0x44 ∷ 0x00 ∷ 0x01 ∷ 0x02 ∷ 0x04
    ∷ 0x45 ∷ 0x44 ∷ 0x00 ∷ 0x01 ∷ 0x04 ∷ 0x02 ∷ 0x45 ∷ 0x44 ∷ 0x01 ∷ 0x01 ∷ 0x00 ∷ 0x00 ∷ 0x45 ∷ 0x4E ∷ []

-- ---- books and annotations
-- the entries of A's book: g1 in state 0, g2 in state 1, and each leads to the other
abbrev pub choice_a : List ℕ
choice_a = 0x04 ∷ 1 ∷ 1 ∷ 1 ∷ 1 ∷ 0x08 ∷ 0 ∷ 0 ∷ 0 ∷ 0 ∷ []

-- A's book
abbrev pub book_a : List ℕ
book_a = 0x54 ∷ 0x42 ∷ 0x00 ∷ 0x00 ∷ 0x04 ∷ 0x01 ∷ 0x01 ∷ 0x01 ∷ 0x01 ∷ 0x54 ∷ 0x42 ∷ 0x00 ∷ 0x01 ∷ 0x08 ∷ 0x00 ∷ 0x00 ∷ 0x00 ∷ 0x00 ∷ 0x45 ∷ 0x4E ∷ []

-- A's annotation: automaton states 0 to 3, eight composed states each
abbrev pub annotation_a : List ℕ
annotation_a = replicate 8 0 ++ replicate 4 2 ++ replicate 4 1 ++ replicate 4 1 ++ replicate 4 2 ++ replicate 8 blank

-- what the finding program prints for A
abbrev pub text_a : List ℕ
text_a = ascii "tables 2\n0 0 04 1 1 1 1\n0 1 08 0 0 0 0\ngreatest 2\n"

-- D's book: each process grants in one of its two states, and they take turns
abbrev pub book_d : List ℕ
book_d =
    0x54 ∷ 0x42 ∷ 0 ∷ 0 ∷ 4 ∷ 1 ∷ 1 ∷ 0x54 ∷ 0x42 ∷ 0 ∷ 1 ∷ 0 ∷ 0 ∷ 0
    ∷ 0x54 ∷ 0x42 ∷ 1 ∷ 0 ∷ 0 ∷ 1 ∷ 1 ∷ 0x54 ∷ 0x42 ∷ 1 ∷ 1 ∷ 8 ∷ 0 ∷ 0 ∷ 0x45 ∷ 0x4E ∷ []

-- E's book
abbrev pub book_e : List ℕ
book_e = 0x54 ∷ 0x42 ∷ 0 ∷ 0 ∷ 0 ∷ 0 ∷ 0x45 ∷ 0x4E ∷ []

-- a book for S, with these output masks
abbrev pub book_s : ℕ → ℕ → List ℕ
book_s m₀ m₁ = 0x54 ∷ 0x42 ∷ 0 ∷ 0 ∷ m₀ ∷ 0 ∷ 0x54 ∷ 0x42 ∷ 1 ∷ 0 ∷ m₁ ∷ 0 ∷ 0x45 ∷ 0x4E ∷ []

-- P's book: each process puts out what it reads
abbrev pub book_p : List ℕ
book_p =
    0x54 ∷ 0x42 ∷ 0 ∷ 0 ∷ 0 ∷ 0 ∷ 1 ∷ 0x54 ∷ 0x42 ∷ 0 ∷ 1 ∷ 2 ∷ 0 ∷ 1
    ∷ 0x54 ∷ 0x42 ∷ 1 ∷ 0 ∷ 0 ∷ 0 ∷ 1 ∷ 0x54 ∷ 0x42 ∷ 1 ∷ 1 ∷ 4 ∷ 0 ∷ 1 ∷ 0x45 ∷ 0x4E ∷ []

-- P's annotation: 2 of its 16 vertices are reached, automaton state 0 with all variables clear and with all set
abbrev pub annotation_p : List ℕ
annotation_p = 0 ∷ replicate 6 blank ++ (0 ∷ replicate 8 blank)

-- ---- the greatest sizes
-- a PM with four inputs, two outputs and four states
abbrev full : ℕ → ℕ → ℕ → Process
full inputs outputs prompts = record { inputs = inputs; outputs = outputs; bound = 4; prompts = prompts; prompted = true }

-- an edge of this kind between the last state and the first, with all variables in its masks
abbrev wide : Bool → Edge
wide unless = record { from = 15; to = 0; on = 0x0F; off = 0xF0; unless = unless }

-- a tie of these two
abbrev pub both : ℕ → ℕ → Tie
both left right = record { left = left; right = right }

-- 8 variables, none of the environment; four processes that own two each and read four of the others, three of them tied, with two prompt inputs each; 16 automaton states, 64 edges of both kinds
unfoldable pub largest : Sheet
largest = record {
  architecture = record { variables = 8; environment = 0; root = 0; processes = full 0x3C 0x03 0x00 ∷ full 0x33 0x0C 0x03 ∷ full 0x0F 0x30 0x03 ∷ full 0x3C 0xC0 0x0C ∷ []; ties = both 1 2 ∷ both 3 1 ∷ both 2 3 ∷ [] };
  automaton = record { states = 16; initial = 15; rejecting = 0xFFFF; edges = replicate 32 (wide false) ++ replicate 32 (wide true) };
}

-- its bytes
unfoldable pub longest : List ℕ
unfolding sheet_bytes largest
longest = sheet_bytes largest

-- a choice of it: no process grants anything, and all stay in state 0
unfoldable pub longest_choice : List ℕ
longest_choice = replicate 272 0
