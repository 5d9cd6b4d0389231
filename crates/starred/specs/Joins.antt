-- 01, "Two sheets as one": sheets joined, byte by byte; and what cannot be joined, each refusal beside those before and after it.
use Rattle.std.specs.Prelude.{◌≡◌, List, [], ◌∷◌, ◌++◌, ℕ, zero, suc, ◌+◌, Ok}
use Rattle.model.specs.Reading.{proper}
use Rattle.model.specs.Join.{join_bytes}
use Rattle.model.specs.Calls.{find_of, join_of}
use Rattle.model.specs.Numbers.{outcome_code, written_code}
use Rattle.model.specs.BenchCases.{sheet_a, sheet_e, edge, sheet_s, tie_s}
use Rattle.starred.specs.Table.{buffer}

-- ---- sheets
-- the machines of A
abbrev pub front_a : List ℕ
front_a = 0x41 ∷ 0x52 ∷ 0x04 ∷ 0x02 ∷ 0x00 ∷ 0x50 ∷ 0x52 ∷ 0x03 ∷ 0x0C ∷ 0x02 ∷ []

-- those of E
abbrev pub front_e : List ℕ
front_e = 0x41 ∷ 0x52 ∷ 0 ∷ 0 ∷ 0 ∷ 0x50 ∷ 0x52 ∷ 0 ∷ 0 ∷ 1 ∷ []

-- AU, with the rejecting mask in two bytes
abbrev pub states : (count initial low high : ℕ) → List ℕ
states count initial low high = 0x41 ∷ 0x55 ∷ count ∷ initial ∷ low ∷ high ∷ []

-- an ED with these masks
abbrev pub ed : (from to on off : ℕ) → List ℕ
ed from to on off = 0x45 ∷ 0x44 ∷ from ∷ to ∷ on ∷ off ∷ []

-- an EX
abbrev pub ex : (from to on off : ℕ) → List ℕ
ex from to on off = 0x45 ∷ 0x58 ∷ from ∷ to ∷ on ∷ off ∷ []

-- the end
abbrev pub end : List ℕ
end = 0x45 ∷ 0x4E ∷ []

-- with A's machines: it begins in state 1, which rejects and leads to state 0 unless variable 2 is set
abbrev pub sheet_b : List ℕ
sheet_b = front_a ++ states 2 1 0x02 0x00 ++ ex 1 0 0x04 0x00 ++ ed 0 0 0x08 0x00 ++ end

-- n edges between these states, with masks 00
abbrev pub edges : (n from to : ℕ) → List ℕ
edges zero from to = []
edges (suc n) from to = edge from to ++ edges n from to

-- E with a PM that has no prompt input
abbrev pub prompted : List ℕ
prompted = 0x41 ∷ 0x52 ∷ 0 ∷ 0 ∷ 0 ∷ 0x50 ∷ 0x4D ∷ 0 ∷ 0 ∷ 1 ∷ 0 ∷ states 1 0 0x00 0x00 ++ end

-- E with twenty edges from its state to itself, and with one
abbrev pub sheet_x : List ℕ
sheet_x = sheet_e 1 1 0 (edges 20 0 0)

abbrev pub sheet_y : List ℕ
sheet_y = sheet_e 1 1 0 (edge 0 0)

-- X with Y, and Y with Y
abbrev pub joined_xy : List ℕ
joined_xy = sheet_e 1 3 0 (edges 20 0 1 ++ edge 0 2 ++ edges 20 1 1 ++ edge 2 2)

abbrev pub joined_yy : List ℕ
joined_yy = sheet_e 1 3 0 (edge 0 1 ++ edge 0 2 ++ edge 1 1 ++ edge 2 2)

-- F with E, and E with F: the loop stands in state 1, and in state 2
abbrev pub joined_fe : List ℕ
joined_fe = sheet_e 1 3 2 (edge 0 1 ++ edge 1 1)

abbrev pub joined_ef : List ℕ
joined_ef = sheet_e 1 3 4 (edge 0 2 ++ edge 2 2)

-- the number for these two, with a buffer of this length
abbrev pub code : List ℕ → List ℕ → ℕ → ℕ
code first second n = written_code (join_of first second (buffer n)).answer

pub record JoinsPinned : Type 0 where
  -- A with A: nine states, of which 2, 3, 4, 6, 7 and 8 reject
  pub A-with-A : join_bytes (sheet_a 2) (sheet_a 2) ≡ proper (
      front_a ++ states 9 0 0xDC 0x01
      ++ ed 0 1 0x00 0x00 ++ ed 0 4 0x0C 0x00 ++ ed 0 2 0x01 0x00 ++ ed 0 3 0x02 0x00
      ++ ed 0 5 0x00 0x00 ++ ed 0 8 0x0C 0x00 ++ ed 0 6 0x01 0x00 ++ ed 0 7 0x02 0x00
      ++ ed 1 1 0x00 0x00 ++ ed 1 4 0x0C 0x00 ++ ed 1 2 0x01 0x00 ++ ed 1 3 0x02 0x00 ++ ed 2 2 0x00 0x04 ++ ed 3 3 0x00 0x08 ++ ed 4 4 0x00 0x00
      ++ ed 5 5 0x00 0x00 ++ ed 5 8 0x0C 0x00 ++ ed 5 6 0x01 0x00 ++ ed 5 7 0x02 0x00 ++ ed 6 6 0x00 0x04 ++ ed 7 7 0x00 0x08 ++ ed 8 8 0x00 0x00
      ++ end
      )
  -- A with B, and B with A: copies of the edges that leave the initial state, of their own kind; a rejecting start rejects where it now stands
  pub A-with-B : join_bytes (sheet_a 2) sheet_b ≡ proper (
      front_a ++ states 7 0 0x5C 0x00
      ++ ed 0 1 0x00 0x00 ++ ed 0 4 0x0C 0x00 ++ ed 0 2 0x01 0x00 ++ ed 0 3 0x02 0x00 ++ ex 0 5 0x04 0x00
      ++ ed 1 1 0x00 0x00 ++ ed 1 4 0x0C 0x00 ++ ed 1 2 0x01 0x00 ++ ed 1 3 0x02 0x00 ++ ed 2 2 0x00 0x04 ++ ed 3 3 0x00 0x08 ++ ed 4 4 0x00 0x00
      ++ ex 6 5 0x04 0x00 ++ ed 5 5 0x08 0x00
      ++ end
      )
  pub B-with-A : join_bytes sheet_b (sheet_a 2) ≡ proper (
      front_a ++ states 7 0 0x74 0x00
      ++ ex 0 1 0x04 0x00 ++ ed 0 3 0x00 0x00 ++ ed 0 6 0x0C 0x00 ++ ed 0 4 0x01 0x00 ++ ed 0 5 0x02 0x00
      ++ ex 2 1 0x04 0x00 ++ ed 1 1 0x08 0x00
      ++ ed 3 3 0x00 0x00 ++ ed 3 6 0x0C 0x00 ++ ed 3 4 0x01 0x00 ++ ed 3 5 0x02 0x00 ++ ed 4 4 0x00 0x04 ++ ed 5 5 0x00 0x08 ++ ed 6 6 0x00 0x00
      ++ end
      )
  -- no edges; two rejecting starts; a loop at a start
  pub E-with-E : join_bytes (sheet_e 1 1 0 []) (sheet_e 1 1 0 []) ≡ proper (front_e ++ states 3 0 0x00 0x00 ++ end)
  pub G-with-G : join_bytes (sheet_e 1 1 1 []) (sheet_e 1 1 1 []) ≡ proper (front_e ++ states 3 0 0x06 0x00 ++ end)
  pub Y-with-Y : join_bytes sheet_y sheet_y ≡ proper joined_yy
  -- 8: one byte too few, just enough, and one more, which stays
  pub too_short : (join_of (sheet_e 1 1 0 []) (sheet_e 1 1 0 []) (buffer 17)).sheet ≡ buffer 17
  pub eight : code (sheet_e 1 1 0 []) (sheet_e 1 1 0 []) 17 ≡ 8
  pub just_enough : code (sheet_e 1 1 0 []) (sheet_e 1 1 0 []) 18 ≡ 65536 + 18
  pub rest_stays : join_of (sheet_e 1 1 0 []) (sheet_e 1 1 0 []) (buffer 19) ≡ record { answer = Ok 18; sheet = front_e ++ states 3 0 0x00 0x00 ++ end ++ buffer 1 }
  -- 19: other machines; the same ones, but written otherwise
  pub other_machines : code (sheet_e 1 1 0 []) (sheet_a 2) 433 ≡ 19
  pub other_bound : code (sheet_e 1 1 0 []) (sheet_e 2 1 0 []) 433 ≡ 19
  pub other_kind : code (sheet_e 1 1 0 []) prompted 433 ≡ 19
  pub other_tie : code (sheet_s tie_s []) (sheet_s (0x53 ∷ 0x59 ∷ 0x00 ∷ 0x01 ∷ []) []) 433 ≡ 19
  -- 20: 16 states and 17; 64 edges and 66, copies counted, and edges that are not copied
  pub sixteen_joined : code (sheet_e 1 7 0 []) (sheet_e 1 8 0 []) 433 ≡ 65536 + 18
  pub seventeen_joined : code (sheet_e 1 8 0 []) (sheet_e 1 8 0 []) 433 ≡ 20
  pub sixty_four_edges : code (sheet_e 1 1 0 (edges 16 0 0)) (sheet_e 1 1 0 (edges 16 0 0)) 433 ≡ 65536 + 402
  pub sixty_six_edges : code (sheet_e 1 1 0 (edges 16 0 0)) (sheet_e 1 1 0 (edges 17 0 0)) 433 ≡ 20
  pub none_copied : code (sheet_e 1 2 0 (edges 32 1 0)) (sheet_e 1 2 0 (edges 32 1 0)) 433 ≡ 65536 + 402
  -- one grouping of three sheets alone
  pub X-with-Y : join_bytes sheet_x sheet_y ≡ proper joined_xy
  pub first_two_first : code joined_xy sheet_y 433 ≡ 20
  pub last_two_first : code sheet_x joined_yy 433 ≡ 65536 + 294
  -- in order: the first sheet's fault, the second's, 19, 20, 8
  pub first_before_second : code (sheet_e 1 0 0 []) [] 0 ≡ 6
  pub second_before_19 : code (sheet_e 1 1 0 []) (sheet_e 2 0 0 []) 0 ≡ 6
  pub nineteen_before_20 : code (sheet_e 1 8 0 []) (sheet_e 2 9 0 []) 0 ≡ 19
  pub twenty_before_8 : code (sheet_e 1 8 0 []) (sheet_e 1 8 0 []) 0 ≡ 20
  -- the loop of F is one of F with E, and of E with F
  pub F-with-E : join_bytes (sheet_e 1 1 1 (edge 0 0)) (sheet_e 1 1 0 []) ≡ proper joined_fe
  pub none_of_FE : outcome_code (find_of joined_fe (buffer 8) (buffer 3)).answer ≡ 256
  pub E-with-F : join_bytes (sheet_e 1 1 0 []) (sheet_e 1 1 1 (edge 0 0)) ≡ proper joined_ef
  pub none_of_EF : outcome_code (find_of joined_ef (buffer 8) (buffer 3)).answer ≡ 256
