-- Small examples beside the bench cases, whose rows are constant and whose roots are 0: each refuses a definition that all bench cases would let pass.
use Rattle.std.specs.Prelude.{◌≡◌, true, false, List, [], ◌∷◌, ◌++◌, map, ℕ, length, replicate, take, Ok}
use Rattle.model.specs.declared.Finding.TheVariants.{Yes, No}
use Rattle.model.specs.Mask.{pack}
use Rattle.model.specs.Sheet.{Process, Tie, Architecture, Edge, Sheet}
use Rattle.model.specs.Reading.{proper, read_front}
use Rattle.model.specs.SheetFile.{process_bytes, sheet_bytes}
use Rattle.model.specs.Compose.{Composed, reads, step, initial, T, number, composed}
use Rattle.model.specs.Choice.{Entry, output, next, entries, table_of, keeps_ties, lowered, pad_rows, padded}
use Rattle.model.specs.RunGraph.{start, meets, met}
use Rattle.model.specs.Computed.{successors}
use Rattle.model.specs.Calls.{check_of, find_of, judge_of, annotate_of, write_of, read_of, part_of}
use Rattle.model.specs.Demands.{read_by, next_of}
use Rattle.model.specs.Numbers.{reply_code, verdict_code, outcome_code}
use Rattle.model.specs.BenchCases.{sheet_a, sheet_e, edge, sheet_s, tie_s, choice_a, book_a, annotation_a, book_e, book_s, both, longest}
use Rattle.starred.specs.Table.{buffer, found, annotated, looped}

-- ---- processes
-- a PR
abbrev pub plain : (inputs outputs bound : ℕ) → Process
plain inputs outputs bound = record { inputs = inputs; outputs = outputs; bound = bound; prompts = 0x00; prompted = false }

-- a PM
abbrev pub prompt : (inputs outputs bound prompts : ℕ) → Process
prompt inputs outputs bound prompts = record { inputs = inputs; outputs = outputs; bound = bound; prompts = prompts; prompted = true }

-- ---- two processes that read each other
-- variable 0 is the environment's and 1 at the start; process 0 reads variables 0 and 2, and process 1 variable 1
abbrev pub first : Process
first = plain 0x05 0x02 2

abbrev pub second : Process
second = plain 0x02 0x04 3

abbrev pub pair : Architecture
pair = record { variables = 3; environment = 1; root = 1; processes = first ∷ second ∷ []; ties = [] }

-- a process without variables, of two states
abbrev pub two : Process
two = plain 0x00 0x00 2

-- a choice of tables for the pair
abbrev pub tables : List ℕ
tables =
    -- process 0: two states, four next states each
    0x00 ∷ 0 ∷ 0 ∷ 1 ∷ 0
    ∷ 0x02 ∷ 1 ∷ 0 ∷ 0 ∷ 1
    -- process 1: three states, two next states each
    ∷ 0x00 ∷ 1 ∷ 2
    ∷ 0x04 ∷ 2 ∷ 0
    ∷ 0x00 ∷ 0 ∷ 1
    ∷ []

-- the environment's value and the states of both
abbrev pub at : ℕ → ℕ → ℕ → Composed
at environment x y = record { environment = environment; states = x ∷ y ∷ [] }

-- an automaton over them: from its initial state 2 an edge that asks for variable 2 without 1, and one that asks for variable 1
abbrev pub watched : Sheet
watched = record {
  architecture = pair;
  automaton = record {
    states = 3;
    initial = 2;
    rejecting = 0x01;
    edges = record { from = 2; to = 1; on = 0x04; off = 0x02; unless = false } ∷ record { from = 2; to = 0; on = 0x02; off = 0x00; unless = false } ∷ [];
  };
}

-- ---- prompt inputs
-- process 0 reads variable 0, of the environment, and 3, of process 2; behind it process 1 reads variables 0 and 1, and process 2 variables 1 and 2
abbrev pub wires : List Process → Architecture
wires behind = record { variables = 4; environment = 1; root = 0; processes = plain 0x09 0x02 4 ∷ behind; ties = [] }

-- both as PM with these prompt masks
abbrev pub prompted : ℕ → ℕ → Architecture
prompted prompts₁ prompts₂ = wires (prompt 0x03 0x04 4 prompts₁ ∷ prompt 0x06 0x08 4 prompts₂ ∷ [])

-- both as PR
abbrev pub delayed : Architecture
delayed = wires (plain 0x03 0x04 4 ∷ plain 0x06 0x08 4 ∷ [])

-- no variable, and this process alone
abbrev pub lone : Process → Architecture
lone p = record { variables = 0; environment = 0; root = 0; processes = p ∷ []; ties = [] }

-- a row with this mask, whose next state is the index of what is read
abbrev pub noted : ℕ → List ℕ
noted mask = mask ∷ 0 ∷ 1 ∷ 2 ∷ 3 ∷ []

-- tables of such rows: process 0 puts out what it has read of variable 0, the others what they have read of variable 1
abbrev pub notes : List ℕ
notes =
    noted 0x00 ++ noted 0x02 ++ noted 0x00 ++ noted 0x02
    ++ noted 0x00 ++ noted 0x00 ++ noted 0x04 ++ noted 0x04
    ++ noted 0x00 ++ noted 0x08 ++ noted 0x00 ++ noted 0x08

-- the environment's value and the states of all three
abbrev pub at_all : ℕ → ℕ → ℕ → ℕ → Composed
at_all environment x y z = record { environment = environment; states = x ∷ y ∷ z ∷ [] }

-- ---- tied processes
-- processes 0 and 2 have masks of other shapes; process 1, between them, has more entries
abbrev pub benches : List Tie → Architecture
benches ties = record { variables = 6; environment = 1; root = 0; processes = plain 0x01 0x06 2 ∷ plain 0x00 0x10 4 ∷ plain 0x02 0x28 2 ∷ []; ties = ties }

-- processes 0 and 2 tied
abbrev pub tied : Architecture
tied = benches (both 0 2 ∷ [])

-- tables for them, with these entries of process 2
abbrev pub with_last : List ℕ → List ℕ
with_last entries =
    0x02 ∷ 0 ∷ 1 ∷ 0x06 ∷ 1 ∷ 0
    ∷ 0x10 ∷ 3 ∷ 0x00 ∷ 2 ∷ 0x10 ∷ 1 ∷ 0x00 ∷ 0
    ∷ entries

-- the entries with which process 2 has the table of process 0
abbrev pub alike : List ℕ
alike = 0x08 ∷ 0 ∷ 1 ∷ 0x28 ∷ 1 ∷ 0 ∷ []

-- a process without inputs, of one state
abbrev pub owner : ℕ → Process
owner outputs = plain 0x00 outputs 1

-- three processes in a chain
abbrev pub chained : Architecture
chained = record { variables = 3; environment = 0; root = 0; processes = owner 0x01 ∷ owner 0x02 ∷ owner 0x04 ∷ []; ties = both 0 1 ∷ both 2 1 ∷ [] }

-- their tables, with these masks
abbrev pub masks : ℕ → ℕ → ℕ → List ℕ
masks m₀ m₁ m₂ = m₀ ∷ 0 ∷ m₁ ∷ 0 ∷ m₂ ∷ 0 ∷ []

-- ---- sheets and books as bytes
-- AR: variables, environment variables, root mask
abbrev pub ar : ℕ → ℕ → ℕ → List ℕ
ar variables environment root = 0x41 ∷ 0x52 ∷ variables ∷ environment ∷ root ∷ []

-- PR: input mask, output mask, bound
abbrev pub pr : ℕ → ℕ → ℕ → List ℕ
pr inputs outputs bound = 0x50 ∷ 0x52 ∷ inputs ∷ outputs ∷ bound ∷ []

-- PM: the same, and the prompt mask
abbrev pub pm : ℕ → ℕ → ℕ → ℕ → List ℕ
pm inputs outputs bound prompts = 0x50 ∷ 0x4D ∷ inputs ∷ outputs ∷ bound ∷ prompts ∷ []

-- SY: two processes
abbrev pub sy : ℕ → ℕ → List ℕ
sy left right = 0x53 ∷ 0x59 ∷ left ∷ right ∷ []

-- AU: states, initial state, rejecting mask below 256
abbrev pub au : ℕ → ℕ → ℕ → List ℕ
au states start rejecting = 0x41 ∷ 0x55 ∷ states ∷ start ∷ rejecting ∷ 0 ∷ []

-- ED: from, to, on mask, off mask
abbrev pub ed : ℕ → ℕ → ℕ → ℕ → List ℕ
ed from to on off = 0x45 ∷ 0x44 ∷ from ∷ to ∷ on ∷ off ∷ []

-- EX: the same fields
abbrev pub ex : ℕ → ℕ → ℕ → ℕ → List ℕ
ex from to on off = 0x45 ∷ 0x58 ∷ from ∷ to ∷ on ∷ off ∷ []

-- EN
abbrev pub en : List ℕ
en = 0x45 ∷ 0x4E ∷ []

-- TB of process 0: state, output mask, its only next state
abbrev pub tb : ℕ → ℕ → ℕ → List ℕ
tb x mask to = 0x54 ∷ 0x42 ∷ 0 ∷ x ∷ mask ∷ to ∷ []

-- one process without inputs that owns variable 0, and a rejecting state that is entered again while variable 0 is set
abbrev pub climb : List ℕ
climb = ar 1 0 0 ++ pr 0 1 4 ++ au 1 0 1 ++ ed 0 0 1 0 ++ en

-- its process goes through four states and sets variable 0 in all but the last
abbrev pub climbing : List ℕ
climbing = tb 0 1 1 ++ tb 1 1 2 ++ tb 2 1 3 ++ tb 3 0 3 ++ en

-- case J: four environment variables, two processes of bound 4, then these records
abbrev pub sheet_j : List ℕ → List ℕ
sheet_j more = ar 4 4 0 ++ pr 0 0 4 ++ pr 0 0 4 ++ more ++ au 1 0 0 ++ en

-- three environment variables, one automaton state, and behind AU these bytes
abbrev pub behind_au : List ℕ → List ℕ
behind_au more = ar 3 3 0 ++ pr 0 0 1 ++ au 1 0 0 ++ more

-- case A, whose two waiting edges say `unless granted`
abbrev pub waiting : List ℕ
waiting = ar 4 2 0 ++ pr 0x03 0x0C 2 ++ au 4 0 0x0E ++ ed 0 0 0 0 ++ ed 0 3 0x0C 0 ++ ed 0 1 0x01 0 ++ ed 0 2 0x02 0 ++ ex 1 1 0x04 0 ++ ex 2 2 0x08 0 ++ ed 3 3 0 0 ++ en

-- AR and PR of the three benches, and behind them these bytes
abbrev pub behind_pr : List ℕ → List ℕ
behind_pr more = ar 6 1 0 ++ pr 0x01 0x06 2 ++ pr 0x00 0x10 4 ++ pr 0x02 0x28 2 ++ more

-- processes that differ from process 0 in the bound, in the number of inputs, and in the number of outputs; behind them a tie
abbrev pub unalike : ℕ → ℕ → List ℕ
unalike left right = ar 8 1 0 ++ pr 0x01 0x06 2 ++ pr 0x01 0x18 3 ++ pr 0x03 0x60 2 ++ pr 0x01 0x80 2 ++ sy left right

-- the front of `prompted`
abbrev pub front_of : ℕ → ℕ → List ℕ
front_of prompts₁ prompts₂ = ar 4 1 0 ++ pr 0x09 0x02 4 ++ pm 0x03 0x04 4 prompts₁ ++ pm 0x06 0x08 4 prompts₂

-- variable 0 is the environment's, 1 of process 0, and 2 and 3 have no owner yet; behind the PR these bytes
abbrev pub behind_owner : List ℕ → List ℕ
behind_owner more = ar 4 1 0 ++ pr 0x01 0x02 1 ++ more

-- a row of four processes of both kinds, and behind them these bytes
abbrev pub behind_four : List ℕ → List ℕ
behind_four more = ar 0 0 0 ++ pr 0 0 1 ++ pm 0 0 1 0 ++ pr 0 0 1 ++ pm 0 0 1 0 ++ more

-- variables 0 and 1 are of process 0; behind it these two, which are tied and own variables 2 and 3
abbrev pub tied_behind : List ℕ → List ℕ
tied_behind records = ar 4 0 0 ++ pr 0x00 0x03 1 ++ records ++ sy 1 2 ++ au 1 0 0 ++ en

-- case S
abbrev pub case_s : List ℕ
case_s = sheet_s tie_s []

-- a book for it that breaks the tie
abbrev pub broken : List ℕ
broken = book_s 0x01 0x08

-- the same, with another last byte
abbrev pub malformed : List ℕ
malformed = take 13 broken ++ (0x4F ∷ [])

-- an EX from state 1, with these masks
abbrev pub unless : ℕ → ℕ → Edge
unless on off = record { from = 1; to = 0; on = on; off = off; unless = true }

-- case E
abbrev pub case_e : List ℕ
case_e = sheet_e 1 1 0 []

-- case F with bound 1, where find says `none`
abbrev pub case_f : List ℕ
case_f = sheet_e 1 1 1 (edge 0 0)

-- a row: a mask within these outputs, then so many next states below this bound
abbrev pub row_of : ℕ → ℕ → ℕ → List Entry
row_of outputs indexes bound = output outputs ∷ replicate indexes (next bound)

-- ---- what the definitions must give
pub record Pinned : Type 0 where
  -- an index: not the highest variable first (1), not the bits where they stand (8), not all bits (12)
  pub index_rises : pack 0x0B 0x0C ≡ 4
  -- of all 8 variables, not of the lower ones alone
  pub index_of_eight : pack 0xF0 0x80 ≡ 8
  -- T: the product of the bounds and not their sum, and the environment's values too
  pub states_multiply : T pair ≡ 12
  -- the number: not the last process lowest (5), not the environment highest (10), not with the bounds turned round (13)
  pub numbered : number pair (at 1 0 2) ≡ 9
  -- and back
  pub unnumbered : composed pair 9 ≡ at 1 0 2
  -- the root mask, not 0
  pub root_kept : initial pair ≡ at 1 0 0
  -- the direction is new and the outputs are old: not the present environment (0), nor the outputs after the step (0, 0)
  pub stepped : step pair tables (at 1 0 1) 0 ≡ at 0 1 2
  -- what is read: prompt inputs from the new values, all others from the old ones, whatever the other values are
  pub reads_both : reads (prompt 0x0F 0x10 1 0x0F) 0xAA 0xCC ≡ 0xAC
  pub reads_old : reads (prompt 0x0F 0x10 1 0x00) 0xAA 0xCC ≡ 0xAA
  -- a value that rises: process 1 reads variable 1 as it is after the step, and process 2 as it was before, but variable 2 after the step, all by one direction
  pub chain_risen : step (prompted 0x02 0x04) notes (at_all 0 0 0 0) 1 ≡ at_all 1 1 3 2
  -- values that fall: not the old ones, nor old and new joined; process 0 reads variable 3 as it was
  pub chain_fallen : step (prompted 0x02 0x04) notes (at_all 1 1 2 1) 0 ≡ at_all 0 2 0 1
  -- the new outputs of both, not of the process before alone
  pub both_new : step (prompted 0x02 0x06) notes (at_all 0 0 0 0) 1 ≡ at_all 1 1 3 3
  -- a PM with mask 00 steps as a PR
  pub none_prompt : step (prompted 0x00 0x00) notes (at_all 0 0 2 0) 1 ≡ at_all 1 1 1 2
  pub as_PR : step delayed notes (at_all 0 0 2 0) 1 ≡ at_all 1 1 1 2
  -- what process 2 reads in the first of these steps: variables 0 and 2, and not 1; and a next state, from the row of the process's own state
  pub read_by_lem : read_by (prompted 0x02 0x04) notes (at_all 0 0 0 0) 1 2 ≡ 0x05
  pub next_of_lem : next_of pair tables (at 1 0 1) 1 0x05 ≡ 2
  -- entries: the states of a process together, not those of all processes; in a row the mask first
  pub entries_in_order : entries pair ≡ row_of 0x02 4 2 ++ row_of 0x02 4 2 ++ row_of 0x04 2 3 ++ row_of 0x04 2 3 ++ row_of 0x04 2 3
  -- fewer states: the rows of zeros stand behind those of their process, not before them and not behind all
  pub zeros_behind : padded pair (1 ∷ 2 ∷ []) (2 ∷ 1 ∷ 0 ∷ 0 ∷ 1 ∷ 4 ∷ 2 ∷ 0 ∷ 4 ∷ 0 ∷ 1 ∷ [])
      ≡ 2 ∷ 1 ∷ 0 ∷ 0 ∷ 1 ∷ 0 ∷ 0 ∷ 0 ∷ 0 ∷ 0 ∷ 4 ∷ 2 ∷ 0 ∷ 4 ∷ 0 ∷ 1 ∷ 0 ∷ 0 ∷ 0 ∷ []
  -- a bound that is higher: no row is taken from the next process
  pub own_rows : pad_rows (replicate 3 two) (3 ∷ 1 ∷ 1 ∷ []) (0 ∷ 1 ∷ 0 ∷ 1 ∷ 0 ∷ 1 ∷ 0 ∷ 1 ∷ []) ≡ 0 ∷ 1 ∷ 0 ∷ 1 ∷ 0 ∷ 1 ∷ 0 ∷ 0 ∷ 0 ∷ 1 ∷ 0 ∷ 0 ∷ []
  -- a bound is lowered and never raised
  pub never_raised : lowered (first ∷ second ∷ []) (5 ∷ 1 ∷ []) ≡ first ∷ plain 0x02 0x04 1 ∷ []
  -- the prompt inputs stay, and the kind
  pub prompts_kept : lowered (prompt 0x03 0x04 2 0x02 ∷ prompt 0x00 0x08 2 0x00 ∷ []) (1 ∷ 1 ∷ []) ≡ prompt 0x03 0x04 1 0x02 ∷ prompt 0x00 0x08 1 0x00 ∷ []
  -- a table: masks packed to the process's own outputs, not as they stand nor moved down; next states as they are
  pub packed_first : table_of tied (with_last alike) 0 ≡ 1 ∷ 0 ∷ 1 ∷ 3 ∷ 1 ∷ 0 ∷ []
  pub packed_last : table_of tied (with_last (0x20 ∷ 0 ∷ 1 ∷ 0x08 ∷ 1 ∷ 1 ∷ [])) 2 ≡ 2 ∷ 0 ∷ 1 ∷ 1 ∷ 1 ∷ 1 ∷ []
  -- of the process's own length; nothing where there is no such process
  pub own_table : table_of tied (with_last alike) 1 ≡ 1 ∷ 3 ∷ 0 ∷ 2 ∷ 1 ∷ 1 ∷ 0 ∷ 0 ∷ []
  pub no_table : table_of tied (with_last alike) 3 ≡ []
  -- the tie is kept, and process 1 is free
  pub tie_kept : keeps_ties tied (with_last alike) ≡ true
  -- it is broken by a mask with as many bits, by the mask of a later state, and by the last next state alone
  pub mask_differs : keeps_ties tied (with_last (0x20 ∷ 0 ∷ 1 ∷ 0x28 ∷ 1 ∷ 0 ∷ [])) ≡ false
  pub later_mask_differs : keeps_ties tied (with_last (0x08 ∷ 0 ∷ 1 ∷ 0x20 ∷ 1 ∷ 0 ∷ [])) ≡ false
  pub last_next_differs : keeps_ties tied (with_last (0x08 ∷ 0 ∷ 1 ∷ 0x28 ∷ 1 ∷ 1 ∷ [])) ≡ false
  -- a next state at each place, not the same ones in another order
  pub place_by_place : keeps_ties tied (with_last (0x08 ∷ 1 ∷ 0 ∷ 0x28 ∷ 1 ∷ 0 ∷ [])) ≡ false
  -- a chain: all, the first alone broken, the last alone broken
  pub chain_kept : keeps_ties chained (masks 1 2 4) ≡ true
  pub chain_broken_first : keeps_ties chained (masks 0 2 4) ≡ false
  pub chain_broken_last : keeps_ties chained (masks 1 2 0) ≡ false
  -- fewer states: the tables that they stand for keep the tie, also where the bounds differ
  pub padded_kept : keeps_ties tied (padded tied (2 ∷ 1 ∷ 1 ∷ []) (2 ∷ 0 ∷ 0 ∷ 0 ∷ 0 ∷ 0 ∷ 0x10 ∷ 0 ∷ 8 ∷ 0 ∷ 0 ∷ [])) ≡ true
  -- the initial automaton state, not 0, with the root mask, not 0
  pub starts : start watched ≡ 25
  -- none of the off mask, where the label has one bit of two
  pub off_needs_none : meets (record { from = 0; to = 0; on = 0x00; off = 0x03; unless = false }) 0x05 ≡ false
  -- unless two: met where one of them is missing, and not only where both are
  pub unless_one_missing : meets (unless 0x03 0x00) 0x01 ≡ true
  -- where all of on is there, but something of off too
  pub unless_off_there : meets (unless 0x01 0x02) 0x03 ≡ true
  -- and where neither is
  pub unless_neither : meets (unless 0x01 0x02) 0x00 ≡ true
  -- at other automaton states it is not met
  pub unless_elsewhere : met (unless 0x01 0x00) 0 0x00 ≡ false
  -- waiting while not granted is waiting unless granted
  pub waits_unless : annotate_of waiting book_a (buffer 32) (buffer 128) ≡ annotated annotation_a
  -- case F with its edge as an EX: masks 00 are never met
  pub never_met : find_of (sheet_e 1 1 1 (ex 0 0 0 0)) (buffer 8) (buffer 1) ≡ found book_e (1 ∷ [])
  -- from automaton state 2 at (1, 0, 1): the label before the step (05) meets the first edge only; both directions
  pub follows : successors watched tables 29 ≡ 22 ∷ 21 ∷ []
  -- each entry counts, the one at the start too: 4 with one rejecting state, which is T times the rejecting states
  pub counts_each : annotate_of climb climbing (buffer 4) (buffer 16) ≡ annotated (1 ∷ 2 ∷ 3 ∷ 4 ∷ [])
  -- the start's entry is that of its automaton state: not that of state 0, nor of the state with the composed state's number
  pub start_counts : annotate_of (ar 1 1 1 ++ pr 0 0 1 ++ au 3 2 4 ++ en) book_e (buffer 6) (buffer 24) ≡ annotated (replicate 5 65535 ++ (1 ∷ []))
  -- a rejecting state only on the way to a loop is no fault
  pub on_the_way : annotate_of (sheet_e 1 2 1 (edge 0 1 ++ edge 1 1)) book_e (buffer 2) (buffer 8) ≡ annotated (1 ∷ 1 ∷ [])
  -- a loop that can't be reached is no fault; its vertex is blank, and the rest of the buffer is left
  pub unreached : annotate_of (sheet_e 1 2 2 (edge 1 1)) book_e (buffer 3) (buffer 8) ≡ annotated (0 ∷ 65535 ∷ 7 ∷ [])
  -- a loop of two steps, rejecting at one of them
  pub longer_loop : annotate_of (sheet_e 1 2 2 (edge 0 1 ++ edge 1 0)) book_e (buffer 2) (buffer 8) ≡ looped 2
  -- 65534 is a number
  pub greatest_number : judge_of case_e book_e (65534 ∷ []) ≡ Ok Yes
  -- the initial vertex isn't blank
  pub start_numbered : judge_of case_e book_e (65535 ∷ []) ≡ Ok No
  -- a successor of a numbered vertex isn't blank
  pub successor_numbered : judge_of (sheet_e 1 2 0 (edge 0 1)) book_e (0 ∷ 65535 ∷ []) ≡ Ok No
  -- nor lower, where nothing rejects
  pub no_lower : judge_of (sheet_e 1 2 0 (edge 0 1)) book_e (1 ∷ 0 ∷ []) ≡ Ok No
  -- so too from a numbered vertex that can't be reached
  pub everywhere : judge_of (sheet_e 1 2 2 (edge 1 1)) book_e (0 ∷ 0 ∷ []) ≡ Ok No
  -- 3: more than 8 variables; more than 4 of the environment; a root bit that is not the environment's
  pub nine_variables : reply_code (check_of (ar 9 0 0)) ≡ 3
  pub five_of_environment : reply_code (check_of (ar 5 5 0)) ≡ 3
  pub root_bit_unknown : reply_code (check_of (ar 2 1 2)) ≡ 3
  -- 4: bound 0 and bound 5 (case K); five inputs
  pub bound_0 : reply_code (check_of (sheet_e 0 1 0 [])) ≡ 4
  pub bound_5 : reply_code (check_of (sheet_e 5 1 0 [])) ≡ 4
  pub five_inputs : reply_code (check_of (ar 6 4 0 ++ pr 0x1F 0x20 1)) ≡ 4
  -- case J: T is 256, proper; 5 with a third process of bound 2
  pub at_most_256 : reply_code (check_of (sheet_j [])) ≡ 0
  pub above_256 : reply_code (check_of (sheet_j (pr 0 0 2))) ≡ 5
  -- PM: with its prompt mask and its kind, six bytes; a PR has five and no prompt inputs, whatever follows; prompt inputs of two processes
  pub prompts_read : read_front (front_of 0x02 0x06) ≡ proper record { architecture = prompted 0x02 0x06; end = 22 }
  -- a PM with mask 00 is a PM too, and may be the first
  pub prompts_none : read_front (ar 0 0 0 ++ pm 0x00 0x00 1 0x00) ≡ proper record { architecture = lone (prompt 0x00 0x00 1 0x00); end = 11 }
  pub prompts_none_proper : reply_code (check_of (ar 0 0 0 ++ pm 0 0 1 0 ++ au 1 0 0 ++ en)) ≡ 0
  -- written so
  pub process_written : process_bytes (plain 0x03 0x04 2) ≡ pr 0x03 0x04 2
  pub prompts_written : process_bytes (prompt 0x03 0x04 2 0x02) ≡ pm 0x03 0x04 2 0x02
  pub prompts_none_written : process_bytes (prompt 0x03 0x04 2 0x00) ≡ pm 0x03 0x04 2 0x00
  pub sheet_written : sheet_bytes record { architecture = prompted 0x02 0x06; automaton = record { states = 1; initial = 0; rejecting = 0; edges = [] } } ≡ front_of 0x02 0x06 ++ au 1 0 0 ++ en
  -- the longest sheet has four PM
  pub longest_sheet_lem : length longest ≡ 433
  -- 21: a prompt bit that is no input, though process 0 puts it out; one of the environment beside a good one; one of a process that follows; one above all
  -- variables, beside a good one; its own output
  pub prompt_no_input : reply_code (check_of (behind_owner (pm 0x01 0x04 1 0x02))) ≡ 21
  pub prompt_of_environment : reply_code (check_of (behind_owner (pm 0x03 0x04 1 0x03))) ≡ 21
  pub prompt_of_later : reply_code (check_of (ar 3 1 0 ++ pm 0x04 0x02 1 0x04 ++ pr 0x01 0x04 1 ++ au 1 0 0 ++ en)) ≡ 21
  pub prompt_unknown : reply_code (check_of (behind_owner (pm 0x02 0x04 1 0x12))) ≡ 21
  pub prompt_own : reply_code (check_of (behind_owner (pm 0x02 0x04 1 0x04))) ≡ 21
  -- 4 before 21: a field, and an output that is taken
  pub field_before_prompt : reply_code (check_of (behind_owner (pm 0x01 0x04 0 0x02))) ≡ 4
  pub taken_before_prompt : reply_code (check_of (behind_owner (pm 0x01 0x02 1 0x08))) ≡ 4
  -- 21 before what is wrong with a process behind it, before 15 and before 5
  pub prompt_before_process : reply_code (check_of (behind_owner (pm 0x01 0x04 1 0x02 ++ pr 0x00 0x08 0))) ≡ 21
  pub prompt_before_tie : reply_code (check_of (behind_owner (pm 0x01 0x04 1 0x02 ++ sy 0 0))) ≡ 21
  pub prompt_before_owner : reply_code (check_of (behind_owner (pm 0x01 0x04 1 0x02 ++ au 1 0 0))) ≡ 21
  -- 1: a PM cut off anywhere, whatever its fields
  pub prompted_cut : map (λ n. reply_code (check_of (behind_owner (take n (pm 0x80 0x02 9 0x80))))) (0 ∷ 1 ∷ 2 ∷ 3 ∷ 4 ∷ 5 ∷ 6 ∷ []) ≡ replicate 6 1 ++ (4 ∷ [])
  -- four of both kinds; 2: a fifth of either kind, whatever its fields, or cut off; a PM behind an SY
  pub four_processes : reply_code (check_of (behind_four (au 1 0 0 ++ en))) ≡ 0
  pub fifth_prompted : reply_code (check_of (behind_four (pm 9 9 9 9))) ≡ 2
  pub fifth_prompted_cut : reply_code (check_of (behind_four (take 2 (pm 0 0 1 0)))) ≡ 2
  pub fifth_plain : reply_code (check_of (behind_four (pr 9 9 9))) ≡ 2
  pub fifth_plain_cut : reply_code (check_of (behind_four (take 2 (pr 0 0 1)))) ≡ 2
  pub prompted_behind_tie : reply_code (check_of (behind_pr (sy 0 2 ++ take 2 (pm 0 0 1 0)))) ≡ 2
  -- ties: in file order, with other masks, their numbers in either order, and repeated
  pub ties_read : read_front (behind_pr (sy 2 0 ++ sy 0 2 ++ sy 0 2)) ≡ proper record { architecture = benches (both 2 0 ∷ both 0 2 ∷ both 0 2 ∷ []); end = 32 }
  -- three of them, in a circle
  pub circle_of_ties : reply_code (check_of (ar 0 0 0 ++ pr 0 0 1 ++ pr 0 0 1 ++ pr 0 0 1 ++ sy 0 1 ++ sy 1 2 ++ sy 2 0 ++ au 1 0 0 ++ en)) ≡ 0
  -- 15: unequal bounds, counts of inputs, counts of outputs, also where tables would have as many entries; one process twice; a process that there is not
  pub bounds_differ : reply_code (check_of (unalike 0 1)) ≡ 15
  pub inputs_differ : reply_code (check_of (unalike 0 2)) ≡ 15
  pub outputs_differ : reply_code (check_of (unalike 3 0)) ≡ 15
  pub lengths_agree : reply_code (check_of (ar 1 1 0 ++ pr 0x00 0x00 3 ++ pr 0x01 0x00 2 ++ sy 0 1)) ≡ 15
  pub same_process : reply_code (check_of (unalike 1 1)) ≡ 15
  pub no_left : reply_code (check_of (unalike 4 0)) ≡ 15
  pub no_right : reply_code (check_of (unalike 0 4)) ≡ 15
  pub neither : reply_code (check_of (unalike 4 5)) ≡ 15
  -- unequal places of prompt inputs, though it is one variable; a prompt input that the other has not
  pub places_differ : reply_code (check_of (tied_behind (pm 0x03 0x04 1 0x02 ++ pm 0x06 0x08 1 0x02))) ≡ 15
  pub prompt_alone : reply_code (check_of (tied_behind (pm 0x03 0x04 1 0x02 ++ pm 0x03 0x08 1 0x00))) ≡ 15
  -- proper: prompt inputs at equal places, of other variables; a PM without prompt inputs, and a PR
  pub places_agree : reply_code (check_of (tied_behind (pm 0x03 0x04 1 0x02 ++ pm 0x05 0x08 1 0x04))) ≡ 0
  pub kinds_differ : reply_code (check_of (tied_behind (pm 0x03 0x04 1 0x00 ++ pr 0x06 0x08 1))) ≡ 0
  -- 15 before 5
  pub tie_before_owner : reply_code (check_of (ar 1 0 0 ++ pr 0 0 1 ++ sy 0 0 ++ au 1 0 0)) ≡ 15
  -- 1: a third SY that is cut off, whatever its first number
  pub tie_cut : reply_code (check_of (behind_pr (sy 0 2 ++ sy 0 2 ++ take 3 (sy 9 0)))) ≡ 1
  -- 2: a fourth SY, whatever its numbers, or cut off; an SY before any PR; a PR behind an SY; an SY behind AU
  pub fourth_tie : reply_code (check_of (behind_pr (sy 0 2 ++ sy 0 2 ++ sy 0 2 ++ sy 9 9))) ≡ 2
  pub fourth_tie_cut : reply_code (check_of (behind_pr (sy 0 2 ++ sy 0 2 ++ sy 0 2 ++ take 2 (sy 0 2)))) ≡ 2
  pub tie_first : reply_code (check_of (ar 0 0 0 ++ sy 0 0)) ≡ 2
  pub tie_first_cut : reply_code (check_of (ar 0 0 0 ++ take 2 (sy 0 0))) ≡ 2
  pub process_behind_tie : reply_code (check_of (behind_pr (sy 0 2 ++ take 2 (pr 0 0 1)))) ≡ 2
  pub tie_behind_automaton : reply_code (check_of (behind_pr (au 1 0 0 ++ take 2 (sy 0 2)))) ≡ 2
  -- 5 before 6: a variable without an owner, and no automaton state
  pub five_before_six : reply_code (check_of (ar 1 0 0 ++ pr 0 0 1 ++ au 0 0 0)) ≡ 5
  -- 6: more than 16 automaton states
  pub seventeen_states : reply_code (check_of (sheet_e 1 17 0 [])) ≡ 6
  -- 7: masks that share one bit of two
  pub shared_bit : reply_code (check_of (behind_au (ed 0 0 0x03 0x06))) ≡ 7
  -- of an EX too, though it would always be met; one that is cut off is 1, whatever its fields
  pub unless_shared_bit : reply_code (check_of (behind_au (ex 0 0 0x03 0x06))) ≡ 7
  pub unless_cut : reply_code (check_of (behind_au (take 5 (ex 1 0 0 0)))) ≡ 1
  -- 8 even if the result would be `none`, and before 9
  pub book_buffer_short : outcome_code (find_of case_f (buffer 7) []).answer ≡ 8
  -- 9 for fewer numbers than T times the automaton states, not than T
  pub annotation_buffer_short : outcome_code (find_of (sheet_e 1 2 1 (edge 0 0)) (buffer 8) (buffer 1)).answer ≡ 9
  -- 10 over the whole book before 11, and that before 9
  pub book_before_entries : verdict_code (judge_of case_e (tb 0 1 1 ++ (0x45 ∷ 0x45 ∷ [])) []) ≡ 10
  pub output_outside : verdict_code (judge_of case_e (tb 0 1 0 ++ en) []) ≡ 11
  pub next_at_bound : verdict_code (judge_of case_e (tb 0 0 1 ++ en) []) ≡ 11
  pub entries_before_room : verdict_code (judge_of case_e book_e []) ≡ 9
  -- a broken tie: 11 in every call, before 9 and before 8, and behind 12 and 10
  pub broken_annotated : verdict_code (annotate_of case_s broken [] []).answer ≡ 11
  pub broken_judged : verdict_code (judge_of case_s broken []) ≡ 11
  pub broken_read : reply_code (read_of case_s broken).answer ≡ 11
  pub broken_part : reply_code (part_of case_s broken 1).answer ≡ 11
  pub broken_written : reply_code (write_of case_s (0x01 ∷ 0 ∷ 0x08 ∷ 0 ∷ []) []).answer ≡ 11
  pub broken_malformed : verdict_code (annotate_of case_s malformed [] []).answer ≡ 10
  pub broken_part_process : reply_code (part_of case_s malformed 2).answer ≡ 12
  -- what is behind the entries breaks no tie
  pub rest_not_tied : write_of case_s (0x01 ∷ 0 ∷ 0x02 ∷ 0 ∷ 1 ∷ 9 ∷ []) (buffer 15) ≡ record { answer = Ok tt; book = book_s 0x01 0x02 ++ buffer 1 }
  -- writing: 11 before 8
  pub write_entries_first : reply_code (write_of case_e (1 ∷ 0 ∷ []) []).answer ≡ 11
  pub write_room : reply_code (write_of case_e (0 ∷ 0 ∷ []) (buffer 7)).answer ≡ 8
  -- reading: 10 for one byte more; the entries at the front of 272 bytes, zeros behind them, and zeros where it is refused
  pub longer_book : reply_code (read_of case_e (book_e ++ (0 ∷ []))).answer ≡ 10
  pub tables_read : (read_of (sheet_a 2) book_a).tables ≡ choice_a ++ replicate 262 0
  pub none_read : (read_of [] []).tables ≡ replicate 272 0
  -- a part: 12 before 10, and the book is read; the process after the last is none
  pub part_process_next : reply_code (part_of case_e [] 1).answer ≡ 12
  pub part_book_last : reply_code (part_of case_e [] 0).answer ≡ 10
  -- what a C caller gets where nothing is refused: `none`, tables; no, yes
  pub code_none : outcome_code (find_of case_f (buffer 8) (buffer 1)).answer ≡ 256
  pub code_tables : outcome_code (find_of case_e (buffer 8) (buffer 1)).answer ≡ 0
  pub code_no : verdict_code (judge_of (sheet_e 1 2 2 (edge 0 1)) book_e (0 ∷ 0 ∷ [])) ≡ 256
  pub code_yes : verdict_code (judge_of (sheet_e 1 2 2 (edge 0 1)) book_e (0 ∷ 1 ∷ [])) ≡ 0
