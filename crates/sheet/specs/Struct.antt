-- What the structs of the code stand for in the model, and what is asked of them. These are definitions.
use Rattle.std.specs.Prelude.{◌≡◌, List, [], ℕ, ◌≤◌, length, Result, Ok, Err}
use Rattle.model.specs.declared.Refusal.{Refusal}
use Rattle.model.specs.Sheet as model
use Rattle.model.specs.Sheet.{outputs_of, composed_states, ProperFront, ProperSheet}
use Rattle.model.specs.Reading as read
use Rattle.architecture.specs.Struct as architecture
use Rattle.automaton.specs.declared.Automaton.{Automaton}
use Rattle.automaton.specs.declared.Edge.{Edge}
use Rattle.automaton.specs.Struct as automaton
use Rattle.sheet.specs.declared.Sheet.{Sheet}
use Rattle.sheet.specs.declared.FrontRead.{FrontRead}

-- the sheet of the struct
abbrev pub sheet_of : Sheet → model.Sheet
sheet_of s = record { architecture = architecture.architecture_of s.architecture; automaton = automaton.automaton_of s.automaton }

-- the struct's arrays are whole
pub record Arrays (s : Sheet) : Type 0 where
  pub architecture : architecture.Arrays s.architecture
  pub automaton : automaton.Arrays s.automaton

-- the struct holds a proper sheet
pub record IsProper (s : Sheet) : Type 0 where
  pub arrays : Arrays s
  pub proper : ProperSheet (sheet_of s)

-- the refusal, or the sheet where there is none
abbrev pub reading_of : Result Sheet Refusal → read.Reading model.Sheet
reading_of (Ok s) = read.proper (sheet_of s)
reading_of (Err r) = read.refused r

-- ---- the front
-- the front of the struct
abbrev pub front_in : FrontRead → read.Front
front_in f = record { architecture = architecture.architecture_of f.architecture; end = f.end }

-- the refusal, or the front where there is none
abbrev pub front_of : Result FrontRead Refusal → read.Reading read.Front
front_of (Ok f) = read.proper (front_in f)
front_of (Err r) = read.refused r

-- what is known of the front of these bytes
pub record FrontKnown (b : List ℕ) (f : FrontRead) : Type 0 where
  pub arrays : architecture.Arrays f.architecture
  pub proper : ProperFront (architecture.architecture_of f.architecture)
  pub inside : f.end ≤ length b
  pub owned_is : f.owned ≡ outputs_of (architecture.processes_in f.architecture)
  pub total_is : f.total ≡ composed_states f.architecture.environment (architecture.processes_in f.architecture)

-- ---- behind the front
-- the refusal, or the edge where there is none
abbrev pub edge_reading_of : Result Edge Refusal → read.Reading model.Edge
edge_reading_of (Ok e) = read.proper (automaton.edge_of e)
edge_reading_of (Err r) = read.refused r

-- the refusal, or no edge more where there is none
abbrev pub end_reading_of : Result (Unit {0}) Refusal → read.Reading (List model.Edge)
end_reading_of (Ok _) = read.proper []
end_reading_of (Err r) = read.refused r

-- the refusal, or the automaton where there is none
abbrev pub automaton_reading_of : Result Automaton Refusal → read.Reading model.Automaton
automaton_reading_of (Ok u) = read.proper (automaton.automaton_of u)
automaton_reading_of (Err r) = read.refused r
