-- 01, "The sheet file" and refusals 1 to 7, 15 and 21 a second time, without a reader: how a sheet is written, and which rows of bytes are none.
use Rattle.std.specs.Prelude.{◌≡◌, Bool, true, ◌⊎◌, List, [], ◌∷◌, ◌++◌, ℕ, ◌/◌, ◌%◌, ◌≤◌, ◌<◌, length}
use Rattle.model.specs.declared.Refusal.{Refusal}
use Rattle.model.specs.declared.Refusal.TheVariants.{WrongMark, BadArchitecture, BadProcess, NoOwnerOrTooMany, BadAutomaton, BadEdge, BadTie, BadPrompt}
use Rattle.model.specs.Sheet.{Process, Tie, Architecture, Edge, Automaton, Sheet, with_process, with_tie, with_edge, as_pr, ProperFront, ProperArchitecture, ProperAutomaton, ProperSheet}
use Rattle.model.specs.Mask.{if}
use Rattle.model.specs.Reading.{AR, PR, PM, SY, AU, ED, EX, EN, byte}

-- ---- the records, each its mark and its fields
-- the mark of a process: PM where it is prompted, and otherwise PR
unfoldable pub process_mark : Bool → List ℕ
unfolding if
process_mark prompted = if prompted PM PR

-- PR, or PM with its prompt mask
unfoldable pub process_bytes : Process → List ℕ
unfolding process_mark if
process_bytes p = process_mark p.prompted ++ (p.inputs ∷ p.outputs ∷ p.bound ∷ if p.prompted (p.prompts ∷ []) [])

-- SY
unfoldable pub tie_bytes : Tie → List ℕ
tie_bytes t = SY ++ (t.left ∷ t.right ∷ [])

-- the mark of an edge: EX where it says unless, and otherwise ED
unfoldable pub edge_mark : Bool → List ℕ
unfolding if
edge_mark unless = if unless EX ED

-- ED or EX
unfoldable pub edge_bytes : Edge → List ℕ
unfolding edge_mark
edge_bytes e = edge_mark e.unless ++ (e.from ∷ e.to ∷ e.on ∷ e.off ∷ [])

-- AU: the rejecting mask in two bytes, low byte first
unfoldable pub states_bytes : Automaton → List ℕ
states_bytes u = AU ++ (u.states ∷ u.initial ∷ u.rejecting % 256 ∷ u.rejecting / 256 ∷ [])

-- processes in file order
unfoldable pub processes_bytes : List Process → List ℕ
unfolding process_bytes
processes_bytes [] = []
processes_bytes (p ∷ ps) = process_bytes p ++ processes_bytes ps

-- ties in file order
unfoldable pub ties_bytes : List Tie → List ℕ
unfolding tie_bytes
ties_bytes [] = []
ties_bytes (t ∷ ts) = tie_bytes t ++ ties_bytes ts

-- edges in file order
unfoldable pub edges_bytes : List Edge → List ℕ
unfolding edge_bytes
edges_bytes [] = []
edges_bytes (e ∷ es) = edge_bytes e ++ edges_bytes es

-- AR, every PR and PM and every SY
unfoldable pub front_bytes : Architecture → List ℕ
unfolding processes_bytes ties_bytes
front_bytes a = AR ++ (a.variables ∷ a.environment ∷ a.root ∷ []) ++ processes_bytes a.processes ++ ties_bytes a.ties

-- AU and every ED and EX
unfoldable pub automaton_bytes : Automaton → List ℕ
unfolding states_bytes edges_bytes
automaton_bytes u = states_bytes u ++ edges_bytes u.edges

-- all records before EN
unfoldable pub records_bytes : Sheet → List ℕ
unfolding front_bytes automaton_bytes
records_bytes s = front_bytes s.architecture ++ automaton_bytes s.automaton

-- the writing of a sheet: its records one after the other, EN the last
unfoldable pub sheet_bytes : Sheet → List ℕ
unfolding records_bytes
sheet_bytes s = records_bytes s ++ EN

-- the length of the longest sheet: AR, four PM, three SY, AU, 64 ED or EX, and EN
abbrev pub longest_sheet : ℕ
longest_sheet = 433

-- what a file holds
abbrev pub Bytes : List ℕ → Type 0
Bytes b = (i : ℕ) → byte b i < 256

-- ---- the marks that may stand behind proper records
-- behind AR, the PR and PM, and the SY: a PR or a PM up to the fourth of both together, behind no SY; behind one of them or more an SY up to the third, and AU
abbrev pub FollowsFront : Architecture → List ℕ → Type 0
FollowsFront a m =
    (((m ≡ PR) ⊎ (m ≡ PM)) × (length a.processes < 4) × (a.ties ≡ []))
    ⊎ ((m ≡ SY) × (1 ≤ length a.processes) × (length a.ties < 3))
    ⊎ ((m ≡ AU) × (1 ≤ length a.processes))

-- behind AU and the edges: an ED or an EX up to the 64th of both together, EN
abbrev pub FollowsEdges : Automaton → List ℕ → Type 0
FollowsEdges u m = (((m ≡ ED) ⊎ (m ≡ EX)) × (length u.edges < 64)) ⊎ (m ≡ EN)

-- ---- 1: the row ends within a mark, or within the record of a mark that may stand there
pub data Unfinished : List ℕ → Type 0 where
  in_first_mark : (x : List ℕ) → length x < 2 → Unfinished x
  in_architecture : (x : List ℕ) → length x < 3 → Unfinished (AR ++ x)
  in_mark_behind_front : (a : Architecture) (x : List ℕ) → ProperFront a → length x < 2 → Unfinished (front_bytes a ++ x)
  in_process : (a : Architecture) (prompted : Bool) (x : List ℕ) → ProperFront a → length a.processes < 4 → a.ties ≡ [] → length x < if prompted 4 3
      → Unfinished (front_bytes a ++ process_mark prompted ++ x)
  in_tie : (a : Architecture) (x : List ℕ) → ProperFront a → 1 ≤ length a.processes → length a.ties < 3 → length x < 2 → Unfinished (front_bytes a ++ SY ++ x)
  in_states : (a : Architecture) (x : List ℕ) → ProperFront a → 1 ≤ length a.processes → length x < 4 → Unfinished (front_bytes a ++ AU ++ x)
  in_mark_behind_edges : (s : Sheet) (x : List ℕ) → ProperSheet s → length x < 2 → Unfinished (records_bytes s ++ x)
  in_edge : (s : Sheet) (unless : Bool) (x : List ℕ) → ProperSheet s → length s.automaton.edges < 64 → length x < 4 → Unfinished (records_bytes s ++ edge_mark unless ++ x)

-- ---- 2 to 7, 15 and 21: the row ends with its first faulty record, which makes the proper ones before it improper
pub data Faulty : List ℕ → Refusal → Type 0 where
  wrong_first_mark : (m : List ℕ) → length m ≡ 2 → ¬ (m ≡ AR) → Faulty m WrongMark
  bad_architecture : (a : Architecture) → a.processes ≡ [] → a.ties ≡ [] → ¬ ProperFront a → Faulty (front_bytes a) BadArchitecture
  wrong_mark_behind_front : (a : Architecture) (m : List ℕ) → ProperFront a → length m ≡ 2 → ¬ FollowsFront a m → Faulty (front_bytes a ++ m) WrongMark
  bad_process : (a : Architecture) (p : Process) → ProperFront a → length a.processes < 4 → a.ties ≡ [] → ¬ ProperFront (with_process a (as_pr p))
      → Faulty (front_bytes a ++ process_bytes p) BadProcess
  bad_prompt : (a : Architecture) (p : Process) → ProperFront a → length a.processes < 4 → a.ties ≡ [] → p.prompted ≡ true → ProperFront (with_process a (as_pr p))
      → ¬ ProperFront (with_process a p) → Faulty (front_bytes a ++ process_bytes p) BadPrompt
  bad_tie : (a : Architecture) (t : Tie) → ProperFront a → 1 ≤ length a.processes → length a.ties < 3 → ¬ ProperFront (with_tie a t) → Faulty (front_bytes a ++ tie_bytes t) BadTie
  no_owner_or_too_many : (a : Architecture) (u : Automaton) → ProperFront a → 1 ≤ length a.processes → ¬ ProperArchitecture a → Faulty (front_bytes a ++ states_bytes u) NoOwnerOrTooMany
  bad_automaton : (a : Architecture) (u : Automaton) → ProperArchitecture a → u.edges ≡ [] → ¬ ProperAutomaton a.variables u → Faulty (front_bytes a ++ states_bytes u) BadAutomaton
  wrong_mark_behind_edges : (s : Sheet) (m : List ℕ) → ProperSheet s → length m ≡ 2 → ¬ FollowsEdges s.automaton m → Faulty (records_bytes s ++ m) WrongMark
  bad_edge : (s : Sheet) (e : Edge) → ProperSheet s → length s.automaton.edges < 64 → ¬ ProperAutomaton s.architecture.variables (with_edge s.automaton e)
      → Faulty (records_bytes s ++ edge_bytes e) BadEdge
  byte_behind_end : (s : Sheet) (x : ℕ) → ProperSheet s → Faulty (sheet_bytes s ++ (x ∷ [])) WrongMark

-- the row begins with records up to its first faulty one, whatever follows
pub record BeginsFaulty (b : List ℕ) (r : Refusal) : Type 0 where
  pub faulty : List ℕ
  pub rest : List ℕ
  pub whole : b ≡ faulty ++ rest
  pub fault : Faulty faulty r
