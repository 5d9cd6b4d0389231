-- 01, "The sheet file": what a sheet is, and what a proper one has.
use Rattle.std.specs.Prelude.{◌≡◌, Bool, true, false, ◌||◌, ℕ, ◌-◌, ◌*◌, ◌^◌, ◌≤◌, ◌<◌, length, get_or}
use mathlib.Core.List.{List, [], ◌∷◌, ◌++◌, Memᴰ}
use Rattle.std.specs.Int.Bits.{bit_or}
use Rattle.theory.specs.Lists.{Pairwise, InTurn}
use Rattle.model.specs.Mask.{bit, within, share, count, pack}

-- PR and PM: a process reads its inputs, sets its outputs, and has `bound` states. A PM is `prompted`: its prompt inputs, perhaps none, are read after the step of the process that puts them out
pub record Process : Type 0 where
  pub inputs : ℕ
  pub outputs : ℕ
  pub bound : ℕ
  pub prompts : ℕ
  pub prompted : Bool

-- SY: two processes that share one table
pub record Tie : Type 0 where
  pub left : ℕ
  pub right : ℕ

-- AR, every PR and PM and every SY, in file order: the environment variables are the lowest numbered, and `root` are their values at the start
pub record Architecture : Type 0 where
  pub variables : ℕ
  pub environment : ℕ
  pub root : ℕ
  pub processes : List Process
  pub ties : List Tie

-- ED and EX: an edge between automaton states. An ED is met by a label with all of `on` and none of `off`, an EX by any other: it says unless
pub record Edge : Type 0 where
  pub from : ℕ
  pub to : ℕ
  pub on : ℕ
  pub off : ℕ
  pub unless : Bool

-- AU and every ED and EX, in file order: a universal co-Büchi automaton
pub record Automaton : Type 0 where
  pub states : ℕ
  pub initial : ℕ
  pub rejecting : ℕ
  pub edges : List Edge

-- an architecture with its state bounds, and an automaton
pub record Sheet : Type 0 where
  pub architecture : Architecture
  pub automaton : Automaton

-- one process more
unfoldable pub with_process : Architecture → Process → Architecture
with_process a p = record { variables = a.variables; environment = a.environment; root = a.root; processes = a.processes ++ (p ∷ []); ties = a.ties }

-- one tie more
unfoldable pub with_tie : Architecture → Tie → Architecture
with_tie a t = record { variables = a.variables; environment = a.environment; root = a.root; processes = a.processes; ties = a.ties ++ (t ∷ []) }

-- one edge more
unfoldable pub with_edge : Automaton → Edge → Automaton
with_edge u e = record { states = u.states; initial = u.initial; rejecting = u.rejecting; edges = u.edges ++ (e ∷ []) }

-- no process
abbrev pub nobody : Process
nobody = record { inputs = 0; outputs = 0; bound = 0; prompts = 0; prompted = false }

-- process i of these
abbrev pub process_no : List Process → ℕ → Process
process_no ps i = get_or ps i nobody

-- the same process as a PR
abbrev pub as_pr : Process → Process
as_pr p = record { inputs = p.inputs; outputs = p.outputs; bound = p.bound; prompts = 0; prompted = false }

-- all outputs of these processes, in one mask
unfoldable pub outputs_of : List Process → ℕ
outputs_of [] = 0
outputs_of (p ∷ ps) = bit_or p.outputs (outputs_of ps)

-- an output of one of these processes
unfoldable pub owned : List Process → ℕ → Bool
unfolding bit
owned [] i = false
owned (p ∷ ps) i = bit p.outputs i || owned ps i

-- T, the number of composed states: 2 ^ (environment variables) times the product of the bounds
unfoldable pub composed_states : ℕ → List Process → ℕ
composed_states environment [] = 2 ^ environment
composed_states environment (p ∷ ps) = p.bound * composed_states environment ps

-- ---- what a proper sheet has
-- the masks share no bit
abbrev pub Apart : ℕ → ℕ → Type 0
Apart m n = share m n ≡ false

-- a process: known variables, no environment variable as output, at most 4 inputs, none its own output, and 1 to 4 states
pub record ProperProcess (variables environment : ℕ) (p : Process) : Type 0 where
  pub inputs_known : p.inputs < 2 ^ variables
  pub outputs_known : p.outputs < 2 ^ variables
  pub outputs_free : Apart p.outputs (2 ^ environment - 1)
  pub few_inputs : count p.inputs ≤ 4
  pub inputs_of_others : Apart p.inputs p.outputs
  pub some_state : 1 ≤ p.bound
  pub few_states : p.bound ≤ 4

-- every process is proper
abbrev pub ProperProcesses : (variables environment : ℕ) → List Process → Type 0
ProperProcesses variables environment ps = (p : Process) → Memᴰ p ps → ProperProcess variables environment p

-- no two processes share an output
abbrev pub OutputsApart : List Process → Type 0
OutputsApart ps = Pairwise (λ p q. Apart p.outputs q.outputs) ps

-- every bit of m is a bit of n
abbrev pub Within : ℕ → ℕ → Type 0
Within m n = within m n ≡ true

-- the prompt inputs of p, behind these processes: inputs that they put out; a PR has none
pub record ProperPrompts (lower : List Process) (p : Process) : Type 0 where
  pub prompts_read : Within p.prompts p.inputs
  pub prompts_lower : Within p.prompts (outputs_of lower)
  pub none_of_PR : p.prompted ≡ false → p.prompts ≡ 0

-- p and q can share a table: equal bounds, equally many inputs and equally many outputs, and prompt inputs at equal places
pub record SameShape (p q : Process) : Type 0 where
  pub bounds : p.bound ≡ q.bound
  pub inputs : count p.inputs ≡ count q.inputs
  pub outputs : count p.outputs ≡ count q.outputs
  pub prompts : pack p.inputs p.prompts ≡ pack q.inputs q.prompts

-- a tie: two of these processes, different ones, that can share a table
pub record ProperTie (ps : List Process) (t : Tie) : Type 0 where
  pub left_known : t.left < length ps
  pub right_known : t.right < length ps
  pub two : ¬ (t.left ≡ t.right)
  pub shape : SameShape (process_no ps t.left) (process_no ps t.right)

-- every tie is proper
abbrev pub ProperTies : List Process → List Tie → Type 0
ProperTies ps ts = (t : Tie) → Memᴰ t ts → ProperTie ps t

-- AR, every PR and PM and every SY, each by itself and beside those before it
pub record ProperFront (a : Architecture) : Type 0 where
  pub few_variables : a.variables ≤ 8
  pub few_environment : a.environment ≤ 4
  pub environment_known : a.environment ≤ a.variables
  pub root_known : a.root < 2 ^ a.environment
  pub few_processes : length a.processes ≤ 4
  pub processes_proper : ProperProcesses a.variables a.environment a.processes
  pub outputs_apart : OutputsApart a.processes
  pub prompts_proper : InTurn ProperPrompts [] a.processes
  pub few_ties : length a.ties ≤ 3
  pub ties_proper : ProperTies a.processes a.ties

-- all of them together: at least one process, each variable with an owner, and T at most 256
pub record ProperArchitecture (a : Architecture) : Type 0 where
  pub front : ProperFront a
  pub some_process : 1 ≤ length a.processes
  pub all_owned : (i : ℕ) → a.environment ≤ i → i < a.variables → owned a.processes i ≡ true
  pub few_composed : composed_states a.environment a.processes ≤ 256

-- an edge of either kind: known states and variables, on and off apart
pub record ProperEdge (variables states : ℕ) (e : Edge) : Type 0 where
  pub from_known : e.from < states
  pub to_known : e.to < states
  pub on_known : e.on < 2 ^ variables
  pub off_known : e.off < 2 ^ variables
  pub on_off_apart : Apart e.on e.off

-- every edge is proper
abbrev pub ProperEdges : (variables states : ℕ) → List Edge → Type 0
ProperEdges variables states es = (e : Edge) → Memᴰ e es → ProperEdge variables states e

-- AU and every ED and EX, over so many variables
pub record ProperAutomaton (variables : ℕ) (u : Automaton) : Type 0 where
  pub some_states : 1 ≤ u.states
  pub few_states : u.states ≤ 16
  pub initial_known : u.initial < u.states
  pub rejecting_known : u.rejecting < 2 ^ u.states
  pub few_edges : length u.edges ≤ 64
  pub edges_proper : ProperEdges variables u.states u.edges

-- both
pub record ProperSheet (s : Sheet) : Type 0 where
  pub architecture : ProperArchitecture s.architecture
  pub automaton : ProperAutomaton s.architecture.variables s.automaton
